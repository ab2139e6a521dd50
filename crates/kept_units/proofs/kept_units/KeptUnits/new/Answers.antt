-- Nothing is kept of any unit.
use Rattle.std.proofs.Common.{◌∙◌}
use Rattle.kept_units.proofs.KeepLemmas.{held_nothing, nothing_seen}
use Rattle.kept_units.proofs.kept_units.KeptUnits.new.Goals as goal

pub returns-clause-held : goal.returns-clause-held
returns-clause-held c = λ T.
    held_nothing c.args.plan.now T (record { lets = c.new.result; let_reads = c.new-2.result; found = c.in_ok-new.field-0; reads = c.new-4.result })
    (c.in_ok-new.ensures.patterns ∙ c.pattern_count.ensures) c.new-2.ensures.entries c.new-4.ensures.entries c.new-4.ensures.blocks

pub returns-clause-keeps : goal.returns-clause-keeps
returns-clause-keeps c = λ T.
    (c.nothing_keeps.ensures c.args.plan.now T _ c.new.ensures
    (nothing_seen (record { lets = c.new.result; let_reads = c.new-2.result; found = c.in_ok-new.field-0; reads = c.new-4.result })
    c.new-2.ensures.entries c.new-4.ensures.entries)).0

pub returns-clause-stale : goal.returns-clause-stale
returns-clause-stale c =
    nothing_seen (record { lets = c.new.result; let_reads = c.new-2.result; found = c.in_ok-new.field-0; reads = c.new-4.result })
    c.new-2.ensures.entries c.new-4.ensures.entries
