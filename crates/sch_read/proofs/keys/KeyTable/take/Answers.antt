-- A name is found where one is kept that is seen as the same.
use Rattle.std.proofs.Common.{◌≡◌, not, ap, ◌∙◌}
use Rattle.std.proofs.Common.{ap₂}
use Rattle.sch_read.specs.declared.keys.KeptKey.{KeptKey}
use Rattle.sch_read.specs.inner.Kept.{key_seen, use_seen}
use Rattle.sch_rules.specs.Keys.{is_taken}
use Rattle.sch_read.proofs.KeyLemmas.{taken-kept}
use Rattle.sch_read.proofs.keys.KeyTable.take.Goals as goal

pub returns-clause-fresh : goal.returns-clause-fresh
returns-clause-fresh c =
    let key : KeptKey = record { kind = c.args.name.kind; within = c.index.result; name = c.in_ok-from_str.field-0 } in
    let seen : key_seen key ≡ use_seen c.args.name =
    λ t. record { kind = c.args.name.kind; within = c.index.ensures.value t; name = c.in_ok-from_str.ensures.ok t } in
    c.in_ok-fresh.ensures.added ∙ ap not (taken-kept key c.self.inside.keys.keys ∙ ap₂ (λ taken k. is_taken taken k) c.self.view_is seen)
