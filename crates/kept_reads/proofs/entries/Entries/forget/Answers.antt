-- The index has no cell of the unit any more.
use Rattle.std.proofs.Common.{◌∙◌, List, Option, None, set, ap}
use Rattle.xp_outcome.specs.Recorded.{Recorded}
use Rattle.kept_reads.proofs.EntryLemmas.{entries_forgot, stale_forgot}
use Rattle.kept_reads.proofs.entries.Entries.forget.Goals as goal

pub invariant_of-self : goal.invariant_of-self
invariant_of-self c =
    stale_forgot c.self.inside.index c.remove.new.self c.self.inside.lets.items c.set.new.lets.items c.args.place c.remove.ensures c.set.ensures
    c.self.invariant

pub returns : goal.returns
returns c =
    entries_forgot c.self.inside.index c.remove.new.self c.self.inside.lets.items c.set.new.lets.items c.args.place c.remove.ensures c.set.ensures
    ∙ ap (λ (entries : List (Option Recorded)). set entries c.args.place None) c.self.view_is
