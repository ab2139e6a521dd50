-- A unit has read what the index has of it.
use Rattle.kept_reads.proofs.EntryLemmas.{never_read_far}
use Rattle.kept_reads.proofs.entries.Entries.may_have_far.Goals as goal

pub returns : goal.returns
returns c =
    never_read_far c.may_have_far.result c.self.inside.index c.self.inside.lets.items c.args.self.now c.self.invariant c.self.view_is
    c.may_have_far.ensures
