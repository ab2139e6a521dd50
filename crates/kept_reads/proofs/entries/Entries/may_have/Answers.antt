-- A unit has read what the index has of it.
use Rattle.xp_outcome.specs.Evaluation.{names_along}
use Rattle.kept_reads.proofs.EntryLemmas.{never_read}
use Rattle.kept_reads.proofs.entries.Entries.may_have.Goals as goal

pub returns : goal.returns
returns c =
    never_read c.may_have.result c.self.inside.index c.self.inside.lets.items c.args.self.now
    (names_along c.args.names.now.axis c.args.names.now.node) c.self.invariant c.self.view_is c.may_have.ensures
