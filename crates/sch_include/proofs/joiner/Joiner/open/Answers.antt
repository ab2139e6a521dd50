-- Where memory runs out before it, no file is opened.
use Rattle.std.proofs.Common.{refl}
use Rattle.std.specs.Prelude.{Err}
use Rattle.sch_include.specs.declared.fault.IncludeError.TheVariants as error
use Rattle.sch_include.proofs.EndLemmas.{shows-opened, shows-unopened}
use Rattle.sch_include.proofs.joiner.Joiner.open.Goals as goal

pub returns-in_err-copied-clause-shows : goal.returns-in_err-copied-clause-shows
returns-in_err-copied-clause-shows g c = shows-unopened (g.S.Shelf.state c.args.shelf.now) c.args.self.now.opened c.args.self.now.opened c.from_residual.result refl c.from_residual.ensures.1

pub returns-in-Err-clause-shows : goal.returns-in-Err-clause-shows
returns-in-Err-clause-shows g c = shows-unopened (g.S.Shelf.state c.args.shelf.now) c.args.self.now.opened c.note_opened.new.self.opened (Err error.Memory) c.in-Err.ensures.unchanged refl

pub returns-in-Ok-clause-shows : goal.returns-in-Ok-clause-shows
returns-in-Ok-clause-shows g c =
    shows-opened (g.S.Shelf.state c.args.shelf.now) (g.S.Shelf.state c.tree_of.new.shelf) c.args.self.now.opened c.note_opened.new.self.opened c.args.name.now c.tree_of.result c.in-Ok.ensures.noted
    c.tree_of.ensures.held c.tree_of.ensures.noted c.tree_of.ensures.misses c.tree_of.ensures.faults c.tree_of.ensures.named c.tree_of.ensures.through
