-- The schema's own file is opened, and read where it is a document.
use Rattle.sch_include.specs.declared.fault.IncludeError.TheVariants as error
use Rattle.sch_include.proofs.WholeLemmas.{is-unread, through-memory}
use Rattle.sch_include.proofs.including.include_all.Goals as goal

pub returns-in_err-joiner-clause-through : goal.returns-in_err-joiner-clause-through
returns-in_err-joiner-clause-through g c =
    through-memory (g.S.Shelf.state c.args.shelf.now) c.from_residual.result (is-unread c.from_residual.result error.Memory c.from_residual.ensures.1)

pub returns-in-Ok-clause-read : goal.returns-in-Ok-clause-read
returns-in-Ok-clause-read g c = rw c.into_tree.ensures c.in-Ok.ensures.read

pub returns-in-Ok-clause-document : goal.returns-in-Ok-clause-document
returns-in-Ok-clause-document g c = rw c.into_tree.ensures c.in-Ok.ensures.document

pub returns-in-Ok-clause-cap : goal.returns-in-Ok-clause-cap
returns-in-Ok-clause-cap g c = rw c.into_tree.ensures c.in-Ok.ensures.cap
