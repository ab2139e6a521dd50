-- The schema's own file is opened, and read where it is a document.
use Rattle.std.proofs.Common.{◌∙◌, ap}
use Rattle.doc_tree.specs.Table.{Contents}
use Rattle.sch_io.specs.ReadThrough.{all_files}
use Rattle.sch_io.proofs.ReadThrough.{through_then}
use Rattle.sch_include.specs.declared.joiner.Joiner.{Joiner}
use Rattle.sch_include.specs.inner.Joining.{with_tree}
use Rattle.sch_include.proofs.FileLemmas.{is-err}
use Rattle.sch_include.proofs.WholeLemmas.{counted-stopped, read-passed, read-stopped, read-through, read-unopened, through-passed, tree-read}
use Rattle.sch_include.proofs.joiner.Joiner.read_own.Goals as goal

pub returns-in_err-tree-clause-read : goal.returns-in_err-tree-clause-read
returns-in_err-tree-clause-read g c =
    read-passed (g.S.Shelf.state c.args.shelf.now) (g.S.Shelf.state c.open.new.shelf) c.args.name.now (with_tree c.from_residual.result c.open.new.self.tree) c.in_err-tree.field-0.0
    (ap (λ r. with_tree r c.open.new.self.tree) (is-err c.from_residual.result c.in_err-tree.field-0.0 c.from_residual.ensures.1))
    (read-unopened (g.S.Shelf.state c.args.shelf.now) (g.S.Shelf.state c.open.new.shelf) c.args.name.now c.args.self.now.opened c.requires.unopened c.open.new.self.opened c.in_err-tree.field-0.0
    c.in_err-tree.ensures.shows c.in_err-tree.ensures.once c.in_err-tree.ensures.opened c.in_err-tree.ensures.told)

pub returns-in_err-read_whole-clause-read : goal.returns-in_err-read_whole-clause-read
returns-in_err-read_whole-clause-read g c =
    read-passed (g.S.Shelf.state c.args.shelf.now) (g.S.Shelf.state c.read_whole.new.shelf) c.args.name.now (with_tree c.from_residual-in_err-read_whole.result c.read_whole.new.self.tree) c.in_err-read_whole.field-0.0
    (ap (λ r. with_tree r c.read_whole.new.self.tree) (is-err c.from_residual-in_err-read_whole.result c.in_err-read_whole.field-0.0 c.from_residual-in_err-read_whole.ensures.1))
    (read-stopped (g.S.Shelf.state c.args.shelf.now) (g.S.Shelf.state c.open.new.shelf) c.args.name.now c.args.self.now.opened c.requires.unopened (g.S.Shelf.state c.read_whole.new.shelf) c.in_ok-tree.tree
    c.open.new.self c.read_whole.new.self (c.in_ok-tree.ensures.opened (tree-read c.in_ok-tree.tree)) c.in_ok-tree.ensures.shows c.in_ok-tree.ensures.told c.in_err-read_whole.field-0.0 c.in_err-read_whole.ensures.shows c.in_err-read_whole.ensures.reads)

pub returns-in_err-read_whole-clause-misses : goal.returns-in_err-read_whole-clause-misses
returns-in_err-read_whole-clause-misses g c =
    (counted-stopped (g.S.Shelf.state c.args.shelf.now) (g.S.Shelf.state c.open.new.shelf) c.args.name.now c.args.self.now.opened c.requires.unopened (g.S.Shelf.state c.read_whole.new.shelf) c.in_ok-tree.tree
    c.open.new.self c.read_whole.new.self (c.in_ok-tree.ensures.opened (tree-read c.in_ok-tree.tree)) c.in_ok-tree.ensures.shows c.in_err-read_whole.field-0.0 c.in_err-read_whole.ensures.shows c.from_residual-in_err-read_whole.result
    (is-err c.from_residual-in_err-read_whole.result c.in_err-read_whole.field-0.0 c.from_residual-in_err-read_whole.ensures.1)).0

pub returns-in_err-read_whole-clause-faults : goal.returns-in_err-read_whole-clause-faults
returns-in_err-read_whole-clause-faults g c =
    (counted-stopped (g.S.Shelf.state c.args.shelf.now) (g.S.Shelf.state c.open.new.shelf) c.args.name.now c.args.self.now.opened c.requires.unopened (g.S.Shelf.state c.read_whole.new.shelf) c.in_ok-tree.tree
    c.open.new.self c.read_whole.new.self (c.in_ok-tree.ensures.opened (tree-read c.in_ok-tree.tree)) c.in_ok-tree.ensures.shows c.in_err-read_whole.field-0.0 c.in_err-read_whole.ensures.shows c.from_residual-in_err-read_whole.result
    (is-err c.from_residual-in_err-read_whole.result c.in_err-read_whole.field-0.0 c.from_residual-in_err-read_whole.ensures.1)).1

pub returns-in_err-read_whole-clause-through : goal.returns-in_err-read_whole-clause-through
returns-in_err-read_whole-clause-through g c =
    (counted-stopped (g.S.Shelf.state c.args.shelf.now) (g.S.Shelf.state c.open.new.shelf) c.args.name.now c.args.self.now.opened c.requires.unopened (g.S.Shelf.state c.read_whole.new.shelf) c.in_ok-tree.tree
    c.open.new.self c.read_whole.new.self (c.in_ok-tree.ensures.opened (tree-read c.in_ok-tree.tree)) c.in_ok-tree.ensures.shows c.in_err-read_whole.field-0.0 c.in_err-read_whole.ensures.shows c.from_residual-in_err-read_whole.result
    (is-err c.from_residual-in_err-read_whole.result c.in_err-read_whole.field-0.0 c.from_residual-in_err-read_whole.ensures.1)).2

pub returns-clause-read : goal.returns-clause-read
returns-clause-read g c =
    read-through (g.S.Shelf.state c.args.shelf.now) (g.S.Shelf.state c.open.new.shelf) c.args.name.now c.args.self.now.opened c.requires.unopened (g.S.Shelf.state c.read_whole.new.shelf) c.in_ok-tree.tree
    c.open.new.self c.read_whole.new.self (c.in_ok-tree.ensures.opened (tree-read c.in_ok-tree.tree)) c.in_ok-tree.ensures.shows c.in_ok-tree.ensures.told c.in_ok-read_whole.ensures.shows c.in_ok-read_whole.ensures.reads c.in_ok-read_whole.ensures.document

pub returns-in_err-tree-clause-through : goal.returns-in_err-tree-clause-through
returns-in_err-tree-clause-through g c =
    through-passed (g.S.Shelf.state c.args.shelf.now) (g.S.Shelf.state c.open.new.shelf) c.from_residual.result c.in_err-tree.field-0.0
    (is-err c.from_residual.result c.in_err-tree.field-0.0 c.from_residual.ensures.1) c.in_err-tree.ensures.shows.through

pub returns-clause-through : goal.returns-clause-through
returns-clause-through g c =
    through_then all_files (g.S.Shelf.state c.args.shelf.now) (g.S.Shelf.state c.open.new.shelf) (g.S.Shelf.state c.read_whole.new.shelf) c.in_ok-tree.ensures.shows.through c.in_ok-read_whole.ensures.shows.through

pub returns-clause-cap : goal.returns-clause-cap
returns-clause-cap g c =
    c.in_ok-read_whole.ensures.cap
    ∙ (ap (λ (j : Joiner). j.tree.pair_cap) c.in_ok-tree.ensures.same ∙ ap (λ (t : Contents). t.pair_cap) c.requires.alone)
