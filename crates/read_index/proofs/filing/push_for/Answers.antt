-- The cell is put where the axis is of the kind.
use Rattle.std.proofs.Common.{rules, ◌≡◌, ◌∙◌, ◌++◌, ◌∷◌, [], ap}
use Rattle.doc_tree.specs.cell.Cell.{Cell}
use Rattle.read_index.specs.Names.{is_far}
use Rattle.read_index.specs.inner.Filing.{filed}
use Rattle.read_index.proofs.FilingLemmas.{pushed}
use Rattle.read_index.proofs.filing.push_for.Goals as goal

pub returns-in_ok-push : goal.returns-in_ok-push
returns-in_ok-push c =
    let kind : is_far c.args.item.axis ≡ c.args.far = search rules in
    let put : c.push.new.self.items ≡ c.args.cells.now.items ++ filed c.args.item.axis c.args.item.node ∷ [] =
    c.in_ok-push.ensures.items ∙ ap (λ (d : Cell). c.args.cells.now.items ++ d ∷ []) c.filed.ensures in
    pushed c.args.far c.args.cells.now.items c.push.new.self.items c.args.item kind put
