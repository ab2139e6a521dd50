-- Both trees say what the events say, and so the same with namespaces: they are the same tree.
use Rattle.std.proofs.Common.{◌≡◌, sym, ◌∙◌}
use Rattle.doc_tree.specs.Lines.{lines}
use Rattle.name_scopes.proofs.round_trip.tree_comes_back.Goals as goal

pub returns : goal.returns
returns c T U form scoped is loaded =
    let told : lines U ≡ lines T =
    c.namespaces_follow.ensures U T loaded.well_formed form loaded.in_scope scoped (loaded.lines_are ∙ sym (c.text_comes_back.ensures T form scoped is).lines_are) in
    (c.same_lines_same_tree.ensures T U form loaded.well_formed (sym told), told)
