use Rattle.std.proofs.Common.{◌<◌, length, sym, ◌∙◌, rules, arith}
use Rattle.xp_typed_tree.specs.TypedView.{typed_tree_of}
use Rattle.xp_types.proofs.Looping.{compared-on}
use Rattle.xp_types.proofs.typing.compared_with.Goals as goal

pub returns : goal.returns
returns c =
    let some : 0 < length c.args.rest.items = search (rules, arith) in
    c.compare.ensures ∙ sym (compared-on (typed_tree_of c.args.first.value) c.args.rest.items some)
