-- The last kid with the name has its own count, and behind it is none.
use Rattle.std.proofs.Common.{◌≡◌, ◌-◌, [], suc, drop, filter, sym, ap, ◌∙◌, arith}
use Rattle.doc_table.specs.Table.{numbered}
use Rattle.doc_tree.specs.Alike.{is_element_called}
use Rattle.doc_tree.proofs.AlikeLemmas.{counted_from_end}
use Rattle.doc_tree.proofs.tree.Tree.count_named.Goals as goal

pub returns-then-is_called_as : goal.returns-then-is_called_as
returns-then-is_called_as c known =
    let name = numbered c.args.self.now.names c.args.name in
    let next : suc (c.loop-left.left - 1) ≡ c.loop-left.left = omega (arith, c.loop-left-test.true) in
    let none : filter (is_element_called c.args.self.now.nodes name.uri name.local) (drop (suc (c.loop-left.left - 1)) c.kids-kids.result.now) ≡ [] =
    ap (λ i. filter (is_element_called c.args.self.now.nodes name.uri name.local) (drop i c.kids-kids.result.now)) next ∙ c.loop-left.invariant.1 in
    counted_from_end c.args.self.now.nodes c.args.parent name.uri name.local c.kids-kids.result.now (c.loop-left.left - 1) c.index-kids-left.result c.count_behind.result
    c.kids-kids.ensures (omega (arith, c.loop-left-test.true, c.loop-left.invariant.0)) c.index-kids-left.is (sym c.is_called_as.ensures ∙ c.if-is_called_as.true) none
    c.count_behind.ensures known
