-- Each live number is below the count of numbers made, so that the loop comes to each.
use Rattle.std.proofs.Common.{◌≡◌, ℕ, true, false, length, sym, ap, ◌∙◌, subst, arith}
use Rattle.std.proofs.lemmas.Bool.{and_parts}
use Rattle.doc_table.specs.Kinds.{is_element}
use Rattle.doc_table.specs.Table.{kind_of}
use Rattle.doc_table.specs.Walks.{above, order}
use Rattle.doc_tree.specs.Refusals.{is_too_deep_at}
use Rattle.doc_tree.proofs.RefusalLemmas.{any-of, below-next, deep-at, element-live, none-of}
use Rattle.doc_tree.proofs.tree.Tree.is_too_deep.Goals as goal

pub loop-number-init : goal.loop-number-init
loop-number-init c m h = absurd (omega (arith, h))

pub returns-then-is_deep_element : goal.returns-then-is_deep_element
returns-then-is_deep_element c =
    let n : ℕ = c.from_number.result in
    let tested : is_element (kind_of c.args.piece.now.nodes n) ≡ true = (and_parts _ _ (sym c.is_deep_element.ensures ∙ c.if-is_deep_element.true)).0 in
    sym (any-of (is_too_deep_at c.args.self.now.nodes c.args.parent c.args.piece.now.nodes) n (order c.args.piece.now.nodes)
    (sym (c.laws-2.ensures.ordered.live_in_order n) ∙ element-live c.args.piece.now.nodes n tested)
    (deep-at c.args.self.now.nodes c.args.piece.now.nodes c.args.parent n c.depth_under-depth.result true
    (c.depth_under-depth.ensures ∙ ap (λ t. length (above t.nodes c.args.parent)) c.self.view_is) (sym c.if-is_deep_element.true ∙ c.is_deep_element.ensures)))

pub loop-number-preserved : goal.loop-number-preserved
loop-number-preserved c =
    below-next (λ m. is_too_deep_at c.args.self.now.nodes c.args.parent c.args.piece.now.nodes m ≡ false) c.loop-number.number c.loop-number.invariant
    (subst (λ n. is_too_deep_at c.args.self.now.nodes c.args.parent c.args.piece.now.nodes n ≡ false) c.from_number.ensures
    (deep-at c.args.self.now.nodes c.args.piece.now.nodes c.args.parent c.from_number.result c.depth_under-depth.result false
    (c.depth_under-depth.ensures ∙ ap (λ t. length (above t.nodes c.args.parent)) c.self.view_is) (sym c.if-is_deep_element.false ∙ c.is_deep_element.ensures)))

pub returns : goal.returns
returns c =
    sym (none-of (is_too_deep_at c.args.self.now.nodes c.args.parent c.args.piece.now.nodes) (order c.args.piece.now.nodes)
    (λ m h. c.loop-number.invariant m
    (omega (arith, c.loop-number-test.false, c.numbers_made-number-end.ensures, ap (λ t. length t.nodes) c.piece.view_is, c.laws-2.ensures.ordered.made m h))))
