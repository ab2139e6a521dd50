-- The last of the nodes so far lives, and with a node behind it they are a node-set again.
use Rattle.std.proofs.Common.{◌≡◌, ℕ, List, [], ◌∷◌, ◌++◌, ◌+◌, take, refl, sym, ap, ◌∙◌, subst, arith}
use Rattle.std.proofs.lemmas.List.{take_all, take_more}
use Rattle.doc_tree.proofs.ListLemmas.{occurs-append, occurs-head}
use Rattle.doc_axes.specs.Sets.{IsNodeSet}
use Rattle.doc_axes.proofs.NodeSets.{member_lives, one_live, set_more}
use Rattle.doc_axes.proofs.sets.follow_in_order.Goals as goal

pub loop-n-init : goal.loop-n-init
loop-n-init c = record {
  ends = ([], refl);
  set = sym (one_live c.args.tree.now.nodes c.laws.ensures.ordered c.args.first c.requires);
}

pub is_before-requires-clause-a_lives : goal.is_before-requires-clause-a_lives
is_before-requires-clause-a_lives c =
    let sofar : List ℕ = c.args.first ∷ take c.loop-n.n-index c.args.rest.now in
    let front : List ℕ = c.loop-n.invariant.ends.0 in
    let last : ℕ = c.loop-n.last in
    member_lives c.args.tree.now.nodes c.laws.ensures.ordered last (front ++ last ∷ [])
    (subst (IsNodeSet c.args.tree.now.nodes) c.loop-n.invariant.ends.1 c.loop-n.invariant.set)
    (omega (arith, occurs-append last front (last ∷ []), occurs-head last []))

pub loop-n-preserved : goal.loop-n-preserved
loop-n-preserved c =
    let T = c.args.tree.now.nodes in
    let n : ℕ = c.n-item.result in
    let sofar : List ℕ = c.args.first ∷ take c.loop-n.n-index c.args.rest.now in
    let more : c.args.first ∷ take (c.loop-n.n-index + 1) c.args.rest.now ≡ sofar ++ n ∷ [] =
    ap (λ l. c.args.first ∷ l) (take_more c.args.rest.now c.loop-n.n-index n c.loop-n-test.true ∙ ap (λ m. take c.loop-n.n-index c.args.rest.now ++ m ∷ []) (sym c.n-item.is)) in
    record {
      ends = (sofar, more);
      set = subst (IsNodeSet T) (sym more)
          (set_more T c.laws.ensures.ordered sofar c.loop-n.invariant.ends.0 c.loop-n.last n c.loop-n.invariant.ends.1 c.loop-n.invariant.set
          (sym c.contains.ensures ∙ c.if-not-contains.false) (sym c.is_before.ensures ∙ c.if-not-is_before.false));
    }

pub returns : goal.returns
returns c = λ h.
    subst (λ l. IsNodeSet c.args.tree.now.nodes (c.args.first ∷ l)) (take_all c.loop-n.n-index c.args.rest.now c.loop-n-test.false) c.loop-n.invariant.set
