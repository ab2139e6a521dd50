use Rattle.std.proofs.Common.{◌≡◌, ℕ, List, [], ◌∷◌, ◌++◌, sym, ap, ◌∙◌, append_assoc}
use Rattle.doc_axes.specs.Sets.{union}
use Rattle.doc_axes.proofs.sets.push_merged.Goals as goal

-- one node is moved from what is left to what is listed
moved : (list next left left' whole : List ℕ) (n : ℕ) → next ≡ list ++ n ∷ [] → left' ≡ n ∷ left → list ++ left' ≡ whole → next ++ left ≡ whole
moved list next left left' whole n pushed first rest =
    ap (λ l. l ++ left) pushed ∙ (append_assoc list (n ∷ []) left ∙ (ap (λ l. list ++ l) (sym first) ∙ rest))

pub loop-next-preserved : goal.loop-next-preserved
loop-next-preserved c = record {
  whole = moved c.loop-next.list c.push.new.self _ _ _ _ c.in_ok-push.ensures.pushed c.in-Some.ensures.first c.loop-next.invariant.whole;
  a_set = c.in-Some.ensures.sets.0;
  b_set = c.in-Some.ensures.sets.1;
}

-- what is left is the union of itself and nothing
ended : (list left_a left_b left whole : List ℕ) → left ≡ left_a ++ left_b → list ++ left ≡ whole → (list ++ left_a) ++ left_b ≡ whole
ended list left_a left_b left whole e rest = append_assoc list left_a left_b ∙ (ap (λ l. list ++ l) (sym e) ∙ rest)

pub returns : goal.returns
returns c =
    let T = c.args.tree.now.nodes in
    let a : List ℕ = c.loop-next.rest_a.now in
    let b : List ℕ = c.loop-next.rest_b.now in
    let listed : c.push_all-2.new.self ≡ (c.loop-next.list ++ a) ++ b = c.in_ok-push_all-2.ensures.pushed ∙ ap (λ l. l ++ b) c.in_ok-push_all.ensures.pushed in
    listed ∙ ended c.loop-next.list a b (union T a b) _ c.in_default.ensures.first c.loop-next.invariant.whole
