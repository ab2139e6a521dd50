-- The last and the first of node-sets live; where either set is empty, the other is the union.
use Rattle.std.proofs.Common.{◌≡◌, ℕ, List, [], ◌∷◌, ◌++◌, sym, ◌∙◌, subst, arith}
use Rattle.doc_tree.proofs.ListLemmas.{occurs-append, occurs-head}
use Rattle.doc_axes.specs.Sets.{IsNodeSet, union}
use Rattle.doc_axes.proofs.NodeSets.{member_lives, union_behind}
use Rattle.doc_axes.proofs.sets.all_before.Goals as goal

pub is_before-requires-clause-a_lives : goal.is_before-requires-clause-a_lives
is_before-requires-clause-a_lives c =
    let x : ℕ = c.in-Some.last.now in
    let front : List ℕ = c.in-Some.field-0-1.now in
    member_lives c.args.tree.now.nodes c.laws.ensures.ordered x (front ++ x ∷ [])
    (subst (IsNodeSet c.args.tree.now.nodes) c.in-Some.ensures.cases.0 c.requires.a_set)
    (omega (arith, occurs-append x front (x ∷ []), occurs-head x []))

pub is_before-requires-clause-b_lives : goal.is_before-requires-clause-b_lives
is_before-requires-clause-b_lives c =
    let y : ℕ = c.in-Some-split_first.first.now in
    let rest : List ℕ = c.in-Some-split_first.field-0-1.now in
    member_lives c.args.tree.now.nodes c.laws.ensures.ordered y (y ∷ rest)
    (subst (IsNodeSet c.args.tree.now.nodes) c.in-Some-split_first.ensures.cases.0 c.requires.b_set)
    (occurs-head y rest)

pub returns : goal.returns
returns c = λ h.
    let T = c.args.tree.now.nodes in
    let x : ℕ = c.in-Some.last.now in
    let front : List ℕ = c.in-Some.field-0-1.now in
    let y : ℕ = c.in-Some-split_first.first.now in
    let rest : List ℕ = c.in-Some-split_first.field-0-1.now in
    let ea : c.args.a.now ≡ front ++ x ∷ [] = c.in-Some.ensures.cases.0 in
    let eb : c.args.b.now ≡ y ∷ rest = c.in-Some-split_first.ensures.cases.0 in
    let k : union T (front ++ x ∷ []) (y ∷ rest) ≡ (front ++ x ∷ []) ++ y ∷ rest =
    union_behind T c.laws.ensures.ordered front x y rest (subst (IsNodeSet T) ea c.requires.a_set) (subst (IsNodeSet T) eb c.requires.b_set) (sym c.is_before.ensures ∙ h) in
    subst (λ a. union T a c.args.b.now ≡ a ++ c.args.b.now) (sym ea) (subst (λ b. union T (front ++ x ∷ []) b ≡ (front ++ x ∷ []) ++ b) (sym eb) k)
