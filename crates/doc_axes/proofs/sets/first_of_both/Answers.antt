-- The earlier of the two first nodes comes next, and where both are one node it comes once.
use Rattle.std.proofs.Common.{◌≡◌, ◌≢◌, ◌∷◌, sym, ap, ◌∙◌, subst, eqb-true, eq-eqb, true≢false}
use Rattle.doc_tree.proofs.ListLemmas.{occurs-head}
use Rattle.doc_axes.specs.Sets.{IsNodeSet, union}
use Rattle.doc_axes.proofs.NodeSets.{member_lives, tail_set, union_both, union_first, union_second}
use Rattle.doc_axes.proofs.sets.first_of_both.Goals as goal

pub is_before-requires-clause-a_lives : goal.is_before-requires-clause-a_lives
is_before-requires-clause-a_lives c =
    let p = c.in_ok-x in
    member_lives c.args.tree.now.nodes c.laws.ensures.ordered p.x.now (p.x.now ∷ p.behind_x.now)
    (subst (IsNodeSet c.args.tree.now.nodes) p.ensures.cases.0 c.requires.a_set) (occurs-head p.x.now p.behind_x.now)

pub is_before-requires-clause-b_lives : goal.is_before-requires-clause-b_lives
is_before-requires-clause-b_lives c =
    let p = c.in_ok-y in
    member_lives c.args.tree.now.nodes c.laws.ensures.ordered p.y.now (p.y.now ∷ p.behind_y.now)
    (subst (IsNodeSet c.args.tree.now.nodes) p.ensures.cases.0 c.requires.b_set) (occurs-head p.y.now p.behind_y.now)

pub returns-then-eq-clause-first : goal.returns-then-eq-clause-first
returns-then-eq-clause-first c =
    let T = c.args.tree.now.nodes in
    let p = c.in_ok-x in
    let q = c.in_ok-y in
    let same : p.x.now ≡ q.y.now = eqb-true p.x.now q.y.now (sym c.eq.ensures ∙ c.if-eq.true) in
    let ea : c.args.a.now ≡ p.x.now ∷ p.behind_x.now = p.ensures.cases.0 in
    let eb : c.args.b.now ≡ q.y.now ∷ q.behind_y.now = q.ensures.cases.0 in
    ap (λ l. union T l c.args.b.now) ea
    ∙ (ap (union T (p.x.now ∷ p.behind_x.now)) eb
    ∙ union_both T c.laws.ensures.ordered p.x.now q.y.now p.behind_x.now q.behind_y.now (subst (IsNodeSet T) ea c.requires.a_set) (subst (IsNodeSet T) eb c.requires.b_set) same)

pub returns-then-eq-clause-sets : goal.returns-then-eq-clause-sets
returns-then-eq-clause-sets c =
    let T = c.args.tree.now.nodes in
    let p = c.in_ok-x in
    let q = c.in_ok-y in (
      tail_set T c.laws.ensures.ordered p.x.now p.behind_x.now (subst (IsNodeSet T) p.ensures.cases.0 c.requires.a_set),
      tail_set T c.laws.ensures.ordered q.y.now q.behind_y.now (subst (IsNodeSet T) q.ensures.cases.0 c.requires.b_set),
    )

pub returns-then-is_before-clause-first : goal.returns-then-is_before-clause-first
returns-then-is_before-clause-first c =
    let T = c.args.tree.now.nodes in
    let p = c.in_ok-x in
    let q = c.in_ok-y in
    let ea : c.args.a.now ≡ p.x.now ∷ p.behind_x.now = p.ensures.cases.0 in
    let eb : c.args.b.now ≡ q.y.now ∷ q.behind_y.now = q.ensures.cases.0 in
    ap (λ l. union T l c.args.b.now) ea
    ∙ (ap (union T (p.x.now ∷ p.behind_x.now)) eb
    ∙ (union_first T c.laws.ensures.ordered p.x.now q.y.now p.behind_x.now q.behind_y.now (subst (IsNodeSet T) ea c.requires.a_set) (subst (IsNodeSet T) eb c.requires.b_set)
    (sym c.is_before.ensures ∙ c.if-is_before.true)
    ∙ ap (λ l. p.x.now ∷ union T p.behind_x.now l) (sym eb)))

pub returns-then-is_before-clause-sets : goal.returns-then-is_before-clause-sets
returns-then-is_before-clause-sets c =
    let T = c.args.tree.now.nodes in
    let p = c.in_ok-x in
    (tail_set T c.laws.ensures.ordered p.x.now p.behind_x.now (subst (IsNodeSet T) p.ensures.cases.0 c.requires.a_set), c.requires.b_set)

pub returns-else-is_before-clause-first : goal.returns-else-is_before-clause-first
returns-else-is_before-clause-first c =
    let T = c.args.tree.now.nodes in
    let p = c.in_ok-x in
    let q = c.in_ok-y in
    let differ : p.x.now ≢ q.y.now = λ e. true≢false (sym (eq-eqb p.x.now q.y.now e) ∙ (sym c.eq.ensures ∙ c.if-eq.false)) in
    let ea : c.args.a.now ≡ p.x.now ∷ p.behind_x.now = p.ensures.cases.0 in
    let eb : c.args.b.now ≡ q.y.now ∷ q.behind_y.now = q.ensures.cases.0 in
    ap (λ l. union T l c.args.b.now) ea
    ∙ (ap (union T (p.x.now ∷ p.behind_x.now)) eb
    ∙ (union_second T c.laws.ensures.ordered p.x.now q.y.now p.behind_x.now q.behind_y.now (subst (IsNodeSet T) ea c.requires.a_set) (subst (IsNodeSet T) eb c.requires.b_set)
    differ (sym c.is_before.ensures ∙ c.if-is_before.false)
    ∙ ap (λ l. q.y.now ∷ union T l q.behind_y.now) (sym ea)))

pub returns-else-is_before-clause-sets : goal.returns-else-is_before-clause-sets
returns-else-is_before-clause-sets c =
    let T = c.args.tree.now.nodes in
    let q = c.in_ok-y in
    (c.requires.a_set, tail_set T c.laws.ensures.ordered q.y.now q.behind_y.now (subst (IsNodeSet T) q.ensures.cases.0 c.requires.b_set))
