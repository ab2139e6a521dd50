-- What lets change of what is seen.
use Rattle.std.proofs.Common.{◌≡◌, ℕ, List, [], ◌∷◌, ◌++◌, length, take, Ok, sym, ap, ◌∙◌, subst, append_assoc, append-nil}
use Rattle.sch_compiled.specs.declared.parts.PlanLet.{PlanLet}
use Rattle.sch_model.specs.declared.parts.LetDecl.{LetDecl}
use Rattle.xp_typed_tree.specs.TypedTree.{TypedTree}
use Rattle.xp_typed_tree.specs.WellTyped.{type_of}
use Rattle.xp_types.specs.Scope.{Named}
use Rattle.sch_plan.specs.Broken.{second_let}
use Rattle.sch_plan.specs.Expressions.{expression}
use Rattle.sch_plan.specs.Lets.{Seen, all_lets, is_seen, one_let, scope, seen_after}
use Rattle.sch_phases.specs.Walk.{Then, Stretch, each, goes}
use Rattle.sch_plan.proofs.Inversions.{same-value, then-ok, unless-ok}
use Rattle.sch_plan.proofs.ScopeLemmas.{taken}

-- ---- one let

pub record OneLet (seen : Seen) (its : LetDecl) (one : Seen × PlanLet) : Type 0 where
  pub expr : TypedTree
  pub came : expression (scope seen) its.node its.value (Ok expr)
  pub is : one ≡ (seen_after seen its.name (type_of expr), record { name = its.name; expr = expr })

pub one-let : (seen : Seen) (its : LetDecl) (one : Seen × PlanLet) → one_let seen its (Ok one) → OneLet seen its one
one-let seen its one h =
    let next : TypedTree → Stretch (Seen × PlanLet) = λ t. goes (seen_after seen its.name (type_of t), record { name = its.name; expr = t }) in
    let k = unless-ok (is_seen seen its.name) (second_let its.node its.name) (Then (expression (scope seen) its.node its.value) next) one h in
    let t = then-ok (expression (scope seen) its.node its.value) next one k.1 in
    record { expr = t.0; came = t.1; is = same-value one _ t.2 }

-- ---- lets in order

-- how lets come about: none, or one and the others
pub record MoreLets (seen : Seen) (its : LetDecl) (more : List LetDecl) (now : Seen) (out : List PlanLet) : Type 0 where
  pub one : Seen × PlanLet
  pub came : one_let seen its (Ok one)
  pub rest : List PlanLet
  pub others : all_lets one.0 more (Ok (now, rest))
  pub is : out ≡ one.1 ∷ rest

pub more-lets : (seen : Seen) (its : LetDecl) (more : List LetDecl) (now : Seen) (out : List PlanLet) → all_lets seen (its ∷ more) (Ok (now, out)) → MoreLets seen its more now out
more-lets seen its more now out h =
    let one = then-ok (one_let seen its) (λ one. Then (each one_let one.0 more) (λ rest. goes (rest.0, one.1 ∷ rest.1))) (now, out) h in
    let rest = then-ok (each one_let one.0.0 more) (λ rest. goes (rest.0, one.0.1 ∷ rest.1)) (now, out) one.2 in
    let same = same-value (now, out) (rest.0.0, one.0.1 ∷ rest.0.1) rest.2 in
    record {
      one = one.0;
      came = one.1;
      rest = rest.0.1;
      others = subst (λ s. all_lets one.0.0 more (Ok (s, rest.0.1))) (sym (ap (λ p. p.0) same)) rest.1;
      is = ap (λ p. p.1) same;
    }

-- variables are added at the end, and nothing else changes but the next slot
pub record Grown (seen now : Seen) : Type 0 where
  pub prefixes : now.prefixes ≡ seen.prefixes
  pub more : List Named
  pub variables : now.variables ≡ seen.variables ++ more

pub grown-by : (seen : Seen) (lets : List LetDecl) (now : Seen) (out : List PlanLet) → all_lets seen lets (Ok (now, out)) → Grown seen now
grown-by seen [] now out h =
    let same : now ≡ seen = ap (λ p. p.0) (same-value (now, out) (seen, []) h) in
    record { prefixes = ap (λ s. s.prefixes) same; more = []; variables = ap (λ s. s.variables) same ∙ sym (append-nil seen.variables) }
grown-by seen (its ∷ lets) now out h =
    let m : MoreLets seen its lets now out = more-lets seen its lets now out h in
    let o : OneLet seen its m.one = one-let seen its m.one m.came in
    let step : m.one.0 ≡ seen_after seen its.name (type_of o.expr) = ap (λ p. p.0) o.is in
    let g : Grown m.one.0 now = grown-by m.one.0 lets now m.rest m.others in
    let v : Named = record { name = its.name; place = seen.next; type = type_of o.expr } in
    record {
      prefixes = g.prefixes ∙ ap (λ s. s.prefixes) step;
      more = v ∷ g.more;
      variables = g.variables ∙ ap (λ s. s.variables ++ g.more) step ∙ append_assoc seen.variables (v ∷ []) g.more;
    }

-- the variables that were there before are there after a cut
pub cut-seen : (seen : Seen) (lets : List LetDecl) (now cut : Seen) (out : List PlanLet) (mark : ℕ) → all_lets seen lets (Ok (now, out)) → mark ≡ length seen.variables →
    cut ≡ record now { variables = take mark now.variables } → cut ≡ record seen { next = now.next }
cut-seen seen lets now cut out mark h is e =
    let g : Grown seen now = grown-by seen lets now out h in
    let vs : take mark now.variables ≡ seen.variables = ap (λ m. take m now.variables) is ∙ ap (take (length seen.variables)) g.variables ∙ taken seen.variables g.more in
    e ∙ (λ i. record { prefixes = g.prefixes i; variables = vs i; next = now.next })

pub kept-seen : (seen : Seen) (count : ℕ) (lets : List LetDecl) (now cut last : Seen) (out : List PlanLet) (mark next : ℕ) → all_lets (record seen { next = count }) lets (Ok (now, out)) →
    mark ≡ length seen.variables → cut ≡ record now { variables = take mark now.variables } → next ≡ seen.next → last ≡ record cut { next = next } → last ≡ seen
kept-seen seen count lets now cut last out mark next h is e n l =
    let c = cut-seen (record seen { next = count }) lets now cut out mark h is e in
    l ∙ (λ i. record { prefixes = (c i).prefixes; variables = (c i).variables; next = n i })
