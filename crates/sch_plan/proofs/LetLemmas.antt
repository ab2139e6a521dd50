-- What is seen after lets.
use Rattle.std.proofs.Common.{◌≡◌, ℕ, ◌+◌, suc, List, [], ◌∷◌, ◌++◌, length, Ok, refl, sym, ap, ◌∙◌, subst, append_assoc, append-nil, arith}
use Rattle.sch_compiled.specs.declared.parts.PlanLet.{PlanLet}
use Rattle.sch_compiled.specs.Soundness.{AreSeen, slots_from}
use Rattle.sch_model.specs.declared.parts.LetDecl.{LetDecl}
use Rattle.xp_typed_tree.specs.declared.value_type.ValueType.{ValueType}
use Rattle.xp_typed_tree.specs.TypedTree.{TypedTree}
use Rattle.xp_typed_tree.specs.Slots.{slots_in}
use Rattle.xp_typed_tree.specs.WellTyped.{type_of}
use Rattle.xp_types.specs.Scope.{Named}
use Rattle.xp_types.specs.Laws.{SlotsAreInScope}
use Rattle.sch_plan.specs.Lets.{Seen, all_lets, seen_after}
use Rattle.sch_plan.proofs.GrownLemmas.{MoreLets, OneLet, more-lets, one-let}
use Rattle.sch_plan.proofs.Inversions.{same-value}
use Rattle.sch_plan.proofs.SlotLemmas.{expression-seen, places, places-append}

-- each let names slots that are seen before it
abbrev pub LetsSeen : List (ℕ × ValueType) → ℕ → List PlanLet → Type 0
LetsSeen base next [] = Unit {0}
LetsSeen base next (t ∷ ts) = AreSeen base (slots_in t.expr) × LetsSeen (base ++ (next, type_of t.expr) ∷ []) (suc next) ts

pub record AfterLets (seen : Seen) (decls : List LetDecl) (now : Seen) (out : List PlanLet) : Type 0 where
  pub slots : places now.variables ≡ places seen.variables ++ slots_from seen.next out
  pub next : now.next ≡ seen.next + length out
  pub many : length out ≡ length decls
  pub lets : LetsSeen (places seen.variables) seen.next out

after-one : (seen : Seen) (its : LetDecl) (t : TypedTree) (lets : List LetDecl) (now : Seen) (rest : List PlanLet) → AreSeen (places seen.variables) (slots_in t) →
    AfterLets (seen_after seen its.name (type_of t)) lets now rest → AfterLets seen (its ∷ lets) now (record { name = its.name; expr = t } ∷ rest)
after-one seen its t lets now rest here a =
    let v : Named = record { name = its.name; place = seen.next; type = type_of t } in
    let split : places (seen.variables ++ v ∷ []) ≡ places seen.variables ++ (seen.next, type_of t) ∷ [] = places-append seen.variables (v ∷ []) in
    record {
      slots = a.slots ∙ ap (λ l. l ++ slots_from (suc seen.next) rest) split ∙ append_assoc (places seen.variables) ((seen.next, type_of t) ∷ []) (slots_from (suc seen.next) rest);
      next = omega (arith, a.next);
      many = ap suc a.many;
      lets = (here, subst (λ l. LetsSeen l (suc seen.next) rest) split a.lets);
    }

pub after-lets : SlotsAreInScope → (seen : Seen) (lets : List LetDecl) (now : Seen) (out : List PlanLet) → all_lets seen lets (Ok (now, out)) → AfterLets seen lets now out
after-lets law seen [] now out h =
    let same : (now, out) ≡ (seen, []) = same-value (now, out) (seen, []) h in
    subst (λ p. AfterLets seen [] p.0 p.1) (sym same) (record { slots = sym (append-nil (places seen.variables)); next = omega arith; many = refl; lets = tt })
after-lets law seen (its ∷ lets) now out h =
    let m : MoreLets seen its lets now out = more-lets seen its lets now out h in
    let o : OneLet seen its m.one = one-let seen its m.one m.came in
    let rest : AfterLets m.one.0 lets now m.rest = after-lets law m.one.0 lets now m.rest m.others in
    let here = expression-seen law seen its.node its.value o.expr o.came in
    let a = after-one seen its o.expr lets now m.rest here (subst (λ p. AfterLets p.0 lets now m.rest) o.is rest) in
    subst (AfterLets seen (its ∷ lets) now) (sym (m.is ∙ ap (λ p. p.1 ∷ m.rest) o.is)) a
