-- The first fault of a call's name and of the number of its arguments.
use Rattle.std.proofs.Common.{◌≡◌, ℕ, Bool, true, false, cond, Ok, Err, Option, Some, None, List, inl, inr, ⊎_elim, true≢false, refl, sym, ap, ◌∙◌, subst}
use Rattle.xp_typed_tree.specs.declared.function.Function.{Function}
use Rattle.xp_typed_tree.specs.WellTyped.{takes, may_call}
use Rattle.xp_types.specs.declared.faults.TypeKind.TheVariants as kinds
use Rattle.xp_types.specs.declared.faults.TypeFault.{TypeFault}
use Rattle.xp_types.specs.Scope.{Scope}
use Rattle.xp_types.specs.FunctionNames.{function_named, is_left_out}
use Rattle.xp_types.specs.inner.Checked.{Checked, fault}
use Rattle.xp_types.specs.Terms.{has_colon}
use Rattle.xp_types.specs.inner.Typing.{called, function_called}
use Rattle.xp_types.specs.Places.{Place, FaultAt, InOrder, IsFirst}
use Rattle.xp_types.specs.TypeFaults.{IsRefused, IsUnknown, TakesOthers, CallFault}
use Rattle.xp_types.proofs.Sound.{same}
use Rattle.xp_types.proofs.FirstLemmas as firsts

so : (name : List ℕ) (offset : ℕ) (g : Function) (may fits : Bool) (f : Function) → cond may (cond fits (Ok g) (fault kinds.Arity offset)) (fault (kinds.Refused name) offset) ≡ Ok f → Some g ≡ Some f
so name offset g true true f h = ap Some (same g f h)
so name offset g true false f h = absurd (cc)
so name offset g false fits f h = absurd (cc)

out : (name : List ℕ) (offset : ℕ) (left_out : Bool) (f : Function) → cond left_out (fault (kinds.Refused name) offset) (fault kinds.UnknownFunction offset) ≡ Ok f → ⊥
out name offset true f h = absurd (cc)
out name offset false f h = absurd (cc)

module _ (S : Scope) (name : List ℕ) (offset count : ℕ) where
  abbrev Refusal : Place → TypeFault → Type 0
  Refusal = FaultAt (IsRefused S name) (kinds.Refused name) offset

  abbrev Unknown : Place → TypeFault → Type 0
  Unknown = FaultAt (IsUnknown name) kinds.UnknownFunction offset

  abbrev Others : Place → TypeFault → Type 0
  Others = FaultAt (TakesOthers name count) kinds.Arity offset

  pub call-single : firsts.Single (CallFault S name offset count)
  call-single =
      firsts.single-order Refusal (InOrder Unknown Others) (firsts.single-at (IsRefused S name) (kinds.Refused name) offset)
      (firsts.single-order Unknown Others (firsts.single-at (IsUnknown name) kinds.UnknownFunction offset) (firsts.single-at (TakesOthers name count) kinds.Arity offset))

  is-fault : {A : Type 0} (m : Checked A) (e : TypeFault) → m ≡ Err e → IsFirst (CallFault S name offset count) e → firsts.Meets m (CallFault S name offset count)
  is-fault m e is it = record {
    fine = λ a h. absurd (let k : ◌≡◌ (Err e) (Ok a) = sym is ∙ h in cc);
    faulty = λ f h. let same : e ≡ f = (let k = sym is ∙ h in cc) in subst (IsFirst (CallFault S name offset count)) same it;
    one = call-single;
  }

  refused : (e : TypeFault) → e ≡ record { kind = kinds.Refused name; offset = offset } → IsRefused S name → IsFirst (CallFault S name offset count) e
  refused e is why = firsts.first-left Refusal (InOrder Unknown Others) e (firsts.first-at (IsRefused S name) (kinds.Refused name) offset e why is)

  unknown : (e : TypeFault) → e ≡ record { kind = kinds.UnknownFunction; offset = offset } → (IsRefused S name → ⊥) → IsUnknown name → IsFirst (CallFault S name offset count) e
  unknown e is clear why =
      firsts.first-right Refusal (InOrder Unknown Others) (firsts.none-at (IsRefused S name) (kinds.Refused name) offset clear) e
      (firsts.first-left Unknown Others e (firsts.first-at (IsUnknown name) kinds.UnknownFunction offset e why is))

  others : (e : TypeFault) → e ≡ record { kind = kinds.Arity; offset = offset } → (IsRefused S name → ⊥) → (IsUnknown name → ⊥) → TakesOthers name count → IsFirst (CallFault S name offset count) e
  others e is clear known why =
      firsts.first-right Refusal (InOrder Unknown Others) (firsts.none-at (IsRefused S name) (kinds.Refused name) offset clear) e
      (firsts.first-right Unknown Others (firsts.none-at (IsUnknown name) kinds.UnknownFunction offset known) e (firsts.first-at (TakesOthers name count) kinds.Arity offset e why is))

  not-refused : has_colon name ≡ false → (f : Function) → function_named name ≡ Some f → may_call S.in_pattern f ≡ true → IsRefused S name → ⊥
  not-refused plain f known may = ⊎_elim (λ (c : has_colon name ≡ true). true≢false (sym c ∙ plain))
      (⊎_elim (λ (l : (function_named name ≡ None) × (is_left_out name ≡ true)). let e = sym known ∙ l.0 in absurd (cc))
      (λ (g : (f : Function) × (function_named name ≡ Some f) × (may_call S.in_pattern f ≡ false)).
      let same : f ≡ g.0 = (let e = sym known ∙ g.1 in cc) in true≢false (sym may ∙ ap (may_call S.in_pattern) same ∙ g.2)))

  not-left-out : has_colon name ≡ false → function_named name ≡ None → is_left_out name ≡ false → IsRefused S name → ⊥
  not-left-out plain none kept = ⊎_elim (λ (c : has_colon name ≡ true). true≢false (sym c ∙ plain))
      (⊎_elim (λ (l : (function_named name ≡ None) × (is_left_out name ≡ true)). true≢false (sym l.1 ∙ kept))
      (λ (g : (f : Function) × (function_named name ≡ Some f) × (may_call S.in_pattern f ≡ false)). let e = sym none ∙ g.1 in absurd (cc)))

  not-unknown : (f : Function) → function_named name ≡ Some f → IsUnknown name → ⊥
  not-unknown f known u = let e = sym known ∙ u.1 in absurd (cc)

  by-takes : (f : Function) (b : Bool) → has_colon name ≡ false → function_named name ≡ Some f → may_call S.in_pattern f ≡ true → takes f count ≡ b →
      firsts.Meets (cond b (Ok f) (fault kinds.Arity offset)) (CallFault S name offset count)
  by-takes f true plain known may is = record {
    fine = λ a h. firsts.none-order Refusal (InOrder Unknown Others) (firsts.none-at (IsRefused S name) (kinds.Refused name) offset (not-refused plain f known may))
        (firsts.none-order Unknown Others (firsts.none-at (IsUnknown name) kinds.UnknownFunction offset (not-unknown f known)) (firsts.none-at (TakesOthers name count) kinds.Arity offset
        (λ o. let same : f ≡ o.0 = (let e = sym known ∙ o.1 in cc) in true≢false (sym is ∙ ap (λ g. takes g count) same ∙ o.2))));
    faulty = λ e h. absurd (cc);
    one = call-single;
  }
  by-takes f false plain known may is = is-fault (fault kinds.Arity offset) _ refl (others _ refl (not-refused plain f known may) (not-unknown f known) (f, known, is))

  by-may : (f : Function) (b : Bool) → has_colon name ≡ false → function_named name ≡ Some f → may_call S.in_pattern f ≡ b →
      firsts.Meets (cond b (cond (takes f count) (Ok f) (fault kinds.Arity offset)) (fault (kinds.Refused name) offset)) (CallFault S name offset count)
  by-may f true plain known is = by-takes f (takes f count) plain known is refl
  by-may f false plain known is = is-fault _ _ refl (refused _ refl (inr (inr (f, known, is))))

  by-left-out : (b : Bool) → has_colon name ≡ false → function_named name ≡ None → is_left_out name ≡ b →
      firsts.Meets {A = Function} (cond b (fault (kinds.Refused name) offset) (fault kinds.UnknownFunction offset)) (CallFault S name offset count)
  by-left-out true plain none is = is-fault _ _ refl (refused _ refl (inr (inl (none, is))))
  by-left-out false plain none is = is-fault _ _ refl (unknown _ refl (not-left-out plain none is) (plain, none, is))

  by-function : (o : Option Function) → has_colon name ≡ false → function_named name ≡ o → firsts.Meets (function_called S name offset count o) (CallFault S name offset count)
  by-function (Some f) plain is = by-may f (may_call S.in_pattern f) plain is refl
  by-function None plain is = by-left-out (is_left_out name) plain is refl

  by-colon : (b : Bool) → has_colon name ≡ b →
      firsts.Meets (cond b (fault (kinds.Refused name) offset) (function_called S name offset count (function_named name))) (CallFault S name offset count)
  by-colon true is = is-fault _ _ refl (refused _ refl (inl is))
  by-colon false is = by-function (function_named name) is refl

  pub called-meets : firsts.Meets (called S name offset count) (CallFault S name offset count)
  called-meets = by-colon (has_colon name) refl

  named-so : (o : Option Function) (f : Function) → function_called S name offset count o ≡ Ok f → o ≡ Some f
  named-so (Some g) f h = so name offset g (may_call S.in_pattern g) (takes g count) f h
  named-so None f h = absurd (out name offset (is_left_out name) f h)

  by-colon-named : (b : Bool) (f : Function) → cond b (fault (kinds.Refused name) offset) (function_called S name offset count (function_named name)) ≡ Ok f → function_named name ≡ Some f
  by-colon-named true f h = absurd (cc)
  by-colon-named false f h = named-so (function_named name) f h

  -- a function that is called has the call's name
  pub called-named : (f : Function) → called S name offset count ≡ Ok f → function_named name ≡ Some f
  called-named f h = by-colon-named (has_colon name) f h
