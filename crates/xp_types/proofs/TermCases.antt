-- Parts that hold no expression pass their checks exactly where they stand for something.
use Rattle.std.specs.Prelude.{codes, option_map}
use Rattle.std.proofs.Common.{◌≡◌, ◌≤◌, ℕ, pos, Bool, true, false, cond, Ok, Option, Some, None, List, nat_le, refl, sym, ap, ◌∙◌, arith}
use Rattle.std.proofs.lemmas.Bool.Decides.{nat_tests}
use Rattle.doc_tree.specs.declared.axes.Axis.{Axis}
use Rattle.doc_tree.specs.declared.axes.NodeTest.{NodeTest}
use Rattle.doc_tree.specs.declared.axes.NodeTest.TheVariants as tests
use Rattle.xp_tree.specs.declared.terms.Operator.{Operator}
use Rattle.xp_tree.specs.declared.terms.AxisName.{AxisName}
use Rattle.xp_tree.specs.declared.terms.AxisName.TheVariants as names
use Rattle.xp_tree.specs.declared.terms.StepTest.{StepTest}
use Rattle.xp_tree.specs.declared.terms.StepTest.TheVariants as written
use Rattle.xp_tree.specs.declared.numbers.TheConstants.{MAX_WHOLE}
use Rattle.xp_tree.specs.Decimals.{decimal_value}
use Rattle.xp_typed_tree.specs.declared.function.Function.{Function}
use Rattle.xp_typed_tree.specs.TypedTree.{TypedTree, slot, whole}
use Rattle.xp_typed_tree.specs.WellTyped.{takes, may_call}
use Rattle.xp_types.specs.declared.env.Variable.{Variable}
use Rattle.xp_types.specs.declared.faults.TypeKind.{TypeKind}
use Rattle.xp_types.specs.declared.faults.TypeKind.TheVariants as kinds
use Rattle.xp_types.specs.Scope.{Scope, namespace_of}
use Rattle.xp_types.specs.FunctionNames.{function_named, is_left_out}
use Rattle.xp_types.specs.Terms.{has_point, has_colon, axis_named, test_resolved, MayBeCalled}
use Rattle.xp_types.specs.inner.Checked.{Checked, after, fault}
use Rattle.xp_types.specs.inner.Typing.{number_typed, axis_of, known, resolved, variable_typed, called, function_called, or_refused, if_joins}
use Rattle.xp_types.proofs.Sound.{same}

abbrev or_fault : {A : Type 0} → Option A → TypeKind → ℕ → Checked A
or_fault (Some a) kind offset = Ok a
or_fault None kind offset = fault kind offset

was : {A : Type 0} (o : Option A) (kind : TypeKind) (offset : ℕ) (a : A) → or_fault o kind offset ≡ Ok a → o ≡ Some a
was (Some b) kind offset a h = ap Some (same b a h)
was None kind offset a h = absurd (cc)

passes : {A : Type 0} (o : Option A) (kind : TypeKind) (offset : ℕ) (a : A) → o ≡ Some a → or_fault o kind offset ≡ Ok a
passes o kind offset a h = ap (λ x. or_fault x kind offset) h

-- ---- axes, operators, node tests

axis-as : (a : AxisName) (offset : ℕ) → axis_of a offset ≡ or_fault (axis_named a) (kinds.Refused (codes "namespace")) offset
axis-as names.Ancestor offset = refl
axis-as names.AncestorOrSelf offset = refl
axis-as names.Attribute offset = refl
axis-as names.Child offset = refl
axis-as names.Descendant offset = refl
axis-as names.DescendantOrSelf offset = refl
axis-as names.Following offset = refl
axis-as names.FollowingSibling offset = refl
axis-as names.Namespace offset = refl
axis-as names.Parent offset = refl
axis-as names.Preceding offset = refl
axis-as names.PrecedingSibling offset = refl
axis-as names.SelfNode offset = refl

pub axis-has : (a : AxisName) (offset : ℕ) (x : Axis) → axis_of a offset ≡ Ok x → axis_named a ≡ Some x
axis-has a offset x h = was (axis_named a) _ offset x (sym (axis-as a offset) ∙ h)

pub axis-so : (a : AxisName) (offset : ℕ) (x : Axis) → axis_named a ≡ Some x → axis_of a offset ≡ Ok x
axis-so a offset x h = axis-as a offset ∙ passes (axis_named a) _ offset x h

pub refused-has : {A : Type 0} (o : Option A) (operator : Operator) (offset : ℕ) (a : A) → or_refused o operator offset ≡ Ok a → o ≡ Some a
refused-has (Some b) operator offset a h = ap Some (same b a h)
refused-has None operator offset a h = absurd (cc)

pub refused-so : {A : Type 0} (o : Option A) (operator : Operator) (offset : ℕ) (a : A) → o ≡ Some a → or_refused o operator offset ≡ Ok a
refused-so o operator offset a h = ap (λ x. or_refused x operator offset) h

pub joins-has : {A : Type 0} (b : Bool) (operator : Operator) (offset : ℕ) (m : Checked A) (a : A) → if_joins b operator offset m ≡ Ok a → (b ≡ true) × (m ≡ Ok a)
joins-has true operator offset m a h = (refl, h)
joins-has false operator offset m a h = absurd (cc)

pub joins-so : {A : Type 0} (b : Bool) (operator : Operator) (offset : ℕ) (m : Checked A) (a : A) → b ≡ true → m ≡ Ok a → if_joins b operator offset m ≡ Ok a
joins-so b operator offset m a is h = ap (λ x. if_joins x operator offset m) is ∙ h

known-as : (o : Option (List ℕ)) (offset : ℕ) (k : List ℕ → NodeTest) → after (known o offset) (λ uri. Ok (k uri)) ≡ or_fault (option_map k o) kinds.UnknownPrefix offset
unfolding after
known-as (Some uri) offset k = refl
known-as None offset k = refl

test-as : (S : Scope) (t : StepTest) (offset : ℕ) → resolved S t offset ≡ or_fault (test_resolved S t) kinds.UnknownPrefix offset
test-as S written.Star offset = refl
test-as S (written.InPrefix prefix) offset = known-as (namespace_of S prefix) offset (λ uri. tests.InNamespace uri)
test-as S (written.Named None local) offset = refl
test-as S (written.Named (Some prefix) local) offset = known-as (namespace_of S prefix) offset (λ uri. tests.Named uri local)
test-as S written.Node offset = refl
test-as S written.Chars offset = refl
test-as S written.Comment offset = refl
test-as S written.Pi offset = refl
test-as S (written.PiNamed target) offset = refl

pub test-has : (S : Scope) (t : StepTest) (offset : ℕ) (x : NodeTest) → resolved S t offset ≡ Ok x → test_resolved S t ≡ Some x
test-has S t offset x h = was (test_resolved S t) _ offset x (sym (test-as S t offset) ∙ h)

pub test-so : (S : Scope) (t : StepTest) (offset : ℕ) (x : NodeTest) → test_resolved S t ≡ Some x → resolved S t offset ≡ Ok x
test-so S t offset x h = test-as S t offset ∙ passes (test_resolved S t) _ offset x h

-- ---- variables and numbers

pub variable-has : (o : Option Variable) (offset : ℕ) (u : TypedTree) → variable_typed o offset ≡ Ok u → (v : Variable) × (o ≡ Some v) × (slot v.slot v.ty ≡ u)
variable-has (Some v) offset u h = (v, refl, same _ u h)
variable-has None offset u h = absurd (cc)

pub variable-so : (o : Option Variable) (offset : ℕ) (u : TypedTree) → ((v : Variable) × (o ≡ Some v) × (slot v.slot v.ty ≡ u)) → variable_typed o offset ≡ Ok u
variable-so o offset u h = ap (λ x. variable_typed x offset) h.1 ∙ ap Ok h.2

module _ (digits : List ℕ) (offset : ℕ) (u : TypedTree) where
  abbrev IsNumber : Type 0
  IsNumber = (has_point digits ≡ false) × (decimal_value digits ≤ MAX_WHOLE) × (whole (pos (decimal_value digits)) ≡ u)

  by-size : (fits : Bool) → has_point digits ≡ false → nat_le (decimal_value digits) MAX_WHOLE ≡ fits →
      cond fits (Ok (whole (pos (decimal_value digits)))) (fault kinds.NumberTooLarge offset) ≡ Ok u → IsNumber
  by-size true plain is h = let small : decimal_value digits ≤ MAX_WHOLE = grind (arith, nat_tests) in (plain, small, same _ u h)
  by-size false plain is h = absurd (cc)

  by-point : (point : Bool) → has_point digits ≡ point →
      cond point (fault (kinds.Refused (codes "fraction")) offset) (cond (nat_le (decimal_value digits) MAX_WHOLE) (Ok (whole (pos (decimal_value digits)))) (fault kinds.NumberTooLarge offset)) ≡ Ok u → IsNumber
  by-point true is h = absurd (cc)
  by-point false is h = by-size (nat_le (decimal_value digits) MAX_WHOLE) is refl h

  pub number-has : number_typed digits offset ≡ Ok u → IsNumber
  number-has h = by-point (has_point digits) refl h

  pub number-so : IsNumber → number_typed digits offset ≡ Ok u
  number-so h =
      let small : decimal_value digits ≤ MAX_WHOLE = h.1 in
      let fits : nat_le (decimal_value digits) MAX_WHOLE ≡ true = grind (arith, nat_tests) in
      ap (λ b. cond b (fault (kinds.Refused (codes "fraction")) offset) (cond (nat_le (decimal_value digits) MAX_WHOLE) (Ok (whole (pos (decimal_value digits)))) (fault kinds.NumberTooLarge offset))) h.0
      ∙ ap (λ b. cond b (Ok (whole (pos (decimal_value digits)))) (fault kinds.NumberTooLarge offset)) fits ∙ ap Ok h.2

-- ---- calls

module _ (S : Scope) (name : List ℕ) (offset count : ℕ) (f : Function) where
  by-takes : (g : Function) (may fits : Bool) → has_colon name ≡ false → function_named name ≡ Some g → may_call S.in_pattern g ≡ may → takes g count ≡ fits →
      cond may (cond fits (Ok g) (fault kinds.Arity offset)) (fault (kinds.Refused name) offset) ≡ Ok f → MayBeCalled S name count f
  by-takes g true true plain is may fits h =
      let it : g ≡ f = same g f h in
      (plain, is ∙ ap Some it, sym (ap (may_call S.in_pattern) it) ∙ may, sym (ap (λ x. takes x count) it) ∙ fits)
  by-takes g true false plain is may fits h = absurd (cc)
  by-takes g false fits plain is may tk h = absurd (cc)

  by-left-out : (left_out : Bool) → cond left_out (fault (kinds.Refused name) offset) (fault kinds.UnknownFunction offset) ≡ Ok f → ⊥
  by-left-out true h = absurd (cc)
  by-left-out false h = absurd (cc)

  by-function : (o : Option Function) → has_colon name ≡ false → function_named name ≡ o → function_called S name offset count o ≡ Ok f → MayBeCalled S name count f
  by-function (Some g) plain is h = by-takes g (may_call S.in_pattern g) (takes g count) plain is refl refl h
  by-function None plain is h = absurd (by-left-out (is_left_out name) h)

  by-colon : (colon : Bool) → has_colon name ≡ colon → cond colon (fault (kinds.Refused name) offset) (function_called S name offset count (function_named name)) ≡ Ok f → MayBeCalled S name count f
  by-colon true is h = absurd (cc)
  by-colon false is h = by-function (function_named name) is refl h

  pub called-has : called S name offset count ≡ Ok f → MayBeCalled S name count f
  called-has h = by-colon (has_colon name) refl h

  pub called-so : MayBeCalled S name count f → called S name offset count ≡ Ok f
  called-so h =
      ap (λ b. cond b (fault (kinds.Refused name) offset) (function_called S name offset count (function_named name))) h.0
      ∙ ap (function_called S name offset count) h.1
      ∙ ap (λ b. cond b (cond (takes f count) (Ok f) (fault kinds.Arity offset)) (fault (kinds.Refused name) offset)) h.2
      ∙ ap (λ b. cond b (Ok f) (fault kinds.Arity offset)) h.3
