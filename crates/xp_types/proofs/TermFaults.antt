-- The first faults of parts that hold no expression, and of operands that must be node-sets.
use Rattle.std.specs.Prelude.{codes}
use Rattle.std.proofs.Common.{◌≡◌, ◌<◌, ℕ, pos, Bool, true, false, cond, Ok, Err, Option, Some, None, is_some, List, nat_le, true≢false, refl, sym, ap, ◌∙◌, subst, arith}
use Rattle.std.proofs.lemmas.Bool.Decides.{nat_tests}
use Rattle.doc_tree.specs.declared.axes.NodeTest.{NodeTest}
use Rattle.doc_tree.specs.declared.axes.NodeTest.TheVariants as tests
use Rattle.xp_tree.specs.declared.terms.Operator.{Operator}
use Rattle.xp_tree.specs.declared.terms.AxisName.{AxisName}
use Rattle.xp_tree.specs.declared.terms.AxisName.TheVariants as names
use Rattle.xp_tree.specs.declared.terms.StepTest.{StepTest}
use Rattle.xp_tree.specs.declared.terms.StepTest.TheVariants as written
use Rattle.xp_tree.specs.declared.numbers.TheConstants.{MAX_WHOLE}
use Rattle.xp_tree.specs.Decimals.{decimal_value}
use Rattle.xp_tree.specs.Tree.{Tree, offset_of}
use Rattle.xp_typed_tree.specs.declared.value_type.ValueType.{ValueType}
use Rattle.xp_typed_tree.specs.declared.value_type.ValueType.TheVariants as types
use Rattle.xp_typed_tree.specs.TypedTree.{TypedTree, whole}
use Rattle.xp_typed_tree.specs.WellTyped.{type_of, IsWanted}
use Rattle.xp_types.specs.declared.env.Variable.{Variable}
use Rattle.xp_types.specs.declared.faults.TypeKind.TheVariants as kinds
use Rattle.xp_types.specs.declared.faults.TypeFault.{TypeFault}
use Rattle.xp_types.specs.Scope.{Scope, namespace_of}
use Rattle.xp_types.specs.inner.Checked.{Checked, after, fault}
use Rattle.xp_types.specs.Terms.{has_point, spelling}
use Rattle.xp_types.specs.inner.Typing.{typing, wanted, node_set_at, number_typed, axis_of, known, resolved, variable_typed, or_refused, if_joins}
use Rattle.xp_types.specs.HasType.{HasType}
use Rattle.xp_types.specs.Places.{Place, FaultAt, InOrder}
use Rattle.xp_types.specs.TypeFaults.{NotWanted, AxisFault, prefix_of, TestFault, NumberFault, HasFault}
use Rattle.xp_types.proofs.Sound.{same, wanted-sound}
use Rattle.xp_types.proofs.Cases.{has-type, typed-so}
use Rattle.xp_types.proofs.FirstLemmas.{Meets, Single, leaf, turn, single-at, single-order, none-at, none-order, first-at, first-left, first-right}

pub told : {A : Type 0} (e f : TypeFault) → ◌≡◌ {A = Checked A} (Err e) (Err f) → f ≡ e
told e f h = cc

-- ---- variables, axes, operators

variable-known : (o : Option Variable) (offset : ℕ) (f : TypeFault) → variable_typed o offset ≡ Err f → (o ≡ None) × (f ≡ record { kind = kinds.UnknownVariable; offset = offset })
variable-known (Some v) offset f h = absurd (cc)
variable-known None offset f h = (refl, told _ f h)

pub variable-meets : (o : Option Variable) (offset : ℕ) → Meets (variable_typed o offset) (FaultAt (o ≡ None) kinds.UnknownVariable offset)
variable-meets o offset =
    leaf (variable_typed o offset) (o ≡ None) kinds.UnknownVariable offset (λ a h e. let k : variable_typed None offset ≡ Ok a = sym (ap (λ v. variable_typed v offset) e) ∙ h in absurd (cc)) (variable-known o offset)

axis-known : (a : AxisName) (offset : ℕ) (f : TypeFault) → axis_of a offset ≡ Err f → (a ≡ names.Namespace) × (f ≡ record { kind = kinds.Refused (codes "namespace"); offset = offset })
axis-known names.Ancestor offset f h = absurd (cc)
axis-known names.AncestorOrSelf offset f h = absurd (cc)
axis-known names.Attribute offset f h = absurd (cc)
axis-known names.Child offset f h = absurd (cc)
axis-known names.Descendant offset f h = absurd (cc)
axis-known names.DescendantOrSelf offset f h = absurd (cc)
axis-known names.Following offset f h = absurd (cc)
axis-known names.FollowingSibling offset f h = absurd (cc)
axis-known names.Namespace offset f h = (refl, told _ f h)
axis-known names.Parent offset f h = absurd (cc)
axis-known names.Preceding offset f h = absurd (cc)
axis-known names.PrecedingSibling offset f h = absurd (cc)
axis-known names.SelfNode offset f h = absurd (cc)

pub axis-meets : (a : AxisName) (offset : ℕ) → Meets (axis_of a offset) (AxisFault a offset)
axis-meets a offset =
    leaf (axis_of a offset) (a ≡ names.Namespace) (kinds.Refused (codes "namespace")) offset (λ x h e. let k : axis_of names.Namespace offset ≡ Ok x = sym (ap (λ v. axis_of v offset) e) ∙ h in absurd (cc)) (axis-known a offset)

module _ (operator : Operator) (offset : ℕ) where
  abbrev NotOwn : Bool → Place → TypeFault → Type 0
  NotOwn b = FaultAt (b ≡ false) (kinds.Refused (spelling operator)) offset

  pub own-meets : {A : Type 0} (o : Option A) → Meets (or_refused o operator offset) (NotOwn (is_some o))
  own-meets (Some a) = leaf (Ok a) (true ≡ false) (kinds.Refused (spelling operator)) offset (λ b h e. absurd (cc)) (λ f h. absurd (cc))
  own-meets {A} None = leaf {A = A} (fault (kinds.Refused (spelling operator)) offset) (false ≡ false) (kinds.Refused (spelling operator)) offset (λ a h. absurd (cc)) (λ f h. (refl, told {A = A} _ f h))

  pub joins-meets : {A : Type 0} (b : Bool) (m : Checked A) (F : Place → TypeFault → Type 0) → Meets m F → Meets (if_joins b operator offset m) (InOrder (NotOwn b) F)
  joins-meets true m F M = record {
    fine = λ a h. none-order (NotOwn true) F (none-at (true ≡ false) (kinds.Refused (spelling operator)) offset true≢false) (M.fine a h);
    faulty = λ f h. first-right (NotOwn true) F (none-at (true ≡ false) (kinds.Refused (spelling operator)) offset true≢false) f (M.faulty f h);
    one = single-order (NotOwn true) F (single-at (true ≡ false) (kinds.Refused (spelling operator)) offset) M.one;
  }
  joins-meets {A} false m F M = record {
    fine = λ a h. absurd (cc);
    faulty = λ f h. first-left (NotOwn false) F f (first-at (false ≡ false) (kinds.Refused (spelling operator)) offset f refl (told {A = A} _ f h));
    one = single-order (NotOwn false) F (single-at (false ≡ false) (kinds.Refused (spelling operator)) offset) M.one;
  }

  pub joins-after : {A B : Type 0} (b : Bool) (m : Checked A) (k : A → Checked B) → if_joins b operator offset (after m k) ≡ after (if_joins b operator offset m) k
  unfolding after
  joins-after true m k = refl
  joins-after false m k = refl

-- ---- node tests

abbrev Unbound : Scope → StepTest → Type 0
Unbound S t = (prefix : List ℕ) × (prefix_of t ≡ Some prefix) × (namespace_of S prefix ≡ None)

-- what is made of a name's namespace
namespace-meets : (S : Scope) (t : StepTest) (prefix : List ℕ) (offset : ℕ) (k : List ℕ → NodeTest) → prefix_of t ≡ Some prefix → (o : Option (List ℕ)) → namespace_of S prefix ≡ o →
    Meets (after (known o offset) (λ uri. Ok (k uri))) (TestFault S t offset)
unfolding after
namespace-meets S t prefix offset k has (Some uri) is = leaf (Ok (k uri)) (Unbound S t) kinds.UnknownPrefix offset
    (λ a h u. let e : u.0 ≡ prefix = (let x = sym u.1 ∙ has in cc) in let y = sym u.2 ∙ ap (namespace_of S) e ∙ is in absurd (cc)) (λ f h. absurd (cc))
namespace-meets S t prefix offset k has None is = leaf {A = NodeTest} (Err (record { kind = kinds.UnknownPrefix; offset = offset })) (Unbound S t) kinds.UnknownPrefix offset (λ a h. absurd (cc)) (λ f h. ((prefix, has, is), told _ f h))

-- a test without a prefix
plain-meets : (S : Scope) (t : StepTest) (offset : ℕ) (n : NodeTest) → prefix_of t ≡ None → Meets (Ok n) (TestFault S t offset)
plain-meets S t offset n clear = leaf (Ok n) (Unbound S t) kinds.UnknownPrefix offset (λ a h u. let x = sym clear ∙ u.1 in absurd (cc)) (λ f h. absurd (cc))

pub test-meets : (S : Scope) (t : StepTest) (offset : ℕ) → Meets (resolved S t offset) (TestFault S t offset)
test-meets S written.Star offset = plain-meets S written.Star offset tests.Star refl
test-meets S (written.InPrefix prefix) offset = namespace-meets S (written.InPrefix prefix) prefix offset (λ uri. tests.InNamespace uri) refl (namespace_of S prefix) refl
test-meets S (written.Named None local) offset = plain-meets S (written.Named None local) offset _ refl
test-meets S (written.Named (Some prefix) local) offset = namespace-meets S (written.Named (Some prefix) local) prefix offset (λ uri. tests.Named uri local) refl (namespace_of S prefix) refl
test-meets S written.Node offset = plain-meets S written.Node offset tests.Any refl
test-meets S written.Chars offset = plain-meets S written.Chars offset tests.Text refl
test-meets S written.Comment offset = plain-meets S written.Comment offset tests.Comment refl
test-meets S written.Pi offset = plain-meets S written.Pi offset tests.Pi refl
test-meets S (written.PiNamed target) offset = plain-meets S (written.PiNamed target) offset (tests.PiNamed target) refl

-- ---- numbers

module _ (digits : List ℕ) (offset : ℕ) where
  abbrev Pointed : Type 0
  Pointed = has_point digits ≡ true

  abbrev Large : Type 0
  Large = (has_point digits ≡ false) × (MAX_WHOLE < decimal_value digits)

  number-single : Single (NumberFault digits offset)
  number-single =
      single-order (FaultAt Pointed (kinds.Refused (codes "fraction")) offset) (FaultAt Large kinds.NumberTooLarge offset)
      (single-at Pointed (kinds.Refused (codes "fraction")) offset) (single-at Large kinds.NumberTooLarge offset)

  clear-point : has_point digits ≡ false → Pointed → ⊥
  clear-point plain p = true≢false (sym p ∙ plain)

  by-size : (fits : Bool) → has_point digits ≡ false → nat_le (decimal_value digits) MAX_WHOLE ≡ fits →
      Meets (cond fits (Ok (whole (pos (decimal_value digits)))) (fault kinds.NumberTooLarge offset)) (NumberFault digits offset)
  by-size true plain is = record {
    fine = λ a h. none-order (FaultAt Pointed (kinds.Refused (codes "fraction")) offset) (FaultAt Large kinds.NumberTooLarge offset) (none-at Pointed (kinds.Refused (codes "fraction")) offset (clear-point plain))
        (none-at Large kinds.NumberTooLarge offset (λ l. let large : MAX_WHOLE < decimal_value digits = l.1 in grind (arith, nat_tests)));
    faulty = λ f h. absurd (cc);
    one = number-single;
  }
  by-size false plain is = record {
    fine = λ a h. absurd (cc);
    faulty = λ f h. let large : MAX_WHOLE < decimal_value digits = grind (arith, nat_tests) in
        first-right (FaultAt Pointed (kinds.Refused (codes "fraction")) offset) (FaultAt Large kinds.NumberTooLarge offset) (none-at Pointed (kinds.Refused (codes "fraction")) offset (clear-point plain)) f
        (first-at Large kinds.NumberTooLarge offset f (plain, large) (told {A = TypedTree} _ f h));
    one = number-single;
  }

  by-point : (point : Bool) → has_point digits ≡ point →
      Meets (cond point (fault (kinds.Refused (codes "fraction")) offset) (cond (nat_le (decimal_value digits) MAX_WHOLE) (Ok (whole (pos (decimal_value digits)))) (fault kinds.NumberTooLarge offset))) (NumberFault digits offset)
  by-point true is = record {
    fine = λ a h. absurd (cc);
    faulty = λ f h. first-left (FaultAt Pointed (kinds.Refused (codes "fraction")) offset) (FaultAt Large kinds.NumberTooLarge offset) f
        (first-at Pointed (kinds.Refused (codes "fraction")) offset f is (told {A = TypedTree} _ f h));
    one = number-single;
  }
  by-point false is = by-size (nat_le (decimal_value digits) MAX_WHOLE) is refl

  pub number-meets : Meets (number_typed digits offset) (NumberFault digits offset)
  number-meets = by-point (has_point digits) refl

-- ---- operands that must be node-sets

other-type : (v : ValueType) (offset : ℕ) (t : TypedTree) (f : TypeFault) → type_of t ≡ v → node_set_at v offset t ≡ Err f → (IsWanted true t → ⊥) × (f ≡ record { kind = kinds.NodeSetWanted; offset = offset })
other-type types.NodeSet offset t f is h = absurd (cc)
other-type types.Truth offset t f is h = (λ w. let e = sym is ∙ w in absurd (cc), told {A = TypedTree} _ f h)
other-type types.Number offset t f is h = (λ w. let e = sym is ∙ w in absurd (cc), told {A = TypedTree} _ f h)
other-type types.Chars offset t f is h = (λ w. let e = sym is ∙ w in absurd (cc), told {A = TypedTree} _ f h)

not-wanted : (nodes : Bool) (offset : ℕ) (t : TypedTree) (f : TypeFault) → wanted nodes offset t ≡ Err f → (IsWanted nodes t → ⊥) × (f ≡ record { kind = kinds.NodeSetWanted; offset = offset })
not-wanted true offset t f h = other-type (type_of t) offset t f refl h
not-wanted false offset t f h = absurd (cc)

pub operand-meets : (S : Scope) (nodes : Bool) (e : Tree) → Meets (typing S e) (HasFault S e) → Meets (after (typing S e) (wanted nodes (offset_of e))) (InOrder (HasFault S e) (NotWanted S nodes e))
operand-meets S nodes e M =
    turn (typing S e) (wanted nodes (offset_of e)) (HasFault S e) (NotWanted S nodes e) M (single-at ((t : TypedTree) × HasType S e t × ¬ IsWanted nodes t) kinds.NodeSetWanted (offset_of e))
    (λ t is. leaf (wanted nodes (offset_of e) t) ((u : TypedTree) × HasType S e u × ¬ IsWanted nodes u) kinds.NodeSetWanted (offset_of e)
    (λ a h u. let w = wanted-sound nodes (offset_of e) t a h in let it : a ≡ u.0 = sym w.is ∙ same t u.0 (sym is ∙ typed-so S e u.0 u.1) in u.2 (subst (IsWanted nodes) it w.kind))
    (λ f h. let n = not-wanted nodes (offset_of e) t f h in ((t, has-type S e t is, n.0), n.1)))

after-plain : (m : Checked TypedTree) (offset : ℕ) → after m (wanted false offset) ≡ m
unfolding after
after-plain (Ok t) offset = refl
after-plain (Err e) offset = refl

-- an operand that may be anything
pub plain-operand-meets : (S : Scope) (nodes : Bool) (e : Tree) → nodes ≡ false → Meets (typing S e) (HasFault S e) → Meets (typing S e) (InOrder (HasFault S e) (NotWanted S nodes e))
plain-operand-meets S nodes e plain M =
    subst (λ b. Meets (typing S e) (InOrder (HasFault S e) (NotWanted S b e))) (sym plain)
    (subst (λ m. Meets m (InOrder (HasFault S e) (NotWanted S false e))) (after-plain (typing S e) (offset_of e)) (operand-meets S false e M))
