-- Signs, axes and node tests can be read in one way.
use Rattle.std.proofs.Common.{◌≡◌, ℕ, suc, List, [], ◌∷◌, Option, None, Some, refl, sym, ◌∙◌, ap}
use Rattle.xp_tree.specs.declared.terms.AxisName.{AxisName}
use Rattle.xp_tree.specs.declared.terms.AxisName.TheVariants as axis
use Rattle.xp_tree.specs.declared.terms.StepTest.{StepTest}
use Rattle.xp_tree.specs.declared.terms.StepTest.TheVariants as test
use Rattle.xp_grammar.specs.declared.token.Placed.{Placed}
use Rattle.xp_grammar.specs.declared.token.NodeType.{NodeType}
use Rattle.xp_grammar.specs.declared.token.NodeType.TheVariants as node_type
use Rattle.xp_grammar.specs.declared.token.Token.{Token}
use Rattle.xp_grammar.specs.declared.token.Token.TheVariants as token
use Rattle.xp_grammar.specs.Parts.{name_test, type_test}
use Rattle.xp_grammar.specs.Grammar.{IsSigns, no_sign, sign, IsAxis, no_axis, at_sign, named_axis, IsTest, star_test, prefix_test, named_test, typed_test, target_test}
use Rattle.xp_grammar_laws.proofs.TokenKinds.{TestKind, from_at, from_axis, from_test, tested_kind, Kind, step_kind, kind_of, head_kind, rest_of, BeginsPath, at_token}

pub one_count : {i j : ℕ} {s m v : List Placed} → IsSigns i s m → IsSigns j s v →
    BeginsPath (head_kind m) → BeginsPath (head_kind v) → (m ≡ v) × (i ≡ j)
one_count (no_sign s) (no_sign _) h k = (refl, refl)
one_count (no_sign _) (sign j p t v is more) h k = absurd (at_token BeginsPath is h)
one_count (sign i p s m is more) (no_sign _) h k = absurd (at_token BeginsPath is k)
one_count (sign i p s m is more) (sign j _ _ v also others) h k =
    let (ends, counts) = one_count more others h k in (ends, ap suc counts)

-- what an axis leaves, by the kind of its first token
pub record AxisRead : Type 0 where
  pub axis_name : AxisName
  pub left : List Placed

abbrev axis_at : TestKind → List Placed → AxisRead
axis_at from_at s = record { axis_name = axis.Attribute; left = rest_of s }
axis_at (from_axis a) s = record { axis_name = a; left = rest_of (rest_of s) }
axis_at from_test s = record { axis_name = axis.Child; left = s }

-- what a node test leaves
pub record TestRead : Type 0 where
  pub test : StepTest
  pub left : List Placed

abbrev test_of_third : NodeType → Token → List Placed → Option TestRead
test_of_third t token.CloseParen s = Some (record { test = type_test t; left = s })
test_of_third t (token.Literal target) s = Some (record { test = test.PiNamed target; left = rest_of s })
test_of_third t _ s = None

abbrev test_of_type : NodeType → List Placed → Option TestRead
test_of_type t (q ∷ r ∷ s) = test_of_third t r.token s
test_of_type t _ = None

abbrev test_of : Token → List Placed → Option TestRead
test_of token.Star s = Some (record { test = test.Star; left = s })
test_of (token.PrefixStar prefix) s = Some (record { test = test.InPrefix prefix; left = s })
test_of (token.Name name) s = Some (record { test = name_test name; left = s })
test_of (token.NodeType t) s = test_of_type t s
test_of _ s = None

abbrev test_at : List Placed → Option TestRead
test_at [] = None
test_at (p ∷ s) = test_of p.token s

reads_test : {t v : List Placed} {k : StepTest} → IsTest t v k → test_at t ≡ Some (record { test = k; left = v })
reads_test (star_test p s is) = ap (λ x. test_of x s) is
reads_test (prefix_test p s prefix is) = ap (λ x. test_of x s) is
reads_test (named_test p s name is) = ap (λ x. test_of x s) is
reads_test (typed_test p q r s t is opens closes) =
    ap (λ x. test_of x (q ∷ r ∷ s)) is ∙ ap (λ x. test_of_third t x s) closes
reads_test (target_test p q l r s target is opens literal closes) =
    ap (λ x. test_of x (q ∷ l ∷ r ∷ s)) is ∙ ap (λ x. test_of_third node_type.Pi x (r ∷ s)) literal

abbrev test_given : Option TestRead → StepTest
test_given None = test.Star
test_given (Some r) = r.test

abbrev left_given : Option TestRead → List Placed
left_given None = []
left_given (Some r) = r.left

pub one_test : {t v w : List Placed} {j k : StepTest} → IsTest t v j → IsTest t w k → (v ≡ w) × (j ≡ k)
one_test A B = let same = sym (reads_test A) ∙ reads_test B in (ap left_given same, ap test_given same)

-- a node test begins with one of its tokens
test_heads : {t v : List Placed} {k : StepTest} → IsTest t v k → head_kind t ≡ step_kind (tested_kind from_test)
test_heads (star_test p s is) = ap kind_of is
test_heads (prefix_test p s prefix is) = ap kind_of is
test_heads (named_test p s name is) = ap kind_of is
test_heads (typed_test p q r s t is opens closes) = ap kind_of is
test_heads (target_test p q l r s target is opens literal closes) = ap kind_of is

abbrev axis_read : Kind → List Placed → AxisRead
axis_read (step_kind (tested_kind k)) s = axis_at k s
axis_read _ s = axis_at from_test s

reads_axis : {s t : List Placed} {a : AxisName} → IsAxis s t a → head_kind t ≡ step_kind (tested_kind from_test) →
    axis_read (head_kind s) s ≡ record { axis_name = a; left = t }
reads_axis (no_axis s) h = ap (λ x. axis_read x s) h
reads_axis (at_sign p s is) h = ap (λ x. axis_read (kind_of x) (p ∷ s)) is
reads_axis (named_axis p q s a is colons) h = ap (λ x. axis_read (kind_of x) (p ∷ q ∷ s)) is

pub one_axis : {s t u v w : List Placed} {a b : AxisName} {j k : StepTest} →
    IsAxis s t a → IsTest t v j → IsAxis s u b → IsTest u w k → (t ≡ u) × (a ≡ b)
one_axis A T B U =
    let same = sym (reads_axis A (test_heads T)) ∙ reads_axis B (test_heads U) in
    (ap (λ r. r.left) same, ap (λ r. r.axis_name) same)

-- a step with a node test begins with the token of its axis or of its test
pub tested_heads : {s t v : List Placed} {a : AxisName} {k : StepTest} → IsAxis s t a → IsTest t v k →
    (x : TestKind) × (head_kind s ≡ step_kind (tested_kind x))
tested_heads (no_axis s) T = (from_test, test_heads T)
tested_heads (at_sign p s is) T = (from_at, ap kind_of is)
tested_heads (named_axis p q s a is colons) T = (from_axis a, ap kind_of is)
