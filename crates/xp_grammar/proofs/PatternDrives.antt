-- What derives as a pattern drives the machine of patterns over all its tokens.
use Rattle.std.proofs.Common.{◌≡◌, ℕ, suc, ◌≤◌, Bool, true, false, List, [], ◌∷◌, None, Some, refl, ◌∙◌, ap, subst, arith}
use Rattle.xp_tree.specs.Tree.{Trees}
use Rattle.xp_tree.specs.declared.terms.Level.TheVariants as level
use Rattle.xp_tree.specs.declared.terms.AxisName.{AxisName}
use Rattle.xp_tree.specs.declared.terms.Operator.TheVariants as operator
use Rattle.xp_tree.specs.declared.terms.StepTest.{StepTest}
use Rattle.xp_tree.specs.declared.pattern.Join.{Join}
use Rattle.xp_tree.specs.declared.pattern.PatternStart.{PatternStart}
use Rattle.xp_tree.specs.PatternTree.{StepTree, PathTree}
use Rattle.xp_grammar.specs.declared.token.Placed.{Placed}
use Rattle.xp_grammar.specs.declared.token.NodeType.{NodeType}
use Rattle.xp_grammar.specs.declared.token.NodeType.TheVariants as node_type
use Rattle.xp_grammar.specs.declared.token.Token.TheVariants as token
use Rattle.xp_grammar.specs.Grammar.{IsAxis, no_axis, at_sign, named_axis, IsTest, star_test, prefix_test, named_test, typed_test, target_test, IsChain, IsPredicates, no_predicate, predicate}
use Rattle.xp_grammar.specs.inner.Machine.{want, load}
use Rattle.xp_grammar.specs.PatternGrammar.{pattern_axis, IsStepPattern, step_pattern, IsRelative, relative, IsMoreSteps, no_more_steps, slash_steps, double_slash_steps, IsIdKey, by_id, by_key, IsPathPattern, root_alone, from_root, from_anywhere, from_here, from_id_key, IsPattern, pattern, IsMorePaths, no_more_paths, more_paths}
use Rattle.xp_grammar.specs.inner.PatternMachine.{Place, want_path, want_step, behind_root, in_test, colons, test, opened, inner, close, id_open, key_open, key_name, key_comma, call_value, call_close, behind_call, behind_step, inside, first_place, named_axis_turn, pattern_turn, pattern_load, pattern_halt, IsPendingPlace}
use Rattle.xp_grammar.proofs.Runs.{step_over, predicate_over}

-- the places at which a node test, or a step, may begin
pub record BeginsTest (a : Place) : Type 0 where
  pub star : pattern_turn a token.Star ≡ Some behind_step
  pub prefix : (p : List ℕ) → pattern_turn a (token.PrefixStar p) ≡ Some behind_step
  pub name : (n : List ℕ) → pattern_turn a (token.Name n) ≡ Some behind_step
  pub node : (t : NodeType) → pattern_turn a (token.NodeType t) ≡ Some (in_test (opened t))

pub record BeginsStep (a : Place) : Type 0 where
  pub tests : BeginsTest a
  pub at_sign : pattern_turn a token.At ≡ Some (in_test test)
  pub axis : (x : AxisName) (is_attribute : Bool) → pattern_axis x ≡ Some is_attribute → pattern_turn a (token.Axis x) ≡ Some (in_test colons)

pub test_begins : BeginsTest (in_test test)
test_begins = record { star = refl; prefix = λ p. refl; name = λ n. refl; node = λ t. refl }

pub path_begins : BeginsStep want_path
path_begins = record {
  tests = record { star = refl; prefix = λ p. refl; name = λ n. refl; node = λ t. refl };
  at_sign = refl;
  axis = λ x is_attribute is. ap named_axis_turn is;
}

pub step_begins : BeginsStep want_step
step_begins = record {
  tests = record { star = refl; prefix = λ p. refl; name = λ n. refl; node = λ t. refl };
  at_sign = refl;
  axis = λ x is_attribute is. ap named_axis_turn is;
}

pub root_begins : BeginsStep behind_root
root_begins = record {
  tests = record { star = refl; prefix = λ p. refl; name = λ n. refl; node = λ t. refl };
  at_sign = refl;
  axis = λ x is_attribute is. ap (λ o. first_place (named_axis_turn o) None) is;
}

drive_axis : (limit : ℕ) {s t : List Placed} {x : AxisName} → IsAxis s t x → (is_attribute : Bool) → pattern_axis x ≡ Some is_attribute →
    (a : Place) → BeginsStep a → (b : Place) × BeginsTest b × (pattern_halt limit a s ≡ pattern_halt limit b t)
unfolding pattern_load
drive_axis limit (no_axis s) is_attribute known a begins = (a, begins.tests, refl)
drive_axis limit (at_sign p s is) is_attribute known a begins =
    (in_test test, test_begins, step_over limit a p s (in_test test) token.At is begins.at_sign (omega arith))
drive_axis limit (named_axis p q s x is has_colons) is_attribute known a begins = (
  in_test test,
  test_begins,
  step_over limit a p (q ∷ s) (in_test colons) (token.Axis x) is (begins.axis x is_attribute known) (omega arith)
      ∙ step_over limit (in_test colons) q s (in_test test) token.DoubleColon has_colons refl (omega arith),
)

pub drive_test : (limit : ℕ) {t v : List Placed} {k : StepTest} → IsTest t v k → (a : Place) → BeginsTest a →
    pattern_halt limit a t ≡ pattern_halt limit behind_step v
unfolding pattern_load
drive_test limit (star_test p s is) a begins = step_over limit a p s behind_step token.Star is begins.star (omega arith)
drive_test limit (prefix_test p s prefix is) a begins =
    step_over limit a p s behind_step (token.PrefixStar prefix) is (begins.prefix prefix) (omega arith)
drive_test limit (named_test p s name is) a begins =
    step_over limit a p s behind_step (token.Name name) is (begins.name name) (omega arith)
drive_test limit (typed_test p q r s t is opens closes) a begins =
    step_over limit a p (q ∷ r ∷ s) (in_test (opened t)) (token.NodeType t) is (begins.node t) (omega arith)
    ∙ step_over limit (in_test (opened t)) q (r ∷ s) (in_test (inner t)) token.OpenParen opens refl (omega arith)
    ∙ step_over limit (in_test (inner t)) r s behind_step token.CloseParen closes refl (omega arith)
drive_test limit (target_test p q l r s target is opens literal closes) a begins =
    step_over limit a p (q ∷ l ∷ r ∷ s) (in_test (opened node_type.Pi)) (token.NodeType node_type.Pi) is (begins.node node_type.Pi) (omega arith)
    ∙ step_over limit (in_test (opened node_type.Pi)) q (l ∷ r ∷ s) (in_test (inner node_type.Pi)) token.OpenParen opens refl (omega arith)
    ∙ step_over limit (in_test (inner node_type.Pi)) l (r ∷ s) (in_test close) (token.Literal target) literal refl (omega arith)
    ∙ step_over limit (in_test close) r s behind_step token.CloseParen closes refl (omega arith)

pub bracket_over : (limit : ℕ) (p : Placed) (s : List Placed) → 1 ≤ limit → p.token ≡ token.OpenBracket →
    pattern_halt limit behind_step (p ∷ s) ≡ pattern_halt limit (inside (want true 0 false) []) s
unfolding pattern_load load
bracket_over limit p s room is =
    step_over limit behind_step p s (inside (want true 0 false) []) token.OpenBracket is refl room

pub drive_predicates : (limit : ℕ) {d : ℕ} {s u : List Placed} {x : Trees} → IsPredicates limit d s u x → d ≡ 0 →
    pattern_halt limit behind_step s ≡ pattern_halt limit behind_step u
drive_predicates limit (no_predicate d s) none = refl
drive_predicates limit (predicate d p q s m u e rest is fits D closes T) none =
    let room : 1 ≤ limit = omega (arith, fits, none) in
    bracket_over limit p s room is
    ∙ predicate_over limit s m q e room closes (subst (λ x. IsChain limit level.Or (suc x) s (q ∷ m) e) none D)
    ∙ drive_predicates limit T none

pub drive_step : (limit : ℕ) {j : Join} {s u : List Placed} {x : StepTree} → IsStepPattern limit j s u x → (a : Place) → BeginsStep a →
    pattern_halt limit a s ≡ pattern_halt limit behind_step u
drive_step limit (step_pattern j s t v u x is_attribute k ps A known T P) a begins =
    let (b, tests, to) = drive_axis limit A is_attribute known a begins in
    to ∙ drive_test limit T b tests ∙ drive_predicates limit P refl

-- a path pattern may end there
pub data IsEnding : Place → Type 0 where
  at_root : IsEnding behind_root
  at_call : IsEnding behind_call
  at_step : IsEnding behind_step

pub data TakesSlash : Place → Type 0 where
  slash_at_call : TakesSlash behind_call
  slash_at_step : TakesSlash behind_step

pub over_slash : (limit : ℕ) (a : Place) (p : Placed) (s : List Placed) → TakesSlash a → p.token ≡ token.Slash →
    pattern_halt limit a (p ∷ s) ≡ pattern_halt limit want_step s
unfolding pattern_load
over_slash limit _ p s slash_at_call is = step_over limit behind_call p s want_step token.Slash is refl (omega arith)
over_slash limit _ p s slash_at_step is = step_over limit behind_step p s want_step token.Slash is refl (omega arith)

pub over_double : (limit : ℕ) (a : Place) (p : Placed) (s : List Placed) → TakesSlash a → p.token ≡ token.DoubleSlash →
    pattern_halt limit a (p ∷ s) ≡ pattern_halt limit want_step s
unfolding pattern_load
over_double limit _ p s slash_at_call is = step_over limit behind_call p s want_step token.DoubleSlash is refl (omega arith)
over_double limit _ p s slash_at_step is = step_over limit behind_step p s want_step token.DoubleSlash is refl (omega arith)

slash_ends : (a : Place) → TakesSlash a → IsEnding a
slash_ends _ slash_at_call = at_call
slash_ends _ slash_at_step = at_step

pub over_union : (limit : ℕ) (a : Place) (p : Placed) (s : List Placed) → IsEnding a → p.token ≡ token.Operator operator.Union →
    pattern_halt limit a (p ∷ s) ≡ pattern_halt limit want_path s
unfolding pattern_load
over_union limit _ p s at_root is = step_over limit behind_root p s want_path (token.Operator operator.Union) is refl (omega arith)
over_union limit _ p s at_call is = step_over limit behind_call p s want_path (token.Operator operator.Union) is refl (omega arith)
over_union limit _ p s at_step is = step_over limit behind_step p s want_path (token.Operator operator.Union) is refl (omega arith)

-- the machine goes over a whole path pattern, up to u
abbrev pub PassesTo : ℕ → Place → List Placed → List Placed → Type 0
PassesTo limit a s u = (b : Place) × IsEnding b × (pattern_halt limit a s ≡ pattern_halt limit b u)

mutual
  pub drive_relative : (limit : ℕ) {j : Join} {s u : List Placed} {x : List StepTree} → IsRelative limit j s u x → (a : Place) → BeginsStep a →
      PassesTo limit a s u
  drive_relative limit (relative j s m u it rest D T) a begins =
      let (b, ends, on) = drive_more_steps limit T behind_step slash_at_step in
      (b, ends, drive_step limit D a begins ∙ on)

  pub drive_more_steps : (limit : ℕ) {s u : List Placed} {x : List StepTree} → IsMoreSteps limit s u x → (a : Place) → TakesSlash a →
      PassesTo limit a s u
  drive_more_steps limit (no_more_steps s) a takes = (a, slash_ends a takes, refl)
  drive_more_steps limit (slash_steps p s u steps is D) a takes =
      let (b, ends, on) = drive_relative limit D want_step step_begins in
      (b, ends, over_slash limit a p s takes is ∙ on)
  drive_more_steps limit (double_slash_steps p s u steps is D) a takes =
      let (b, ends, on) = drive_relative limit D want_step step_begins in
      (b, ends, over_double limit a p s takes is ∙ on)

pub drive_id_key : (limit : ℕ) {s m : List Placed} {x : PatternStart} → IsIdKey limit s m x →
    pattern_halt limit want_path s ≡ pattern_halt limit behind_call m
unfolding pattern_load
drive_id_key limit (by_id p q l r s value is opens room literal closes) =
    step_over limit want_path p (q ∷ l ∷ r ∷ s) id_open (token.Function _) is refl room
    ∙ step_over limit id_open q (l ∷ r ∷ s) call_value token.OpenParen opens refl room
    ∙ step_over limit call_value l (r ∷ s) call_close (token.Literal value) literal refl room
    ∙ step_over limit call_close r s behind_call token.CloseParen closes refl (omega arith)
drive_id_key limit (by_key p q n c l r s name value is opens room named comma literal closes) =
    step_over limit want_path p (q ∷ n ∷ c ∷ l ∷ r ∷ s) key_open (token.Function _) is refl room
    ∙ step_over limit key_open q (n ∷ c ∷ l ∷ r ∷ s) key_name token.OpenParen opens refl room
    ∙ step_over limit key_name n (c ∷ l ∷ r ∷ s) key_comma (token.Literal name) named refl room
    ∙ step_over limit key_comma c (l ∷ r ∷ s) call_value token.Comma comma refl room
    ∙ step_over limit call_value l (r ∷ s) call_close (token.Literal value) literal refl room
    ∙ step_over limit call_close r s behind_call token.CloseParen closes refl (omega arith)

pub path_slash : (limit : ℕ) (p : Placed) (s : List Placed) → p.token ≡ token.Slash →
    pattern_halt limit want_path (p ∷ s) ≡ pattern_halt limit behind_root s
unfolding pattern_load
path_slash limit p s is = step_over limit want_path p s behind_root token.Slash is refl (omega arith)

pub path_double : (limit : ℕ) (p : Placed) (s : List Placed) → p.token ≡ token.DoubleSlash →
    pattern_halt limit want_path (p ∷ s) ≡ pattern_halt limit want_step s
unfolding pattern_load
path_double limit p s is = step_over limit want_path p s want_step token.DoubleSlash is refl (omega arith)

pub drive_path : (limit : ℕ) {s u : List Placed} {x : PathTree} → IsPathPattern limit s u x → PassesTo limit want_path s u
drive_path limit (root_alone p s is) = (behind_root, at_root, path_slash limit p s is)
drive_path limit (from_root p s u steps is D) =
    let (b, ends, on) = drive_relative limit D behind_root root_begins in
    (b, ends, path_slash limit p s is ∙ on)
drive_path limit (from_anywhere p s u steps is D) =
    let (b, ends, on) = drive_relative limit D want_step step_begins in
    (b, ends, path_double limit p s is ∙ on)
drive_path limit (from_here s u steps D) = drive_relative limit D want_path path_begins
drive_path limit (from_id_key s m u begins steps D T) =
    let (b, ends, on) = drive_more_steps limit T behind_call slash_at_call in
    (b, ends, drive_id_key limit D ∙ on)

mutual
  pub drive_pattern : (limit : ℕ) {s u : List Placed} {x : List PathTree} → IsPattern limit s u x → PassesTo limit want_path s u
  drive_pattern limit (pattern s m u first rest D T) =
      let (a, ended, to) = drive_path limit D in
      let (b, ends, on) = drive_more_paths limit T a ended in
      (b, ends, to ∙ on)

  drive_more_paths : (limit : ℕ) {s u : List Placed} {x : List PathTree} → IsMorePaths limit s u x → (a : Place) → IsEnding a →
      PassesTo limit a s u
  drive_more_paths limit (no_more_paths s) a ended = (a, ended, refl)
  drive_more_paths limit (more_paths p s u paths is D) a ended =
      let (b, ends, on) = drive_pattern limit D in
      (b, ends, over_union limit a p s ended is ∙ on)

pub ending_is_no_more : (a : Place) → IsEnding a → IsPendingPlace a → ⊥
ending_is_no_more _ at_root pending = pending
ending_is_no_more _ at_call pending = pending
ending_is_no_more _ at_step pending = pending
