-- The printed tokens of an expression that fits derive it again, but for offsets.
use Rattle.std.proofs.Common.{◌≡◌, ℕ, zero, suc, ◌+◌, ◌≤◌, ◌<◌, Bool, true, false, nat_le, cond, List, [], ◌∷◌, ◌++◌, replicate, refl, subst, ap, ap₂, arith}
use Rattle.std.proofs.lemmas.Bool.Decides.{nat_tests}
use Rattle.xp_tree.specs.Tree.{Tree, Steps, Operands, Trees, chain, negated, path, filtered, variable, literal, number, call, root, here, from, no_steps, step, no_operands, operand, no_trees, tree}
use Rattle.xp_tree.specs.declared.terms.Level.{Level}
use Rattle.xp_tree.specs.declared.terms.Level.TheVariants as level
use Rattle.xp_tree.specs.declared.terms.Operator.{Operator}
use Rattle.xp_tree.specs.declared.terms.Operator.TheVariants as operators
use Rattle.xp_tree.specs.declared.terms.AxisName.{AxisName}
use Rattle.xp_tree.specs.declared.terms.StepTest.{StepTest}
use Rattle.xp_tree.specs.declared.terms.StepTest.TheVariants as test
use Rattle.xp_grammar.specs.declared.token.Placed.{Placed}
use Rattle.xp_grammar.specs.declared.token.NodeType.{NodeType}
use Rattle.xp_grammar.specs.declared.token.NodeType.TheVariants as node_type
use Rattle.xp_grammar.specs.declared.token.Token.{Token}
use Rattle.xp_grammar.specs.declared.token.Token.TheVariants as token
use Rattle.xp_grammar.specs.Parts.{offset_at, joined, with_predicates, with_steps, level_of, name_test, type_test}
use Rattle.xp_grammar.specs.Grammar.{IsSigns, no_sign, sign, named_axis, IsTest, star_test, prefix_test, named_test, typed_test, target_test, IsChain, chained, IsOperand, signed, IsOperands, no_more, one_more, IsPath, root_alone, from_root, from_here, from_filter, IsSteps, tested_step, IsMoreSteps, no_more_steps, slash_steps, IsPredicates, no_predicate, predicate, IsFilter, filter, IsPrimary, a_variable, a_literal, a_number, in_parens, a_call, IsArguments, no_argument, arguments, IsMoreArguments, no_more_arguments, one_more_argument}
use Rattle.xp_print.specs.Printed.{binding, binding_of, sign_binding, name_like_next, is_bare_path, is_base, is_path_base, test_text}
use Rattle.xp_print_laws.specs.Offsets.{without_offsets, steps_without_offsets, operands_without_offsets, trees_without_offsets}
use Rattle.xp_print_laws.specs.PrintedTokens as printed
use Rattle.xp_print_laws.specs.PrintedTokens.{operand_tokens, enclosed_tokens, test_tokens, tokens_printed, start_tokens, steps_tokens, rest_tokens, predicates_tokens, arguments_tokens}
use Rattle.xp_print_laws.proofs.Fits.{FitsTest, fits_star, fits_prefix, fits_named, fits_node, fits_chars, fits_comment, fits_pi, fits_target, Fits, fits_chain, fits_negated, fits_root, fits_root_within, fits_from_root, fits_from_here, fits_from_base, fits_filtered, fits_variable, fits_literal, fits_number, fits_call, FitsAround, around_bare, around_within, FitsOperands, fits_no_more, fits_one_more, FitsBase, base_bare, base_within, FitsSteps, fits_step, FitsMoreSteps, fits_no_more_steps, fits_more_steps, FitsPredicates, fits_no_predicate, fits_predicate, FitsArguments, fits_no_argument, fits_argument}
use Rattle.xp_print_laws.proofs.Spelled.{Spelled, none_spelled, one_spelled, First, first, Last, last, uncons, only, ended, split, take_one, take_two}
use Rattle.xp_print_laws.proofs.Reading.{Reads, as_primary, as_filter, as_chain, as_operand, path-of-primary, chain-of-primary, operand-of-primary}

-- an expression that differs by offsets alone
abbrev pub Found : (Tree → Type 0) → Tree → Type 0
Found P e = (f : Tree) × P f × (without_offsets f ≡ without_offsets e)

abbrev FoundSteps : (Steps → Type 0) → Steps → Type 0
FoundSteps P ss = (fs : Steps) × P fs × (steps_without_offsets fs ≡ steps_without_offsets ss)

abbrev FoundOperands : (Operands → Type 0) → Operands → Type 0
FoundOperands P os = (fs : Operands) × P fs × (operands_without_offsets fs ≡ operands_without_offsets os)

abbrev FoundTrees : (Trees → Type 0) → Trees → Type 0
FoundTrees P es = (fs : Trees) × P fs × (trees_without_offsets fs ≡ trees_without_offsets es)

-- an operand as it stands or in parentheses
data AroundReads (limit d around : ℕ) (e : Tree) (s u : List Placed) (f : Tree) : Type 0 where
  reads_bare : around < binding_of e → Reads e limit d s u f → AroundReads limit d around e s u f
  reads_within : IsPrimary limit d s u f → AroundReads limit d around e s u f

operand-of-around : {limit d : ℕ} (n : Level) {e : Tree} {s u : List Placed} {f : Tree} → d ≤ limit → AroundReads limit d (binding n) e s u f → IsOperand limit n d s u f
operand-of-around n {e} room (reads_bare lt D) = as_operand e n lt room D
operand-of-around n {e} room (reads_within D) = operand-of-primary n room D

union-of-around : {limit d : ℕ} {e : Tree} {s u : List Placed} {f : Tree} → d ≤ limit → AroundReads limit d sign_binding e s u f → IsChain limit level.Union d s u f
union-of-around {e = e} room (reads_bare lt D) = as_chain e level.Union lt room D
union-of-around {e = e} room (reads_within D) = chain-of-primary room D level.Union

-- a base as it stands or in parentheses
data BaseReads (limit d : ℕ) (bare : Bool) (e : Tree) (s u : List Placed) (f : Tree) : Type 0 where
  base_reads : bare ≡ true → Reads e limit d s u f → BaseReads limit d bare e s u f
  base_reads_within : IsPrimary limit d s u f → BaseReads limit d bare e s u f

primary-of-base : {limit d : ℕ} {e : Tree} {s u : List Placed} {f : Tree} → BaseReads limit d (is_base e) e s u f → IsPrimary limit d s u f
primary-of-base {e = e} (base_reads is D) = as_primary e is D
primary-of-base (base_reads_within D) = D

filter-of-base : {limit d : ℕ} {e : Tree} {s u : List Placed} {f : Tree} → BaseReads limit d (is_path_base e) e s u f → IsFilter limit d s u f
filter-of-base {e = e} (base_reads is D) = as_filter e is D
filter-of-base {limit} {d} {e} {s} {u} {f} (base_reads_within D) = filter d s u u f no_trees D (no_predicate d u)

-- ---- the texts of parts

pub tokens-bare : (around : ℕ) (e : Tree) (within bare : List Token) → around < binding_of e → operand_tokens around e within bare ≡ bare
tokens-bare around e within bare lt =
    let test : nat_le (binding_of e) around ≡ false = grind (arith, nat_tests) in ap (λ b. cond b (printed.in_parens within) bare) test

pub tokens-within : (around : ℕ) (e : Tree) (within bare : List Token) → binding_of e ≤ around → operand_tokens around e within bare ≡ printed.in_parens within
tokens-within around e within bare le =
    let test : nat_le (binding_of e) around ≡ true = grind (arith, nat_tests) in ap (λ b. cond b (printed.in_parens within) bare) test

pub bare-root : (b : Bool) (o : ℕ) (a : AxisName) (k : StepTest) (at : ℕ) (ps : Trees) (rest : Steps) → is_bare_path b root (step o a k at ps rest) ≡ true
bare-root true o a k at ps rest = refl
bare-root false o a k at ps rest = refl

pub bare-here : (b : Bool) (ss : Steps) → is_bare_path b here ss ≡ true
bare-here true ss = refl
bare-here false ss = refl

pub bare-from : (b : Bool) (e : Tree) (ss : Steps) → is_bare_path b (from e) ss ≡ true
bare-from true e ss = refl
bare-from false e ss = refl

unenclosed : {b : Bool} (ts : List Token) {s u : List Placed} → b ≡ true → Spelled (enclosed_tokens b ts) s u → Spelled ts s u
unenclosed ts {s} {u} is S = subst (λ b. Spelled (enclosed_tokens b ts) s u) is S

enclosed : {b : Bool} (ts : List Token) {s u : List Placed} → b ≡ false → Spelled (enclosed_tokens b ts) s u → Spelled (printed.in_parens ts) s u
enclosed ts {s} {u} is S = subst (λ b. Spelled (enclosed_tokens b ts) s u) is S

-- ---- parentheses

close_parens : {limit d : ℕ} (e : Tree) (p : Placed) (r u : List Placed) → p.token ≡ token.OpenParen → suc d ≤ limit → {m : List Placed} →
    Last token.CloseParen u m → Found (Reads e limit (suc d) r m) e → Found (IsPrimary limit d (p ∷ r) u) e
close_parens {limit} {d} e p r u is room (last q closes) (f, D, alike) =
    (f, in_parens d p q r u f is room (as_chain e level.Or (omega arith) room D) closes, alike)

open_parens : {limit d : ℕ} (e : Tree) (ts : List Token) (u : List Placed) → suc d ≤ limit →
    ((r m : List Placed) → Spelled ts r m → Found (Reads e limit (suc d) r m) e) →
    {s : List Placed} → First token.OpenParen (ts ++ (token.CloseParen ∷ [])) u s → Found (IsPrimary limit d s u) e
open_parens e ts u room inner (first p r is more) =
    let parts = split ts more in
    close_parens e p r u is room (only parts.back) (inner r parts.middle parts.front)

parens : {limit d : ℕ} (e : Tree) (ts : List Token) (s u : List Placed) → suc d ≤ limit →
    ((r m : List Placed) → Spelled ts r m → Found (Reads e limit (suc d) r m) e) →
    Spelled (printed.in_parens ts) s u → Found (IsPrimary limit d s u) e
parens e ts s u room inner S = open_parens e ts u room inner (uncons S)

within_found : {limit d around : ℕ} (e : Tree) (s u : List Placed) → Found (IsPrimary limit d s u) e → Found (AroundReads limit d around e s u) e
within_found e s u (f, D, alike) = (f, reads_within D, alike)

bare_found : {limit d around : ℕ} (e : Tree) (s u : List Placed) → around < binding_of e → Found (Reads e limit d s u) e → Found (AroundReads limit d around e s u) e
bare_found e s u lt (f, D, alike) = (f, reads_bare lt D, alike)

base_found : {limit d : ℕ} {bare : Bool} (e : Tree) (s u : List Placed) → bare ≡ true → Found (Reads e limit d s u) e → Found (BaseReads limit d bare e s u) e
base_found e s u is (f, D, alike) = (f, base_reads is D, alike)

base_found_within : {limit d : ℕ} {bare : Bool} (e : Tree) (s u : List Placed) → Found (IsPrimary limit d s u) e → Found (BaseReads limit d bare e s u) e
base_found_within e s u (f, D, alike) = (f, base_reads_within D, alike)

-- ---- chains and signs

joined-alike : (n : Level) (at_first at_second : ℕ) (f e : Tree) (fs os : Operands) (o : Operator) (at : ℕ) (second : Tree) →
    without_offsets f ≡ without_offsets e → operands_without_offsets fs ≡ operands_without_offsets (operand o at second os) →
    without_offsets (joined n at_first f fs) ≡ without_offsets (chain n at_second e (operand o at second os))
joined-alike n at_first at_second f e no_operands os o at second a c = absurd (cc)
joined-alike n at_first at_second f e (operand p q x fs) os o at second a c = ap₂ (λ x y. chain n 0 x y) a c

chain_found : {limit d : ℕ} (n : Level) (offset : ℕ) (e : Tree) (o : Operator) (at : ℕ) (second : Tree) (os : Operands) (s m u : List Placed) → d ≤ limit →
    Found (AroundReads limit d (binding n) e s m) e → FoundOperands (IsOperands limit n d m u) (operand o at second os) →
    Found (IsChain limit n d s u) (chain n offset e (operand o at second os))
chain_found {limit} {d} n offset e o at second os s m u room (f, D, a) (fs, T, c) =
    (joined n (offset_at s) f fs, chained n d s m u f fs (operand-of-around n room D) T, joined-alike n (offset_at s) offset f e fs os o at second a c)

signs_first : {count : ℕ} {ts : List Token} {s u : List Placed} → First (token.Operator operators.Minus) ts u s →
    ((r : List Placed) → Spelled ts r u → IsSigns count r u) → IsSigns (suc count) s u
signs_first {count} {ts} {s} {u} (first p r is more) on = sign count p r u is (on r more)

signs-of : (count : ℕ) (s u : List Placed) → Spelled (replicate count (token.Operator operators.Minus)) s u → IsSigns count s u
signs-of zero s u S = subst (λ m. IsSigns 0 s m) (ended S) (no_sign s)
signs-of (suc count) s u S = signs_first (uncons S) (λ r R. signs-of count r u R)

negated_found : {limit d : ℕ} (offset count : ℕ) (e : Tree) (s m u : List Placed) → d ≤ limit → d + suc count ≤ limit → IsSigns (suc count) s m →
    Found (AroundReads limit d sign_binding e m u) e → Found (IsOperand limit level.Prod d s u) (negated offset (suc count) e)
negated_found {limit} {d} offset count e s m u room fits S (f, D, a) =
    (negated (offset_at s) (suc count) f, signed d (suc count) s m u f S fits (union-of-around room D), ap (negated 0 (suc count)) a)

operand_found : {limit d : ℕ} (n : Level) (o : Operator) (at : ℕ) (e : Tree) (os : Operands) (p : Placed) (r m u : List Placed) → d ≤ limit →
    p.token ≡ token.Operator o → level_of o ≡ n → Found (AroundReads limit d (binding n) e r m) e → FoundOperands (IsOperands limit n d m u) os →
    FoundOperands (IsOperands limit n d (p ∷ r) u) (operand o at e os)
operand_found {limit} {d} n o at e os p r m u room is at_level (f, D, a) (fs, T, c) =
    (operand o p.offset f fs, one_more n d p r m u o f fs is at_level (operand-of-around n room D) T, ap₂ (λ x y. operand o 0 x y) a c)

-- ---- paths

star-read : {s u : List Placed} → Last token.Star u s → IsTest s u test.Star
star-read {s} {u} (last p is) = star_test p u is

prefix-read : {s u : List Placed} (prefix : List ℕ) → Last (token.PrefixStar prefix) u s → IsTest s u (test.InPrefix prefix)
prefix-read {s} {u} prefix (last p is) = prefix_test p u prefix is

name-read : {s u : List Placed} (name : List ℕ) → Last (token.Name name) u s → IsTest s u (name_test name)
name-read {s} {u} name (last p is) = named_test p u name is

type-read : {s u : List Placed} (t : NodeType) → Spelled (token.NodeType t ∷ token.OpenParen ∷ token.CloseParen ∷ []) s u → IsTest s u (type_test t)
type-read t (one_spelled _ _ p _ _ is (one_spelled _ _ q _ _ opens (one_spelled _ _ r _ _ closes (none_spelled u)))) = typed_test p q r u t is opens closes

target-read : {s u : List Placed} (target : List ℕ) →
    Spelled (token.NodeType node_type.Pi ∷ token.OpenParen ∷ token.Literal target ∷ token.CloseParen ∷ []) s u → IsTest s u (test.PiNamed target)
target-read target (one_spelled _ _ p _ _ is (one_spelled _ _ q _ _ opens (one_spelled _ _ l _ _ spelled (one_spelled _ _ r _ _ closes (none_spelled u))))) =
    target_test p q l r u target is opens spelled closes

test-read : {Known : Token → Type 0} {k : StepTest} → FitsTest Known k → (s u : List Placed) → Spelled (test_tokens k) s u → IsTest s u k
test-read fits_star s u S = star-read (only S)
test-read (fits_prefix prefix known) s u S = prefix-read prefix (only S)
test-read (fits_named prefix local known is) s u S =
    subst (λ k. IsTest s u k) is (name-read (test_text (test.Named prefix local)) (only S))
test-read fits_node s u S = type-read node_type.Node S
test-read fits_chars s u S = type-read node_type.Chars S
test-read fits_comment s u S = type-read node_type.Comment S
test-read fits_pi s u S = type-read node_type.Pi S
test-read (fits_target target known) s u S = target-read target S

root_found : {limit d : ℕ} (offset : ℕ) {s u : List Placed} → Last token.Slash u s → Found (λ f. IsPath limit d s u f) (path offset root no_steps)
root_found {limit} {d} offset {s} {u} (last p is) = (path p.offset root no_steps, root_alone d p u is, refl)

from_root_found : {limit d : ℕ} (offset : ℕ) (ss : Steps) (p : Placed) (r u : List Placed) → p.token ≡ token.Slash → FoundSteps (IsSteps limit d r u) ss →
    Found (λ f. IsPath limit d (p ∷ r) u f) (path offset root ss)
from_root_found {limit} {d} offset ss p r u is (fs, D, a) = (path p.offset root fs, from_root d p r u fs is D, ap (path 0 root) a)

from_here_found : {limit d : ℕ} (offset : ℕ) (ss : Steps) (s u : List Placed) → FoundSteps (IsSteps limit d s u) ss →
    Found (λ f. IsPath limit d s u f) (path offset here ss)
from_here_found {limit} {d} offset ss s u (fs, D, a) = (path (offset_at s) here fs, from_here d s u fs D, ap (path 0 here) a)

steps-alike : (at_first at_second : ℕ) (f e : Tree) (fs : Steps) (o : ℕ) (a : AxisName) (k : StepTest) (at : ℕ) (ps : Trees) (rest : Steps) →
    without_offsets f ≡ without_offsets e → steps_without_offsets fs ≡ steps_without_offsets (step o a k at ps rest) →
    without_offsets (with_steps at_first f fs) ≡ without_offsets (path at_second (from e) (step o a k at ps rest))
steps-alike at_first at_second f e no_steps o a k at ps rest x y = absurd (cc)
steps-alike at_first at_second f e (step o' a' k' at' ps' rest') o a k at ps rest x y = ap₂ (λ t ss. path 0 (from t) ss) x y

from_base_last : (limit : ℕ) {d : ℕ} (offset : ℕ) (e : Tree) (o : ℕ) (a : AxisName) (k : StepTest) (at : ℕ) (ps : Trees) (rest : Steps) (s u : List Placed) {m l : List Placed} →
    Found (BaseReads limit d (is_path_base e) e s m) e → Last token.Slash l m →
    FoundSteps (IsSteps limit d l u) (step o a k at ps rest) → Found (λ f. IsPath limit d s u f) (path offset (from e) (step o a k at ps rest))
from_base_last limit {d} offset e o a k at ps rest s u {m} {l} (f, B, x) (last p is) (fs, D, y) = (
  with_steps (offset_at s) f fs,
  from_filter d s (p ∷ l) u f fs (filter-of-base B) (slash_steps d p l u fs is D),
  steps-alike (offset_at s) offset f e fs o a k at ps rest x y,
)

slash_found : {limit d : ℕ} (ss : Steps) (p : Placed) (r u : List Placed) → p.token ≡ token.Slash → FoundSteps (IsSteps limit d r u) ss →
    FoundSteps (IsMoreSteps limit d (p ∷ r) u) ss
slash_found {limit} {d} ss p r u is (fs, D, y) = (fs, slash_steps d p r u fs is D, y)

step_found : {limit d : ℕ} (o : ℕ) (a : AxisName) (k : StepTest) (at : ℕ) (ps : Trees) (rest : Steps) (p q : Placed) (t v m u : List Placed) →
    p.token ≡ token.Axis a → q.token ≡ token.DoubleColon → IsTest t v k → FoundTrees (IsPredicates limit d v m) ps →
    FoundSteps (IsMoreSteps limit d m u) rest → FoundSteps (IsSteps limit d (p ∷ q ∷ t) u) (step o a k at ps rest)
step_found {limit} {d} o a k at ps rest p q t v m u is colons K (es, P, x) (fs, M, y) =
    (step p.offset a k (offset_at t) es fs, tested_step d (p ∷ q ∷ t) t v m u a k es fs (named_axis p q t a is colons) K P M, ap₂ (λ l r. step 0 a k 0 l r) x y)

-- ---- predicates and arguments

predicates-alike : (at_first at_second : ℕ) (f e : Tree) (fs : Trees) (first_one : Tree) (rest : Trees) →
    without_offsets f ≡ without_offsets e → trees_without_offsets fs ≡ trees_without_offsets (tree first_one rest) →
    without_offsets (with_predicates at_first f fs) ≡ without_offsets (filtered at_second e (tree first_one rest))
predicates-alike at_first at_second f e no_trees first_one rest x y = absurd (cc)
predicates-alike at_first at_second f e (tree g gs) first_one rest x y = ap₂ (λ t ts. filtered 0 t ts) x y

filtered_found : {limit d : ℕ} (offset : ℕ) (e first_one : Tree) (rest : Trees) (s m u : List Placed) → Found (BaseReads limit d (is_base e) e s m) e →
    FoundTrees (IsPredicates limit d m u) (tree first_one rest) → Found (λ f. IsFilter limit d s u f) (filtered offset e (tree first_one rest))
filtered_found {limit} {d} offset e first_one rest s m u (f, B, x) (fs, P, y) =
    (with_predicates (offset_at s) f fs, filter d s m u f fs (primary-of-base B) P, predicates-alike (offset_at s) offset f e fs first_one rest x y)

predicate_found : {limit d : ℕ} (e : Tree) (es : Trees) (p q : Placed) (r m u : List Placed) → p.token ≡ token.OpenBracket → suc d ≤ limit →
    Found (Reads e limit (suc d) r (q ∷ m)) e → q.token ≡ token.CloseBracket → FoundTrees (IsPredicates limit d m u) es →
    FoundTrees (IsPredicates limit d (p ∷ r) u) (tree e es)
predicate_found {limit} {d} e es p q r m u is room (f, D, x) closes (fs, P, y) =
    (tree f fs, predicate d p q r m u f fs is room (as_chain e level.Or (omega arith) room D) closes P, ap₂ (λ t ts. tree t ts) x y)

arguments_found : {limit d : ℕ} (e : Tree) (es : Trees) (s m u : List Placed) → d ≤ limit → Found (Reads e limit d s m) e →
    FoundTrees (IsMoreArguments limit d m u) es → FoundTrees (IsArguments limit d s u) (tree e es)
arguments_found {limit} {d} e es s m u room (f, D, x) (fs, M, y) =
    (tree f fs, arguments d s m u f fs (as_chain e level.Or (omega arith) room D) M, ap₂ (λ t ts. tree t ts) x y)

more_arguments_found : {limit d : ℕ} (e : Tree) (es : Trees) (p : Placed) (r m u : List Placed) → p.token ≡ token.Comma → d ≤ limit →
    Found (Reads e limit d r m) e → FoundTrees (IsMoreArguments limit d m u) es → FoundTrees (IsMoreArguments limit d (p ∷ r) u) (tree e es)
more_arguments_found {limit} {d} e es p r m u is room (f, D, x) (fs, M, y) =
    (tree f fs, one_more_argument d p r m u f fs is (as_chain e level.Or (omega arith) room D) M, ap₂ (λ t ts. tree t ts) x y)

call_found : {limit d : ℕ} (offset : ℕ) (name : List ℕ) (args : Trees) (p q : Placed) (r u : List Placed) → p.token ≡ token.Function name →
    q.token ≡ token.OpenParen → suc d ≤ limit → {m : List Placed} → Last token.CloseParen u m → FoundTrees (IsArguments limit (suc d) r m) args →
    Found (λ f. IsPrimary limit d (p ∷ q ∷ r) u f) (call offset name args)
call_found {limit} {d} offset name args p q r u is opens room (last l closes) (fs, A, y) =
    (call p.offset name fs, a_call d p q l r u name fs is opens room A closes, ap (call 0 name) y)

mutual
  pub reread : {Known : Token → Type 0} (limit : ℕ) {d : ℕ} {b : Bool} {e : Tree} → Fits Known limit d b e → d ≤ limit →
      (s u : List Placed) → Spelled (tokens_printed b e) s u → Found (Reads e limit d s u) e
  reread limit (fits_chain d b n offset e o at second rest F T) room s u S =
      let parts = split (operand_tokens (binding n) e (tokens_printed false e) (tokens_printed (name_like_next b (operand o at second rest)) e)) S in
      chain_found n offset e o at second rest s parts.middle u room (reread_around limit F room s parts.middle parts.front) (reread_operands limit T room parts.middle u parts.back)
  reread limit (fits_negated d b offset count e fits F) room s u S =
      let parts = split (replicate (suc count) (token.Operator operators.Minus)) S in
      negated_found offset count e s parts.middle u room fits (signs-of (suc count) s parts.middle parts.front) (reread_around limit F room parts.middle u parts.back)
  reread limit (fits_root d offset) room s u S = root_found offset (only S)
  reread limit (fits_root_within d offset inner) room s u S =
      let (f, D, alike) = parens (path offset root no_steps) (token.Slash ∷ []) s u inner (λ r m R. root_found offset (only R)) S in
      (f, path-of-primary D, alike)
  reread limit (fits_from_root d b offset o a k at ps rest F) room s u S =
      take_one (λ l. Found (λ f. IsPath limit d l u f) (path offset root (step o a k at ps rest)))
      (unenclosed (start_tokens root ++ steps_tokens true (step o a k at ps rest)) (bare-root b o a k at ps rest) S)
      (λ p r is R. from_root_found offset (step o a k at ps rest) p r u is (reread_steps limit F room r u R))
  reread limit (fits_from_here d b offset o a k at ps rest F) room s u S =
      from_here_found offset (step o a k at ps rest) s u
      (reread_steps limit F room s u (unenclosed (start_tokens here ++ steps_tokens true (step o a k at ps rest)) (bare-here b (step o a k at ps rest)) S))
  reread limit (fits_from_base d b offset e o a k at ps rest B F) room s u S =
      let outer = split (start_tokens (from e)) (unenclosed (start_tokens (from e) ++ steps_tokens true (step o a k at ps rest)) (bare-from b e (step o a k at ps rest)) S) in
      let parts = split (enclosed_tokens (is_path_base e) (tokens_printed false e)) outer.front in
      from_base_last limit offset e o a k at ps rest s u (reread_base limit B room s parts.middle parts.front) (only parts.back) (reread_steps limit F room outer.middle u outer.back)
  reread limit (fits_filtered d b offset e first_one rest B P) room s u S =
      let parts = split (enclosed_tokens (is_base e) (tokens_printed false e)) S in
      filtered_found offset e first_one rest s parts.middle u (reread_base limit B room s parts.middle parts.front) (reread_predicates limit P room parts.middle u parts.back)
  reread limit (fits_variable d b offset name known) room s u S =
      take_one (λ l. Found (λ f. IsPrimary limit d l u f) (variable offset name)) S
      (λ p r is R. subst (λ l. Found (λ f. IsPrimary limit d (p ∷ r) l f) (variable offset name)) (ended R) (variable p.offset name, a_variable d p r name is, refl))
  reread limit (fits_literal d b offset value known) room s u S =
      take_one (λ l. Found (λ f. IsPrimary limit d l u f) (literal offset value)) S
      (λ p r is R. subst (λ l. Found (λ f. IsPrimary limit d (p ∷ r) l f) (literal offset value)) (ended R) (literal p.offset value, a_literal d p r value is, refl))
  reread limit (fits_number d b offset digits known) room s u S =
      take_one (λ l. Found (λ f. IsPrimary limit d l u f) (number offset digits)) S
      (λ p r is R. subst (λ l. Found (λ f. IsPrimary limit d (p ∷ r) l f) (number offset digits)) (ended R) (number p.offset digits, a_number d p r digits is, refl))
  reread limit (fits_call d b offset name args known inner A) room s u S =
      take_two (λ l. Found (λ f. IsPrimary limit d l u f) (call offset name args)) S
      (λ p q r is opens R. let parts = split (arguments_tokens true args) R in
      call_found offset name args p q r u is opens inner (only parts.back) (reread_arguments limit A inner r parts.middle parts.front))

  reread_around : {Known : Token → Type 0} (limit : ℕ) {d around : ℕ} {b : Bool} {e : Tree} → FitsAround Known limit d around b e → d ≤ limit →
      (s u : List Placed) → Spelled (operand_tokens around e (tokens_printed false e) (tokens_printed b e)) s u →
      Found (AroundReads limit d around e s u) e
  reread_around limit (around_bare d around b e lt F) room s u S =
      bare_found e s u lt (reread limit F room s u (subst (λ ts. Spelled ts s u) (tokens-bare around e (tokens_printed false e) (tokens_printed b e) lt) S))
  reread_around limit (around_within d around b e le inner F) room s u S =
      within_found e s u (parens e (tokens_printed false e) s u inner (λ r m R. reread limit F inner r m R)
      (subst (λ ts. Spelled ts s u) (tokens-within around e (tokens_printed false e) (tokens_printed b e) le) S))

  reread_operands : {Known : Token → Type 0} (limit : ℕ) {n : Level} {d : ℕ} {b : Bool} {os : Operands} → FitsOperands Known limit n d b os → d ≤ limit →
      (s u : List Placed) → Spelled (rest_tokens (binding n) b os) s u → FoundOperands (IsOperands limit n d s u) os
  reread_operands limit (fits_no_more n d b) room s u S = subst (λ l. FoundOperands (IsOperands limit n d s l) no_operands) (ended S) (no_operands, no_more n d s, refl)
  reread_operands limit (fits_one_more n d b o at e os at_level F T) room s u S =
      take_one (λ l. FoundOperands (IsOperands limit n d l u) (operand o at e os)) S
      (λ p r is R. let parts = split (operand_tokens (binding n) e (tokens_printed false e) (tokens_printed (name_like_next b os) e)) R in
      operand_found n o at e os p r parts.middle u room is at_level (reread_around limit F room r parts.middle parts.front) (reread_operands limit T room parts.middle u parts.back))

  reread_base : {Known : Token → Type 0} (limit : ℕ) {d : ℕ} {bare : Bool} {e : Tree} → FitsBase Known limit d bare e → d ≤ limit →
      (s u : List Placed) → Spelled (enclosed_tokens bare (tokens_printed false e)) s u → Found (BaseReads limit d bare e s u) e
  reread_base limit (base_bare d bare e is F) room s u S = base_found e s u is (reread limit F room s u (unenclosed (tokens_printed false e) is S))
  reread_base limit (base_within d bare e is inner F) room s u S =
      base_found_within e s u (parens e (tokens_printed false e) s u inner (λ r m R. reread limit F inner r m R) (enclosed (tokens_printed false e) is S))

  reread_steps : {Known : Token → Type 0} (limit : ℕ) {d : ℕ} {ss : Steps} → FitsSteps Known limit d ss → d ≤ limit →
      (s u : List Placed) → Spelled (steps_tokens true ss) s u → FoundSteps (IsSteps limit d s u) ss
  reread_steps limit (fits_step d o a k at ps rest K P M) room s u S =
      take_two (λ l. FoundSteps (IsSteps limit d l u) (step o a k at ps rest)) S
      (λ p q t is colons R. let parts = split (test_tokens k) R in
      let more = split (predicates_tokens ps) parts.back in
      step_found o a k at ps rest p q t parts.middle more.middle u is colons (test-read K t parts.middle parts.front)
      (reread_predicates limit P room parts.middle more.middle more.front) (reread_more_steps limit M room more.middle u more.back))

  reread_more_steps : {Known : Token → Type 0} (limit : ℕ) {d : ℕ} {ss : Steps} → FitsMoreSteps Known limit d ss → d ≤ limit →
      (s u : List Placed) → Spelled (steps_tokens false ss) s u → FoundSteps (IsMoreSteps limit d s u) ss
  reread_more_steps limit (fits_no_more_steps d) room s u S = subst (λ l. FoundSteps (IsMoreSteps limit d s l) no_steps) (ended S) (no_steps, no_more_steps d s, refl)
  reread_more_steps limit (fits_more_steps d o a k at ps rest F) room s u S =
      take_one (λ l. FoundSteps (IsMoreSteps limit d l u) (step o a k at ps rest)) S
      (λ p r is R. slash_found (step o a k at ps rest) p r u is (reread_steps limit F room r u R))

  reread_predicates : {Known : Token → Type 0} (limit : ℕ) {d : ℕ} {es : Trees} → FitsPredicates Known limit d es → d ≤ limit →
      (s u : List Placed) → Spelled (predicates_tokens es) s u → FoundTrees (IsPredicates limit d s u) es
  reread_predicates limit (fits_no_predicate d) room s u S = subst (λ l. FoundTrees (IsPredicates limit d s l) no_trees) (ended S) (no_trees, no_predicate d s, refl)
  reread_predicates limit (fits_predicate d e es inner F P) room s u S =
      take_one (λ l. FoundTrees (IsPredicates limit d l u) (tree e es)) S
      (λ p r is R. let parts = split (tokens_printed false e) R in
      take_one (λ l. Found (Reads e limit (suc d) r l) e → FoundTrees (IsPredicates limit d (p ∷ r) u) (tree e es)) parts.back
      (λ q m closes Q D. predicate_found e es p q r m u is inner D closes (reread_predicates limit P room m u Q))
      (reread limit F inner r parts.middle parts.front))

  reread_arguments : {Known : Token → Type 0} (limit : ℕ) {d : ℕ} {es : Trees} → FitsArguments Known limit d es → d ≤ limit →
      (s u : List Placed) → Spelled (arguments_tokens true es) s u → FoundTrees (IsArguments limit d s u) es
  reread_arguments limit (fits_no_argument d) room s u S = subst (λ l. FoundTrees (IsArguments limit d s l) no_trees) (ended S) (no_trees, no_argument d s, refl)
  reread_arguments limit (fits_argument d e es F A) room s u S =
      let parts = split (tokens_printed false e) S in
      arguments_found e es s parts.middle u room (reread limit F room s parts.middle parts.front) (reread_more_arguments limit A room parts.middle u parts.back)

  reread_more_arguments : {Known : Token → Type 0} (limit : ℕ) {d : ℕ} {es : Trees} → FitsArguments Known limit d es → d ≤ limit →
      (s u : List Placed) → Spelled (arguments_tokens false es) s u → FoundTrees (IsMoreArguments limit d s u) es
  reread_more_arguments limit (fits_no_argument d) room s u S = subst (λ l. FoundTrees (IsMoreArguments limit d s l) no_trees) (ended S) (no_trees, no_more_arguments d s, refl)
  reread_more_arguments limit (fits_argument d e es F A) room s u S =
      take_one (λ l. FoundTrees (IsMoreArguments limit d l u) (tree e es)) S
      (λ p r is R. let parts = split (tokens_printed false e) R in
      more_arguments_found e es p r parts.middle u is room (reread limit F room r parts.middle parts.front) (reread_more_arguments limit A room parts.middle u parts.back))
