-- The tokens of steps derive a path, and each step of it has its type in every scope (XPath 1.0, sections 2 and 3).
use Rattle.std.proofs.Common.{◌≡◌, ℕ, suc, ◌≤◌, Bool, true, false, if◌then◌else◌, List, [], ◌∷◌, ◌++◌, pos, codes, Some, None, refl, sym, subst, ap, arith}
use Rattle.std.specs.Fmt.{decimal}
use Rattle.std.specs.List.{before_first, after_first}
use Rattle.sch_base.specs.Names.{is_colon}
use Rattle.doc_tree.specs.declared.axes.Axis.TheVariants as axes
use Rattle.doc_tree.specs.declared.axes.NodeTest.TheVariants as tests
use Rattle.xp_tree.specs.Tree.{Tree, Steps, Trees, chain, path, literal, number, call, root, no_steps, step, no_operands, operand, no_trees, tree}
use Rattle.xp_tree.specs.declared.numbers.TheConstants.{MAX_WHOLE}
use Rattle.xp_tree.specs.declared.operators.Comparison.TheVariants as comparisons
use Rattle.xp_tree.specs.declared.terms.AxisName.{AxisName}
use Rattle.xp_tree.specs.declared.terms.AxisName.TheVariants as axis
use Rattle.xp_tree.specs.declared.terms.Level.TheVariants as level
use Rattle.xp_tree.specs.declared.terms.Operator.TheVariants as operators
use Rattle.xp_tree.specs.declared.terms.StepTest.{StepTest}
use Rattle.xp_tree.specs.declared.terms.StepTest.TheVariants as written
use Rattle.xp_grammar.specs.declared.token.NodeType.{NodeType}
use Rattle.xp_grammar.specs.declared.token.NodeType.TheVariants as node_type
use Rattle.xp_grammar.specs.declared.token.Placed.{Placed}
use Rattle.xp_grammar.specs.declared.token.Token.TheVariants as token
use Rattle.xp_grammar.specs.Parts.{offset_at, name_test, type_test}
use Rattle.xp_grammar.specs.Grammar.{IsAxis, no_axis, at_sign, IsTest, star_test, named_test, typed_test, IsChain, chained, tighter_chain, no_more, one_more, from_root, IsSteps, tested_step, IsMoreSteps, no_more_steps, slash_steps, IsPredicates, no_predicate, predicate, a_literal, a_number, a_call, no_argument, Derives}
use Rattle.xp_lexicon.specs.Lexicon.{IsNcname}
use Rattle.xp_typed_tree.specs.declared.function.Function.{Function}
use Rattle.xp_typed_tree.specs.declared.function.Function.TheVariants as functions
use Rattle.xp_typed_tree.specs.TypedTree.{TypedSteps, text, whole, application, no_comparands, comparand, no_typed, typed}
use Rattle.xp_typed_tree.specs.WellTyped.{takes, may_call}
use Rattle.xp_types.specs.Scope.{Scope}
use Rattle.xp_types.specs.FunctionNames.{function_named}
use Rattle.xp_types.specs.Terms.{has_colon, test_resolved}
use Rattle.xp_types.specs.HasType.{HasType, StepsHaveTypes}
use Rattle.xp_print_laws.proofs.NameBytes.{name-bytes, colon-ends}
use Rattle.xp_print_laws.proofs.Spelled.{Spelled, none_spelled, one_spelled, Last, last, only, ended, split, spelled-all, take_one}
use Rattle.xp_print_laws.proofs.Reading.{as_chain, chain-of-primary, operand-of-primary}
use Rattle.location_texts.specs.LocationSteps.{KidKind, elements, texts, comments, instructions, LocationStep, to_kid, to_attribute, IsSpellable, AllSpellable}
use Rattle.location_texts.specs.StepTokens.{kind_tokens, equation_tokens, name_tokens, tokens_behind, steps_tokens}
use Rattle.location_texts.specs.StepTypes.{kind_test, equation, is_named, typed_by, typed_steps}
use Rattle.location_texts.specs.Laws.{TokensDeriveTypedPaths}
use Rattle.location_texts.proofs.Numerals.{place-without_point, place-value}
use Rattle.location_texts.proofs.Readings.{name_lacks}

-- tokens that are an axis, a node test and predicates, of the type that the step has
record Front (limit : ℕ) (s : LocationStep) (r m : List Placed) : Type 0 where
  direction : AxisName
  tested : StepTest
  predicates : Trees
  behind_axis : List Placed
  behind_test : List Placed
  is_axis : IsAxis r behind_axis direction
  is_test : IsTest behind_axis behind_test tested
  are_predicates : IsPredicates limit 0 behind_test m predicates
  have_types : (S : Scope) (offset at : ℕ) (rest : Steps) (us : TypedSteps) → StepsHaveTypes S rest us →
      StepsHaveTypes S (step offset direction tested at predicates rest) (typed_by s us)

-- ---- kids

-- the node test of a kind as it is written
abbrev written_kind : KidKind → StepTest
written_kind elements = written.Star
written_kind texts = written.Chars
written_kind comments = written.Comment
written_kind instructions = written.Pi

star_read : {s u : List Placed} → Last token.Star u s → IsTest s u written.Star
star_read {s} {u} (last p is) = star_test p u is

type_read : {s u : List Placed} (t : NodeType) → Spelled (token.NodeType t ∷ token.OpenParen ∷ token.CloseParen ∷ []) s u → IsTest s u (type_test t)
type_read t (one_spelled _ _ p _ _ is (one_spelled _ _ q _ _ opens (one_spelled _ _ r _ _ closes (none_spelled u)))) = typed_test p q r u t is opens closes

kind_read : (kind : KidKind) (s u : List Placed) → Spelled (kind_tokens kind) s u → IsTest s u (written_kind kind)
kind_read elements s u S = star_read (only S)
kind_read texts s u S = type_read node_type.Chars S
kind_read comments s u S = type_read node_type.Comment S
kind_read instructions s u S = type_read node_type.Pi S

-- the predicate that is a number
record PlaceRead (limit place : ℕ) (s u : List Placed) : Type 0 where
  offset : ℕ
  read : IsPredicates limit 0 s u (tree (number offset (decimal place)) no_trees)

place_read : (limit place : ℕ) {s u : List Placed} → 2 ≤ limit →
    Spelled (token.OpenBracket ∷ token.Number (decimal place) ∷ token.CloseBracket ∷ []) s u → PlaceRead limit place s u
place_read limit place room (one_spelled _ _ p _ _ opens (one_spelled _ _ n _ _ is (one_spelled _ _ q _ _ closes (none_spelled u)))) =
    let one : suc 0 ≤ limit = omega (arith, room) in
    record {
      offset = n.offset;
      read = predicate 0 p q (n ∷ q ∷ u) u u (number n.offset (decimal place)) no_trees opens one
          (chain-of-primary one (a_number (suc 0) n (q ∷ u) (decimal place) is) level.Or) closes (no_predicate 0 u);
    }

kind_resolved : (S : Scope) (kind : KidKind) → test_resolved S (written_kind kind) ≡ Some (kind_test kind)
kind_resolved S elements = refl
kind_resolved S texts = refl
kind_resolved S comments = refl
kind_resolved S instructions = refl

place_typed : (S : Scope) (at place : ℕ) → place ≤ MAX_WHOLE → HasType S (number at (decimal place)) (whole (pos place))
place_typed S at place few =
    (place-without_point place few, subst (λ k. k ≤ MAX_WHOLE) (sym (place-value place few)) few, ap (λ k. whole (pos k)) (place-value place few))

kid_front : (limit : ℕ) (kind : KidKind) (place : ℕ) (r v m : List Placed) → place ≤ MAX_WHOLE → IsTest r v (written_kind kind) → PlaceRead limit place v m →
    Front limit (to_kid kind place) r m
kid_front limit kind place r v m few is P = record {
  direction = axis.Child;
  tested = written_kind kind;
  predicates = tree (number P.offset (decimal place)) no_trees;
  behind_axis = r;
  behind_test = v;
  is_axis = no_axis r;
  is_test = is;
  are_predicates = P.read;
  have_types = λ S offset at rest us T. (
    axes.Child,
    kind_test kind,
    typed (whole (pos place)) no_typed,
    us,
    refl,
    kind_resolved S kind,
    (whole (pos place), no_typed, place_typed S P.offset place few, tt, refl, refl),
    T,
    refl,
  );
}

-- ---- attributes without a namespace

name_test-is : (local : List ℕ) → IsNcname local → name_test local ≡ written.Named None local
name_test-is local name =
    ap (λ b. if b then written.Named (Some (before_first is_colon local)) (after_first is_colon local) else written.Named None local)
    (name_lacks 58 colon-ends local (name-bytes local name).all)

plain_front : (limit : ℕ) (local : List ℕ) {r m : List Placed} → IsNcname local → Spelled (token.At ∷ token.Name local ∷ []) r m →
    Front limit (to_attribute local []) r m
plain_front limit local name (one_spelled _ _ p _ _ at (one_spelled _ _ q _ _ named (none_spelled u))) = record {
  direction = axis.Attribute;
  tested = name_test local;
  predicates = no_trees;
  behind_axis = q ∷ u;
  behind_test = u;
  is_axis = at_sign p (q ∷ u) at;
  is_test = named_test q u local named;
  are_predicates = no_predicate 0 u;
  have_types = λ S offset at rest us T. (axes.Attribute, tests.Named [] local, no_typed, us, refl, ap (test_resolved S) (name_test-is local name), refl, T, refl);
}

-- ---- attributes with one

-- a function that is called without arguments by a name
abbrev IsCalled : Function → List ℕ → Type 0
IsCalled f name = (has_colon name ≡ false) × (function_named name ≡ Some f) × ((b : Bool) → may_call b f ≡ true) × (takes f 0 ≡ true)

-- a function's name, `()=` and a literal
record EquationRead (limit : ℕ) (f : Function) (value : List ℕ) (s u : List Placed) : Type 0 where
  equated : Tree
  read : IsChain limit level.Equal (suc 0) s u equated
  has_type : (S : Scope) → HasType S equated (equation f value)

equation_read : (limit : ℕ) (f : Function) (name value : List ℕ) {s u : List Placed} → 2 ≤ limit → IsCalled f name →
    Spelled (token.Function name ∷ token.OpenParen ∷ token.CloseParen ∷ token.Operator operators.Equal ∷ token.Literal value ∷ []) s u → EquationRead limit f value s u
equation_read limit f name value room can (one_spelled _ _ p _ _ called (one_spelled _ _ o _ _ opens (one_spelled _ _ c _ _ closes
    (one_spelled _ _ q _ _ equals (one_spelled _ _ l _ _ is (none_spelled u)))))) =
    let one : suc 0 ≤ limit = omega (arith, room) in
    let two : suc (suc 0) ≤ limit = omega (arith, room) in
    let f_called : Tree = call p.offset name no_trees in
    let said : Tree = literal l.offset value in
    record {
      equated = chain level.Equal p.offset f_called (operand operators.Equal q.offset said no_operands);
      read = chained level.Equal (suc 0) (p ∷ o ∷ c ∷ q ∷ l ∷ u) (q ∷ l ∷ u) u f_called (operand operators.Equal q.offset said no_operands)
          (operand-of-primary level.Equal one (a_call (suc 0) p o c (c ∷ q ∷ l ∷ u) (q ∷ l ∷ u) name no_trees called opens two (no_argument (suc (suc 0)) (c ∷ q ∷ l ∷ u)) closes))
          (one_more level.Equal (suc 0) q (l ∷ u) u u operators.Equal said no_operands equals refl
          (operand-of-primary level.Equal one (a_literal (suc 0) l u value is)) (no_more level.Equal (suc 0) u));
      has_type = λ S. (
        application f no_typed,
        comparand comparisons.Eq (text value) no_comparands,
        (f, no_typed, (can.0, can.1, can.2 S.in_pattern, can.3), refl, refl),
        (comparisons.Eq, text value, no_comparands, refl, refl, refl, refl),
        refl,
      );
    }

-- both equations
record NamesRead (limit : ℕ) (local uri : List ℕ) (s u : List Placed) : Type 0 where
  named : Tree
  read : IsChain limit level.Or (suc 0) s u named
  has_type : (S : Scope) → HasType S named (is_named local uri)

names_joined : (limit : ℕ) (local uri : List ℕ) (s m u : List Placed) (p : Placed) → 2 ≤ limit → p.token ≡ token.Operator operators.And →
    EquationRead limit functions.NamespaceUri uri m u → EquationRead limit functions.LocalName local s (p ∷ m) → NamesRead limit local uri s u
names_joined limit local uri s m u p room is b a =
    let one : suc 0 ≤ limit = omega (arith, room) in
    let rest = operand operators.And p.offset b.equated no_operands in
    let joined : Tree = chain level.And (offset_at s) a.equated rest in
    record {
      named = joined;
      read = as_chain joined level.Or (omega arith) one
          (chained level.And (suc 0) s (p ∷ m) u a.equated rest (tighter_chain level.And level.Equal (suc 0) s (p ∷ m) a.equated refl a.read)
          (one_more level.And (suc 0) p m u u operators.And b.equated no_operands is refl
          (tighter_chain level.And level.Equal (suc 0) m u b.equated refl b.read) (no_more level.And (suc 0) u)));
      has_type = λ S. (
        equation functions.LocalName local,
        typed (equation functions.NamespaceUri uri) no_typed,
        a.has_type S,
        (equation functions.NamespaceUri uri, no_typed, refl, b.has_type S, tt, refl, refl),
        refl,
      );
    }

local_called : IsCalled functions.LocalName (codes "local-name")
local_called = (refl, refl, λ b. refl, refl)

uri_called : IsCalled functions.NamespaceUri (codes "namespace-uri")
uri_called = (refl, refl, λ b. refl, refl)

names_read : (limit : ℕ) (local uri : List ℕ) (s u : List Placed) → 2 ≤ limit → Spelled (name_tokens local uri) s u → NamesRead limit local uri s u
names_read limit local uri s u room S =
    let parts = split (equation_tokens (codes "local-name") local) S in
    take_one (λ l. EquationRead limit functions.LocalName local s l → NamesRead limit local uri s u) parts.back
    (λ p m is R a. names_joined limit local uri s m u p room is (equation_read limit functions.NamespaceUri (codes "namespace-uri") uri room uri_called R) a)
    (equation_read limit functions.LocalName (codes "local-name") local room local_called parts.front)

expanded_front : (limit : ℕ) (local : List ℕ) (b : ℕ) (uri : List ℕ) (p q o : Placed) (r : List Placed) {u mid : List Placed} → 2 ≤ limit →
    p.token ≡ token.At → q.token ≡ token.Star → o.token ≡ token.OpenBracket → NamesRead limit local (b ∷ uri) r mid → Last token.CloseBracket u mid →
    Front limit (to_attribute local (b ∷ uri)) (p ∷ q ∷ o ∷ r) u
expanded_front limit local b uri p q o r {u} room at star opens N (last c closes) =
    let one : suc 0 ≤ limit = omega (arith, room) in
    record {
      direction = axis.Attribute;
      tested = written.Star;
      predicates = tree N.named no_trees;
      behind_axis = q ∷ o ∷ r;
      behind_test = o ∷ r;
      is_axis = at_sign p (q ∷ o ∷ r) at;
      is_test = star_test q (o ∷ r) star;
      are_predicates = predicate 0 o c r u u N.named no_trees opens one N.read closes (no_predicate 0 u);
      have_types = λ S offset at rest us T. (
        axes.Attribute,
        tests.Star,
        typed (is_named local (b ∷ uri)) no_typed,
        us,
        refl,
        refl,
        (is_named local (b ∷ uri), no_typed, N.has_type S, tt, refl, refl),
        T,
        refl,
      );
    }

expanded_read : (limit : ℕ) (local : List ℕ) (b : ℕ) (uri : List ℕ) {r u : List Placed} → 2 ≤ limit →
    Spelled (token.At ∷ token.Star ∷ token.OpenBracket ∷ (name_tokens local (b ∷ uri) ++ (token.CloseBracket ∷ []))) r u → Front limit (to_attribute local (b ∷ uri)) r u
expanded_read limit local b uri room (one_spelled _ _ p _ _ at (one_spelled _ _ q _ _ star (one_spelled _ _ o r u opens S))) =
    let parts = split (name_tokens local (b ∷ uri)) S in
    expanded_front limit local b uri p q o r room at star opens (names_read limit local (b ∷ uri) r parts.middle room parts.front) (only parts.back)

-- ---- steps

front_read : (limit : ℕ) → 2 ≤ limit → (s : LocationStep) → IsSpellable s → (r m : List Placed) → Spelled (tokens_behind s) r m → Front limit s r m
front_read limit room (to_kid kind place) few r m S =
    let parts = split (kind_tokens kind) S in
    kid_front limit kind place r parts.middle m few (kind_read kind r parts.middle parts.front) (place_read limit place room parts.back)
front_read limit room (to_attribute local []) is r m S = plain_front limit local is.0 S
front_read limit room (to_attribute local (b ∷ uri)) is r m S = expanded_read limit local b uri room S

-- steps up to the end, with a slash before them and without one
abbrev MoreRead : ℕ → List LocationStep → List Placed → Type 0
MoreRead limit ss r = (steps : Steps) × IsMoreSteps limit 0 r [] steps × ((S : Scope) → StepsHaveTypes S steps (typed_steps ss))

abbrev StepsRead : ℕ → LocationStep → List LocationStep → List Placed → Type 0
StepsRead limit s ss r = (steps : Steps) × IsSteps limit 0 r [] steps × ((S : Scope) → StepsHaveTypes S steps (typed_steps (s ∷ ss)))

front_joined : (limit : ℕ) (s : LocationStep) (ss : List LocationStep) (r m : List Placed) → Front limit s r m → MoreRead limit ss m → StepsRead limit s ss r
front_joined limit s ss r m F (steps, M, types) = (
  step (offset_at r) F.direction F.tested (offset_at F.behind_axis) F.predicates steps,
  tested_step 0 r F.behind_axis F.behind_test m [] F.direction F.tested F.predicates steps F.is_axis F.is_test F.are_predicates M,
  λ S. F.have_types S (offset_at r) (offset_at F.behind_axis) steps (typed_steps ss) (types S),
)

steps_read : (limit : ℕ) → 2 ≤ limit → (s : LocationStep) (ss : List LocationStep) → IsSpellable s →
    ((m : List Placed) → Spelled (steps_tokens ss) m [] → MoreRead limit ss m) →
    (r : List Placed) → Spelled (tokens_behind s ++ steps_tokens ss) r [] → StepsRead limit s ss r
steps_read limit room s ss is on r S =
    let parts = split (tokens_behind s) S in
    front_joined limit s ss r parts.middle (front_read limit room s is r parts.middle parts.front) (on parts.middle parts.back)

slash_joined : (limit : ℕ) (s : LocationStep) (ss : List LocationStep) (p : Placed) (r : List Placed) → p.token ≡ token.Slash →
    StepsRead limit s ss r → MoreRead limit (s ∷ ss) (p ∷ r)
slash_joined limit s ss p r is (steps, D, types) = (steps, slash_steps 0 p r [] steps is D, types)

more_read : (limit : ℕ) → 2 ≤ limit → (ss : List LocationStep) → AllSpellable ss → (r : List Placed) → Spelled (steps_tokens ss) r [] → MoreRead limit ss r
more_read limit room [] all r S = (no_steps, subst (λ l. IsMoreSteps limit 0 r l no_steps) (ended S) (no_more_steps 0 r), λ S. refl)
more_read limit room (s ∷ ss) all r S =
    take_one (λ l. MoreRead limit (s ∷ ss) l) S
    (λ p t is R. slash_joined limit s ss p t is (steps_read limit room s ss all.0 (λ m M. more_read limit room ss all.1 m M) t R))

-- ---- paths

abbrev PathRead : ℕ → LocationStep → List LocationStep → List Placed → Type 0
PathRead limit s ss tokens =
    (offset : ℕ) × (steps : Steps) × Derives limit tokens (path offset root steps) × ((S : Scope) → StepsHaveTypes S steps (typed_steps (s ∷ ss)))

path_joined : (limit : ℕ) (s : LocationStep) (ss : List LocationStep) (p : Placed) (r : List Placed) → p.token ≡ token.Slash →
    StepsRead limit s ss r → PathRead limit s ss (p ∷ r)
path_joined limit s ss p r is (steps, D, types) =
    let room : 0 ≤ limit = omega arith in
    (p.offset, steps, as_chain (path p.offset root steps) level.Or (omega arith) room (from_root 0 p r [] steps is D), types)

pub tokens_derive : TokensDeriveTypedPaths
tokens_derive limit s ss tokens room all is =
    take_one (λ l. PathRead limit s ss l) (spelled-all tokens (steps_tokens (s ∷ ss)) is)
    (λ p r slash R. path_joined limit s ss p r slash (steps_read limit room s ss all.0 (λ m M. more_read limit room ss all.1 m M) r R))
