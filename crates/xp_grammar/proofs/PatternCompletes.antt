-- What completes a state of the machine of patterns to a pattern, and that each state is completed.
use Rattle.std.proofs.Common.{◌≡◌, ℕ, suc, ◌-◌, ◌≤◌, ◌⊎◌, true, false, List, [], ◌∷◌, ◌++◌, Option, None, Some, refl, sym, subst, inl, arith}
use Rattle.xp_tree.specs.Tree.{no_trees}
use Rattle.xp_tree.specs.declared.terms.Level.TheVariants as level
use Rattle.xp_tree.specs.declared.terms.AxisName.TheVariants as axis
use Rattle.xp_tree.specs.declared.pattern.Join.{Join}
use Rattle.xp_tree.specs.declared.pattern.Join.TheVariants as join
use Rattle.xp_tree.specs.PatternTree.{StepTree, PathTree}
use Rattle.xp_grammar.specs.declared.token.Placed.{Placed}
use Rattle.xp_grammar.specs.declared.token.Token.{Token}
use Rattle.xp_grammar.specs.declared.token.NodeType.{NodeType}
use Rattle.xp_grammar.specs.declared.token.NodeType.TheVariants as node_type
use Rattle.xp_grammar.specs.declared.token.Token.TheVariants as token
use Rattle.xp_grammar.specs.Grammar.{IsChain, no_axis, named_test, no_predicate, predicate}
use Rattle.xp_grammar.specs.inner.Machine.{Bracket, Mode, want, load}
use Rattle.xp_grammar.proofs.Completes.{Closer, closer, SomeTest, SomePredicates, Ends, Rest, whole_of}
use Rattle.xp_grammar.proofs.Finds.{rest_exists}
use Rattle.xp_grammar.specs.PatternGrammar.{step_pattern, IsRelative, relative, IsMoreSteps, no_more_steps, from_here, IsPattern, pattern, IsMorePaths, no_more_paths}
use Rattle.xp_grammar.specs.inner.PatternMachine.{TestPart, colons, test, opened, inner, close, Place, want_path, want_step, behind_root, in_test, id_open, key_open, key_name, key_comma, call_value, call_close, behind_call, behind_step, inside, pattern_load}
use Rattle.xp_grammar.proofs.Frames.{frame_chain}

-- after a whole path pattern
abbrev pub PathsThen : ℕ → List Placed → Type 0
PathsThen limit s = (ps : List PathTree) × IsMorePaths limit s [] ps

-- after steps, which a slash may follow
abbrev pub StepsMay : ℕ → List Placed → Type 0
StepsMay limit s = (m : List Placed) × ((ss : List StepTree) × IsMoreSteps limit s m ss) × PathsThen limit m

-- after a node test, which predicates may follow
abbrev pub PredicatesMay : ℕ → List Placed → Type 0
PredicatesMay limit s = (m : List Placed) × SomePredicates limit 0 s m × StepsMay limit m

abbrev pub TestMust : ℕ → List Placed → Type 0
TestMust limit s = (m : List Placed) × SomeTest s m × PredicatesMay limit m

-- steps after any join
abbrev pub StepMust : ℕ → List Placed → Type 0
StepMust limit s = (m : List Placed) × ((j : Join) → (ss : List StepTree) × IsRelative limit j s m ss) × PathsThen limit m

abbrev pub PathMust : ℕ → List Placed → Type 0
PathMust limit s = (ps : List PathTree) × IsPattern limit s [] ps

abbrev pub TypeMust : ℕ → NodeType → List Placed → Type 0
TypeMust limit t s = Closer token.CloseParen (PredicatesMay limit) s
    ⊎ ((t ≡ node_type.Pi) × ((target : List ℕ) × Closer (token.Literal target) (Closer token.CloseParen (PredicatesMay limit)) s))

abbrev pub PartMust : ℕ → TestPart → List Placed → Type 0
PartMust limit colons s = Closer token.DoubleColon (TestMust limit) s
PartMust limit test s = TestMust limit s
PartMust limit (opened t) s = Closer token.OpenParen (TypeMust limit t) s
PartMust limit (inner t) s = TypeMust limit t s
PartMust limit close s = Closer token.CloseParen (PredicatesMay limit) s

abbrev pub CloseMust : ℕ → List Placed → Type 0
CloseMust limit s = Closer token.CloseParen (StepsMay limit) s

abbrev pub ValueMust : ℕ → List Placed → Type 0
ValueMust limit s = (value : List ℕ) × Closer (token.Literal value) (CloseMust limit) s

abbrev pub CommaMust : ℕ → List Placed → Type 0
CommaMust limit s = Closer token.Comma (ValueMust limit) s

abbrev pub NameMust : ℕ → List Placed → Type 0
NameMust limit s = (name : List ℕ) × Closer (token.Literal name) (CommaMust limit) s

-- the rest of a predicate's expression, its bracket, and what follows that
pub record InsideThen (limit : ℕ) (m : Mode) (k : List Bracket) (s : List Placed) : Type 0 where
  pub less : ℕ
  pub one_less : limit ≡ suc less
  pub here : List Placed
  pub bracket : Placed
  pub onward : List Placed
  pub is : s ≡ here ++ bracket ∷ onward
  pub closes : bracket.token ≡ token.CloseBracket
  pub rest : Rest less m k here
  pub behind : PredicatesMay limit onward

-- what completes a state
abbrev pub PatternRest : ℕ → Place → List Placed → Type 0
PatternRest limit want_path s = PathMust limit s
PatternRest limit want_step s = StepMust limit s
PatternRest limit behind_root s = PathsThen limit s ⊎ StepMust limit s
PatternRest limit (in_test part) s = PartMust limit part s
PatternRest limit id_open s = Closer token.OpenParen (ValueMust limit) s
PatternRest limit key_open s = Closer token.OpenParen (NameMust limit) s
PatternRest limit key_name s = NameMust limit s
PatternRest limit key_comma s = CommaMust limit s
PatternRest limit call_value s = ValueMust limit s
PatternRest limit call_close s = CloseMust limit s
PatternRest limit behind_call s = StepsMay limit s
PatternRest limit behind_step s = PredicatesMay limit s
PatternRest limit (inside m k) s = InsideThen limit m k s

-- the machine's move is allowed, and s completes the state that it leads to
abbrev pub PatternRestOf : ℕ → Option Place → List Placed → Type 0
PatternRestOf limit None s = ⊥
PatternRestOf limit (Some a) s = (pattern_load a ≤ limit) × PatternRest limit a s

pub steps_may : (limit : ℕ) (s : List Placed) → PathsThen limit s → StepsMay limit s
steps_may limit s behind = (s, (_, no_more_steps s), behind)

pub predicates_may : (limit : ℕ) (s : List Placed) → StepsMay limit s → PredicatesMay limit s
predicates_may limit s behind = (s, (_, no_predicate 0 s), behind)

-- a predicate, from its bracket on
pub predicate_of : (limit : ℕ) (p : Placed) (s : List Placed) → p.token ≡ token.OpenBracket →
    InsideThen limit (want true 0 false) [] s → PredicatesMay limit (p ∷ s)
predicate_of limit p s is x =
    let (m, (ps, P), behind) = x.behind in
    let (v, (e, D), ends) = whole_of x.less true 0 (Ends x.less []) x.here x.rest in
    let (e', D') = frame_chain x.less D (x.bracket ∷ x.onward) in
    let at_end = subst (λ t. IsChain (suc x.less) level.Or 1 (x.here ++ x.bracket ∷ x.onward) (t ++ x.bracket ∷ x.onward) e') ends D' in
    let at_limit = subst (λ t. IsChain t level.Or 1 (x.here ++ x.bracket ∷ x.onward) (x.bracket ∷ x.onward) e') (sym x.one_less) at_end in
    let at_start = subst (λ t. IsChain limit level.Or 1 t (x.bracket ∷ x.onward) e') (sym x.is) at_limit in
    let fits : 1 ≤ limit = omega (arith, x.one_less) in
    (m, (_, predicate 0 p x.bracket s x.onward m e' ps is fits at_start x.closes P), behind)

-- each state is completed
abbrev at_zero : Token → Placed
at_zero t = record { offset = 0; token = t }

pub end_exists : (limit : ℕ) → PathsThen limit []
end_exists limit = (_, no_more_paths [])

pub steps_end : (limit : ℕ) → StepsMay limit []
steps_end limit = steps_may limit [] (end_exists limit)

pub predicates_end : (limit : ℕ) → PredicatesMay limit []
predicates_end limit = predicates_may limit [] (steps_end limit)

abbrev named : List Placed
named = at_zero (token.Name []) ∷ []

test_exists : (limit : ℕ) → TestMust limit named
test_exists limit = ([], (_, named_test (at_zero (token.Name [])) [] [] refl), predicates_end limit)

step_exists : (limit : ℕ) (j : Join) → (ss : List StepTree) × IsRelative limit j named [] ss
step_exists limit j = (
  _,
  relative j named [] [] _ _
      (step_pattern j named named [] [] axis.Child false _ no_trees (no_axis named) refl (named_test (at_zero (token.Name [])) [] [] refl) (no_predicate 0 []))
      (no_more_steps []),
)

step_must : (limit : ℕ) → StepMust limit named
step_must limit = ([], (λ j. step_exists limit j), end_exists limit)

path_must : (limit : ℕ) → PathMust limit named
path_must limit =
    let (ss, D) = step_exists limit join.Nothing in
    (_, pattern named [] [] _ _ (from_here named [] ss D) (no_more_paths []))

closed : {t : Token} (P : List Placed → Type 0) (s : List Placed) → P s → Closer t P (at_zero t ∷ s)
closed P s behind = closer (at_zero _) s refl behind

abbrev closing : List Placed
closing = at_zero token.CloseParen ∷ []

close_must : (limit : ℕ) → CloseMust limit closing
close_must limit = closed (StepsMay limit) [] (steps_end limit)

value_must : (limit : ℕ) → ValueMust limit (at_zero (token.Literal []) ∷ closing)
value_must limit = ([], closed (CloseMust limit) closing (close_must limit))

comma_must : (limit : ℕ) → CommaMust limit (at_zero token.Comma ∷ at_zero (token.Literal []) ∷ closing)
comma_must limit = closed (ValueMust limit) (at_zero (token.Literal []) ∷ closing) (value_must limit)

name_must : (limit : ℕ) → NameMust limit (at_zero (token.Literal []) ∷ at_zero token.Comma ∷ at_zero (token.Literal []) ∷ closing)
name_must limit = ([], closed (CommaMust limit) (at_zero token.Comma ∷ at_zero (token.Literal []) ∷ closing) (comma_must limit))

type_must : (limit : ℕ) (t : NodeType) → TypeMust limit t closing
type_must limit t = inl (closed (PredicatesMay limit) [] (predicates_end limit))

part_exists : (limit : ℕ) (part : TestPart) → (s : List Placed) × PartMust limit part s
part_exists limit colons = (at_zero token.DoubleColon ∷ named, closed (TestMust limit) named (test_exists limit))
part_exists limit test = (named, test_exists limit)
part_exists limit (opened t) = (at_zero token.OpenParen ∷ closing, closed (TypeMust limit t) closing (type_must limit t))
part_exists limit (inner t) = (closing, type_must limit t)
part_exists limit close = (closing, closed (PredicatesMay limit) [] (predicates_end limit))

inside_exists : (limit l : ℕ) (m : Mode) (k : List Bracket) → limit ≡ suc l → load m k ≤ l → (s : List Placed) × InsideThen limit m k s
inside_exists limit l m k one_less room =
    let (s, more) = rest_exists l m k room in (
      s ++ at_zero token.CloseBracket ∷ [],
      record {
        less = l;
        one_less = one_less;
        here = s;
        bracket = at_zero token.CloseBracket;
        onward = [];
        is = refl;
        closes = refl;
        rest = more;
        behind = predicates_end limit;
      },
    )

pub pattern_rest_exists : (limit : ℕ) (a : Place) → pattern_load a ≤ limit → (s : List Placed) × PatternRest limit a s
unfolding pattern_load
pattern_rest_exists limit want_path room = (named, path_must limit)
pattern_rest_exists limit want_step room = (named, step_must limit)
pattern_rest_exists limit behind_root room = ([], inl (end_exists limit))
pattern_rest_exists limit (in_test part) room = part_exists limit part
pattern_rest_exists limit id_open room =
    (at_zero token.OpenParen ∷ at_zero (token.Literal []) ∷ closing, closed (ValueMust limit) (at_zero (token.Literal []) ∷ closing) (value_must limit))
pattern_rest_exists limit key_open room = (
  at_zero token.OpenParen ∷ at_zero (token.Literal []) ∷ at_zero token.Comma ∷ at_zero (token.Literal []) ∷ closing,
  closed (NameMust limit) (at_zero (token.Literal []) ∷ at_zero token.Comma ∷ at_zero (token.Literal []) ∷ closing) (name_must limit),
)
pattern_rest_exists limit key_name room = (_, name_must limit)
pattern_rest_exists limit key_comma room = (_, comma_must limit)
pattern_rest_exists limit call_value room = (_, value_must limit)
pattern_rest_exists limit call_close room = (_, close_must limit)
pattern_rest_exists limit behind_call room = ([], steps_end limit)
pattern_rest_exists limit behind_step room = ([], predicates_end limit)
pattern_rest_exists limit (inside m k) room = inside_exists limit (limit - 1) m k (omega (arith, room)) (omega (arith, room))
