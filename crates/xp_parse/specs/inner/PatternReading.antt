-- What the methods of the parser of patterns read, and where they stop.
use Rattle.std.specs.Prelude.{◌≡◌, ℕ, ◌<◌, ◌≤◌, Bool, List, [], ◌∷◌, ◌++◌, length, map, None, Some}
use Rattle.xp_tree.specs.declared.terms.Operator.TheVariants as operator
use Rattle.xp_tree.specs.declared.terms.StepTest.{StepTest}
use Rattle.xp_tree.specs.declared.pattern.Join.{Join}
use Rattle.xp_tree.specs.declared.pattern.Join.TheVariants as join
use Rattle.xp_tree.specs.declared.pattern.PathPattern.{PathPattern}
use Rattle.xp_tree.specs.declared.pattern.PatternStart.{PatternStart}
use Rattle.xp_tree.specs.declared.pattern.PatternStep.{PatternStep}
use Rattle.xp_tree.specs.Tree.{Trees}
use Rattle.xp_tree.specs.PatternTree.{StepTree, PathTree, pattern_step_of, path_pattern_of}
use Rattle.xp_grammar.specs.declared.token.Placed.{Placed}
use Rattle.xp_grammar.specs.declared.token.Token.{Token}
use Rattle.xp_grammar.specs.declared.token.Token.TheVariants as token
use Rattle.xp_grammar.specs.Parts.{offset_at}
use Rattle.xp_grammar.specs.Grammar.{IsTest, IsPredicates}
use Rattle.xp_parse.specs.declared.stop.Stop.{Stop}
use Rattle.xp_parse.specs.declared.stop.Stop.TheVariants as stop
use Rattle.xp_parse.specs.inner.Places.{NotAt, Took, Refused}
use Rattle.xp_parse.specs.inner.Parsing.{IsNoMemory}
use Rattle.xp_grammar.specs.PatternGrammar.{step_tree, IsStepPattern, IsRelative, IsMoreSteps, IsIdKey, IsPathPattern, IsPattern, IsMorePaths}
use Rattle.xp_grammar.specs.inner.PatternMachine.{Place, want_path, want_step, behind_call, behind_step, step_turn, union_turn, pattern_turn, pattern_halt, IsPendingPlace, IsLimitedPlace}

-- no token or end goes on
pub record IsUnexpectedAt (a : Place) (s : List Placed) : Type 0 where
  pub at_end : s ≡ [] → IsPendingPlace a
  pub at_token : (p : Placed) (rest : List Placed) → s ≡ p ∷ rest → pattern_turn a p.token ≡ None

-- only the limit refuses the token
pub record IsTooNestedAt (limit : ℕ) (a : Place) (s : List Placed) : Type 0 where
  pub placed : Placed
  pub rest : List Placed
  pub is : s ≡ placed ∷ rest
  pub limited : IsLimitedPlace limit a placed.token

-- why the machine does not go on
abbrev pub PlaceCause : ℕ → Place → List Placed → Stop → Type 0
PlaceCause limit a s stop.Memory = Unit {0}
PlaceCause limit a s stop.Unexpected = IsUnexpectedAt a s
PlaceCause limit a s stop.TooNested = IsTooNestedAt limit a s

-- the machine comes to the front of u, and does not go on
pub record StuckAt (limit : ℕ) (a : Place) (s u : List Placed) (why : Stop) : Type 0 where
  pub place : Place
  pub reaches : pattern_halt limit a s ≡ pattern_halt limit place u
  pub cause : PlaceCause limit place u why

pub record FailsAt (limit : ℕ) (a : Place) (s u : List Placed) (why : Stop) : Type 0 where
  pub stuck : IsNoMemory why → StuckAt limit a s u why

-- a step may begin there, and nothing else
pub record IsStepPlace (a : Place) (s : List Placed) : Type 0 where
  pub at_end : s ≡ [] → IsPendingPlace a
  pub at_token : (p : Placed) (rest : List Placed) → s ≡ p ∷ rest → pattern_turn a p.token ≡ step_turn p.token

-- a slash may follow there, and no predicate goes on
pub data IsClosedAt : Place → List Placed → Type 0 where
  closed_call : (s : List Placed) → IsClosedAt behind_call s
  closed_step : (s : List Placed) → NotAt token.OpenBracket s → IsClosedAt behind_step s

-- a path pattern ends there, and only `|` goes on
pub record IsEndedAt (a : Place) (s : List Placed) : Type 0 where
  pub ends : IsPendingPlace a → ⊥
  pub settled : (p : Placed) (rest : List Placed) → s ≡ p ∷ rest → pattern_turn a p.token ≡ union_turn p.token
  pub union : pattern_turn a (token.Operator operator.Union) ≡ Some want_path

-- a node test and its predicates were read
pub record TestedFound (limit : ℕ) (j : Join) (offset : ℕ) (is_attribute : Bool) (s u : List Placed) (it : PatternStep) : Type 0 where
  pub test : StepTest
  pub predicates : Trees
  pub behind : List Placed
  pub tests : IsTest s behind test
  pub derives : IsPredicates limit 0 behind u predicates
  pub is : pattern_step_of it ≡ step_tree j offset is_attribute test (offset_at s) predicates
  pub closed : NotAt token.OpenBracket u
  pub shorter : length u < length s

-- a step was read
pub record StepFound (limit : ℕ) (j : Join) (s u : List Placed) (it : PatternStep) : Type 0 where
  pub derives : IsStepPattern limit j s u (pattern_step_of it)
  pub closed : NotAt token.OpenBracket u
  pub shorter : length u < length s

-- steps were read, the first one behind a join
pub record StepsFound (limit : ℕ) (j : Join) (s u : List Placed) (all : List PatternStep) : Type 0 where
  pub derives : IsRelative limit j s u (map pattern_step_of all)
  pub ended : IsEndedAt behind_step u
  pub shorter : length u < length s
  pub halts : pattern_halt limit want_step s ≡ pattern_halt limit behind_step u

-- a slash was taken, or none stood there
abbrev pub TookJoin : Join → List Placed → List Placed → Type 0
TookJoin join.Slash s u = Took token.Slash s u
TookJoin join.DoubleSlash s u = Took token.DoubleSlash s u
TookJoin join.Nothing s u = ⊥

pub record NoJoin (s u : List Placed) : Type 0 where
  pub kept : u ≡ s
  pub no_slash : NotAt token.Slash s
  pub no_double_slash : NotAt token.DoubleSlash s

-- steps were read behind others
pub record MoreStepsFound (limit : ℕ) (a : Place) (before : List PatternStep) (s u : List Placed) (all : List PatternStep) : Type 0 where
  pub steps : List StepTree
  pub derives : IsMoreSteps limit s u steps
  pub are : map pattern_step_of all ≡ map pattern_step_of before ++ steps
  pub ending : Place
  pub ended : IsEndedAt ending u
  pub at_step : a ≡ behind_step → ending ≡ behind_step
  pub shorter : length u ≤ length s
  pub halts : pattern_halt limit a s ≡ pattern_halt limit ending u

-- no literal stands first
pub record NoLiteral (s u : List Placed) (why : Stop) : Type 0 where
  pub why_is : IsNoMemory why → why ≡ stop.Unexpected
  pub kept : IsNoMemory why → u ≡ s
  pub not_at : IsNoMemory why → (value : List ℕ) → NotAt (token.Literal value) s

-- a literal was taken, and a mark behind it
pub record LiteralTaken (t : Token) (s u : List Placed) (value : List ℕ) : Type 0 where
  pub behind : List Placed
  pub literal : Took (token.Literal value) s behind
  pub mark : Took t behind u

-- no literal stands first, or the mark does not stand behind it
pub data NotTaken (t : Token) : List Placed → List Placed → Stop → Type 0 where
  no_literal : (s u : List Placed) (why : Stop) → NoLiteral s u why → NotTaken t s u why
  no_mark : (s m u : List Placed) (value : List ℕ) (why : Stop) → Took (token.Literal value) s m → Refused t m u why → NotTaken t s u why

-- `id` or `key` was read
pub record CallFound (limit : ℕ) (s u : List Placed) (it : PatternStart) : Type 0 where
  pub derives : IsIdKey limit s u it
  pub shorter : length u < length s

-- a path pattern was read
pub record PathFound (limit : ℕ) (s u : List Placed) (it : PathPattern) : Type 0 where
  pub derives : IsPathPattern limit s u (path_pattern_of it)
  pub ending : Place
  pub ended : IsEndedAt ending u
  pub shorter : length u < length s
  pub halts : pattern_halt limit want_path s ≡ pattern_halt limit ending u

-- path patterns were read behind others
pub record MorePathsFound (limit : ℕ) (a : Place) (before : List PathPattern) (s u : List Placed) (all : List PathPattern) : Type 0 where
  pub paths : List PathTree
  pub derives : IsMorePaths limit s u paths
  pub are : map path_pattern_of all ≡ map path_pattern_of before ++ paths
  pub ending : Place
  pub ended : IsEndedAt ending u
  pub no_union : NotAt (token.Operator operator.Union) u
  pub halts : pattern_halt limit a s ≡ pattern_halt limit ending u

-- a pattern was read
pub record PatternFound (limit : ℕ) (s u : List Placed) (all : List PathPattern) : Type 0 where
  pub derives : IsPattern limit s u (map path_pattern_of all)
  pub ending : Place
  pub ended : IsEndedAt ending u
  pub no_union : NotAt (token.Operator operator.Union) u
  pub halts : pattern_halt limit want_path s ≡ pattern_halt limit ending u

-- what loops keep: from here on goes on from the start
pub record MoreStepsTo (limit : ℕ) (s v : List Placed) (before found : List PatternStep) (more : List StepTree) : Type 0 where
  pub steps : List StepTree
  pub derives : IsMoreSteps limit s v steps
  pub are : map pattern_step_of found ++ more ≡ map pattern_step_of before ++ steps

pub record StepsReached (limit : ℕ) (a : Place) (before : List PatternStep) (s here : List Placed) (found : List PatternStep) : Type 0 where
  pub extends : (v : List Placed) (more : List StepTree) → IsMoreSteps limit here v more → MoreStepsTo limit s v before found more
  pub ending : Place
  pub closed : IsClosedAt ending here
  pub at_step : a ≡ behind_step → ending ≡ behind_step
  pub shorter : length here ≤ length s
  pub halts : pattern_halt limit a s ≡ pattern_halt limit ending here

pub record MorePathsTo (limit : ℕ) (s v : List Placed) (before found : List PathPattern) (more : List PathTree) : Type 0 where
  pub paths : List PathTree
  pub derives : IsMorePaths limit s v paths
  pub are : map path_pattern_of found ++ more ≡ map path_pattern_of before ++ paths

pub record PathsReached (limit : ℕ) (a : Place) (before : List PathPattern) (s here : List Placed) (found : List PathPattern) : Type 0 where
  pub extends : (v : List Placed) (more : List PathTree) → IsMorePaths limit here v more → MorePathsTo limit s v before found more
  pub ending : Place
  pub ended : IsEndedAt ending here
  pub shorter : length here ≤ length s
  pub halts : pattern_halt limit a s ≡ pattern_halt limit ending here
