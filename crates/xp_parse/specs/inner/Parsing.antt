-- What the parser's methods read, and where they stop.
use Rattle.std.specs.Prelude.{◌≡◌, ℕ, suc, ◌+◌, ◌<◌, ◌≤◌, ◌⊎◌, Bool, true, false, List, [], ◌∷◌, ◌++◌, length, None}
use Rattle.xp_tree.specs.declared.terms.Level.{Level}
use Rattle.xp_tree.specs.declared.terms.Level.TheVariants as level
use Rattle.xp_tree.specs.declared.terms.AxisName.{AxisName}
use Rattle.xp_tree.specs.declared.terms.Operator.{Operator}
use Rattle.xp_tree.specs.declared.terms.Operator.TheVariants as operator
use Rattle.xp_tree.specs.declared.terms.StepTest.{StepTest}
use Rattle.xp_tree.specs.declared.expr.Expr.{Expr}
use Rattle.xp_tree.specs.declared.expr.Operand.{Operand}
use Rattle.xp_tree.specs.declared.expr.Step.{Step}
use Rattle.xp_tree.specs.Tree.{Tree, Steps, Operands, Trees, step, tree}
use Rattle.xp_tree.specs.View.{tree_of, operand_of, step_of, operands_seen, steps_seen, trees_seen}
use Rattle.xp_grammar.specs.declared.token.Placed.{Placed}
use Rattle.xp_grammar.specs.declared.token.NodeType.{NodeType}
use Rattle.xp_grammar.specs.declared.token.Token.{Token}
use Rattle.xp_grammar.specs.declared.token.NodeType.TheVariants as node_type
use Rattle.xp_grammar.specs.declared.token.Token.TheVariants as token
use Rattle.xp_grammar.specs.Parts.{offset_at, level_of, everywhere}
use Rattle.xp_grammar.specs.Grammar.{IsSigns, IsTest, IsChain, IsOperand, IsOperands, IsPath, IsSteps, IsMoreSteps, IsPredicates, IsFilter, IsPrimary, IsArguments, IsMoreArguments}
use Rattle.xp_grammar.specs.inner.Machine.{Bracket, in_arguments, Ending, full, bare, at_root, Mode, want, need_step, need_test, type_open, type_inner, type_close, after, moves, turn, end_turn, halt, start, IsPending, IsLimited}
use Rattle.xp_parse.specs.declared.stop.Stop.{Stop}
use Rattle.xp_parse.specs.declared.stop.Stop.TheVariants as stop
use Rattle.xp_parse.specs.inner.Places.{NotAt, Refused, Took}

-- how tightly a level binds
abbrev pub rank : Level → ℕ
rank level.Or = 0
rank level.And = 1
rank level.Equal = 2
rank level.Rel = 3
rank level.Sum = 4
rank level.Prod = 5
rank level.Union = 6

-- no operator of this rank or a higher one stands first
abbrev pub Quiet : ℕ → List Placed → Type 0
Quiet r s = (p : Placed) (rest : List Placed) (o : Operator) → s ≡ p ∷ rest → p.token ≡ token.Operator o → rank (level_of o) < r

-- nothing goes on with the operand itself
abbrev pub Settled : Ending → List Placed → Type 0
Settled e s = (p : Placed) (rest : List Placed) → s ≡ p ∷ rest → (k : List Bracket) → turn (after e) k p.token ≡ end_turn k p.token

-- no token or end goes on
pub record IsUnexpected (m : Mode) (k : List Bracket) (s : List Placed) : Type 0 where
  pub at_end : s ≡ [] → IsPending m k
  pub at_token : (p : Placed) (rest : List Placed) → s ≡ p ∷ rest → turn m k p.token ≡ None

-- only the limit refuses the token
pub record IsTooNested (limit : ℕ) (m : Mode) (k : List Bracket) (s : List Placed) : Type 0 where
  pub placed : Placed
  pub rest : List Placed
  pub is : s ≡ placed ∷ rest
  pub limited : IsLimited limit m k placed.token

-- why the machine does not go on
abbrev pub Cause : ℕ → Mode → List Bracket → List Placed → Stop → Type 0
Cause limit m k s stop.Memory = Unit {0}
Cause limit m k s stop.Unexpected = IsUnexpected m k s
Cause limit m k s stop.TooNested = IsTooNested limit m k s

-- the machine comes to the front of u, and does not go on
pub record Stuck (limit : ℕ) (m : Mode) (k : List Bracket) (s u : List Placed) (why : Stop) : Type 0 where
  pub mode : Mode
  pub stack : List Bracket
  pub reaches : halt limit m k s ≡ halt limit mode stack u
  pub cause : Cause limit mode stack u why

abbrev pub IsNoMemory : Stop → Type 0
IsNoMemory stop.Memory = ⊥
IsNoMemory _ = Unit {0}

-- the same within any open brackets, this many
pub record Fails (limit : ℕ) (m : Mode) (d : ℕ) (s u : List Placed) (why : Stop) : Type 0 where
  pub stuck : IsNoMemory why → (k : List Bracket) → length k ≡ d → Stuck limit m k s u why

-- the same within the parentheses of a call
pub record FailsInCall (limit : ℕ) (m : Mode) (d : ℕ) (s u : List Placed) (why : Stop) : Type 0 where
  pub stuck : IsNoMemory why → (k : List Bracket) → suc (length k) ≡ d → Stuck limit m (in_arguments ∷ k) s u why

-- no sign stands where none may be taken, and no `)` where a call may end
abbrev pub FreshSign : Level → Bool → List Placed → Type 0
FreshSign level.Union b s = b ≡ true → NotAt (token.Operator operator.Minus) s
FreshSign _ b s = Unit {0}

pub record Fresh (n : Level) (b c : Bool) (s : List Placed) : Type 0 where
  pub sign : FreshSign n b s
  pub closes : c ≡ true → NotAt token.CloseParen s

pub record OperandFails (limit : ℕ) (n : Level) (d : ℕ) (s u : List Placed) (why : Stop) : Type 0 where
  pub from : (b : Bool) (j : ℕ) (c : Bool) → Fresh n b c s → Fails limit (start n b j c) d s u why

-- an operand was read, and no operator of this rank or a higher one goes on with it
pub record Reads (limit : ℕ) (n : Level) (r d : ℕ) (s u : List Placed) : Type 0 where
  pub ending : Ending
  pub settled : Settled ending u
  pub quiet : Quiet r u
  pub shorter : length u < length s
  pub halts : (b : Bool) (j : ℕ) (c : Bool) (k : List Bracket) → length k ≡ d →
      halt limit (start n b j c) k s ≡ halt limit (after ending) k u

pub record ChainRead (limit : ℕ) (n : Level) (d : ℕ) (s u : List Placed) (e : Tree) : Type 0 where
  pub derives : IsChain limit n d s u e
  pub reads : Reads limit n (rank n) d s u

pub record OperandRead (limit : ℕ) (n : Level) (d : ℕ) (s u : List Placed) (e : Tree) : Type 0 where
  pub derives : IsOperand limit n d s u e
  pub reads : Reads limit n (suc (rank n)) d s u

pub record PathRead (limit d : ℕ) (s u : List Placed) (e : Tree) : Type 0 where
  pub derives : IsPath limit d s u e
  pub reads : Reads limit level.Union 7 d s u

-- later operands of a level were read behind an operand that ended so
pub record OperandsRead (limit : ℕ) (n : Level) (d : ℕ) (e : Ending) (s u : List Placed) (found : List Operand) : Type 0 where
  pub derives : IsOperands limit n d s u (operands_seen found)
  pub ending : Ending
  pub settled : Settled ending u
  pub quiet : Quiet (rank n) u
  pub shorter : length u ≤ length s
  pub halts : (k : List Bracket) → length k ≡ d → halt limit (after e) k s ≡ halt limit (after ending) k u

-- where the machine is behind signs; a call ends there only if none was read
pub record SignsTo (limit : ℕ) (c : Bool) (k : List Bracket) (s u : List Placed) : Type 0 where
  pub count : ℕ
  pub closes : Bool
  pub halts : halt limit (want true 0 c) k s ≡ halt limit (want true count closes) k u
  pub kept : closes ≡ true → (c ≡ true) × (u ≡ s)

-- signs were read
pub record SignsRead (limit d : ℕ) (s u : List Placed) (count : ℕ) : Type 0 where
  pub signs : IsSigns count s u
  pub fits : d + count ≤ limit
  pub no_more : NotAt (token.Operator operator.Minus) u

-- there are more signs than fit
pub record SignsFail (limit d : ℕ) (s u : List Placed) (why : Stop) : Type 0 where
  pub from : (c : Bool) → Fails limit (want true 0 c) d s u why

-- steps before others
abbrev pub steps_onto : List Step → Steps → Steps
steps_onto [] rest = rest
steps_onto (s ∷ ss) rest = step_of s (steps_onto ss rest)

-- steps were read, and stand behind those found before
pub record StepsRead (limit d : ℕ) (found : List Step) (s u : List Placed) (all : List Step) : Type 0 where
  pub steps : Steps
  pub derives : IsSteps limit d s u steps
  pub are : steps_seen all ≡ steps_onto found steps
  pub ending : Ending
  pub settled : Settled ending u
  pub shorter : length u < length s
  pub halts : (k : List Bracket) → length k ≡ d → halt limit need_step k s ≡ halt limit (after ending) k u

-- no predicate can follow a step that ended so
abbrev pub IsClosed : Ending → List Placed → Type 0
IsClosed full s = NotAt token.OpenBracket s
IsClosed bare s = Unit {0}
IsClosed at_root s = ⊥

pub record MoreStepsRead (limit d : ℕ) (e : Ending) (found : List Step) (s u : List Placed) (all : List Step) : Type 0 where
  pub steps : Steps
  pub derives : IsMoreSteps limit d s u steps
  pub are : steps_seen all ≡ steps_onto found steps
  pub ending : Ending
  pub settled : Settled ending u
  pub no_slash : NotAt token.Slash u
  pub no_double_slash : NotAt token.DoubleSlash u
  pub shorter : length u ≤ length s
  pub halts : (k : List Bracket) → length k ≡ d → halt limit (after e) k s ≡ halt limit (after ending) k u

-- a step was read
pub record StepRead (limit d : ℕ) (s u : List Placed) (it : Step) : Type 0 where
  pub derives : (v : List Placed) (ss : Steps) → IsMoreSteps limit d u v ss → IsSteps limit d s v (step_of it ss)
  pub ending : Ending
  pub closed : IsClosed ending u
  pub shorter : length u < length s
  pub halts : (k : List Bracket) → length k ≡ d → halt limit need_step k s ≡ halt limit (after ending) k u

-- a node test and its predicates were read
pub record TestedRead (limit d : ℕ) (offset : ℕ) (a : AxisName) (s u : List Placed) (it : Step) : Type 0 where
  pub test : StepTest
  pub predicates : Trees
  pub behind : List Placed
  pub tests : IsTest s behind test
  pub derives : IsPredicates limit d behind u predicates
  pub is : (ss : Steps) → step_of it ss ≡ step offset a test (offset_at s) predicates ss
  pub closed : NotAt token.OpenBracket u
  pub shorter : length u < length s

-- a node test was read
pub record TestRead (s u : List Placed) (it : StepTest) : Type 0 where
  pub tests : IsTest s u it
  pub shorter : length u < length s

-- what stands behind a node type was read
pub record TypeRead (t : NodeType) (s u : List Placed) (it : StepTest) : Type 0 where
  pub tests : (p : Placed) → p.token ≡ token.NodeType t → IsTest (p ∷ s) u it
  pub shorter : length u < length s

-- what stands in the parentheses of `processing-instruction` was read
pub record TargetRead (s u : List Placed) (it : StepTest) : Type 0 where
  pub tests : (p q : Placed) → p.token ≡ token.NodeType node_type.Pi → q.token ≡ token.OpenParen → IsTest (p ∷ q ∷ s) u it
  pub shorter : length u < length s

-- the modes of the machine within a node test
abbrev pub IsTestMode : Mode → Type 0
IsTestMode need_test = Unit {0}
IsTestMode (type_open t) = Unit {0}
IsTestMode (type_inner t) = Unit {0}
IsTestMode type_close = Unit {0}
IsTestMode _ = ⊥

-- a node test was begun, and what stands at u does not go on with it
pub data TestStops : Mode → List Placed → List Placed → Type 0 where
  stops_here : (m : Mode) (u : List Placed) → IsTestMode m → ((k : List Bracket) → IsUnexpected m k u) → TestStops m u u
  stops_behind : (m m' : Mode) (p : Placed) (s u : List Placed) → IsTestMode m →
      ((k : List Bracket) → turn m k p.token ≡ moves m' k) → TestStops m' s u → TestStops m (p ∷ s) u

pub record TestFails (m : Mode) (s u : List Placed) (why : Stop) : Type 0 where
  pub stops : IsNoMemory why → (why ≡ stop.Unexpected) × TestStops m s u

-- an expression was read behind the first token, and this token behind it
pub record EnclosedRead (limit d : ℕ) (close : Token) (s u : List Placed) (e : Tree) : Type 0 where
  pub opening : Placed
  pub inner : List Placed
  pub behind : List Placed
  pub is : s ≡ opening ∷ inner
  pub room : suc d ≤ limit
  pub read : ChainRead limit level.Or (suc d) inner behind e
  pub closed : Took close behind u

-- no expression fits, or none was read, or the token isn't behind it
pub data EnclosedFails (limit d : ℕ) (close : Token) (s u : List Placed) (why : Stop) : Type 0 where
  too_deep : limit ≤ d → u ≡ s → why ≡ stop.TooNested → EnclosedFails limit d close s u why
  inside_fails : (opening : Placed) (inner : List Placed) → s ≡ opening ∷ inner → suc d ≤ limit →
      OperandFails limit level.Or (suc d) inner u why → EnclosedFails limit d close s u why
  left_open : (opening : Placed) (inner behind : List Placed) (e : Tree) → s ≡ opening ∷ inner → suc d ≤ limit →
      ChainRead limit level.Or (suc d) inner behind e → Refused close behind u why → EnclosedFails limit d close s u why

-- predicates were read
pub record PredicatesRead (limit d : ℕ) (s u : List Placed) (found : List Expr) : Type 0 where
  pub derives : IsPredicates limit d s u (trees_seen found)
  pub closed : NotAt token.OpenBracket u
  pub shorter : length u ≤ length s

-- a primary expression was read, and one with its predicates
pub record PrimaryRead (limit d : ℕ) (s u : List Placed) (e : Tree) : Type 0 where
  pub derives : IsPrimary limit d s u e
  pub shorter : length u < length s

pub record FilterRead (limit d : ℕ) (s u : List Placed) (e : Tree) : Type 0 where
  pub derives : IsFilter limit d s u e
  pub closed : NotAt token.OpenBracket u
  pub shorter : length u < length s

-- arguments were read; where no `)` follows, the machine does not go on
pub record ArgumentsRead (limit d : ℕ) (s u : List Placed) (found : List Expr) : Type 0 where
  pub derives : IsArguments limit d s u (trees_seen found)
  pub unclosed : NotAt token.CloseParen u → FailsInCall limit (want true 0 true) d s u stop.Unexpected
  pub shorter : length u ≤ length s

pub record MoreArgumentsRead (limit d : ℕ) (e : Ending) (first : Tree) (s u : List Placed) (found : List Expr) : Type 0 where
  pub more : Trees
  pub derives : IsMoreArguments limit d s u more
  pub are : trees_seen found ≡ tree first more
  pub unclosed : NotAt token.CloseParen u → FailsInCall limit (after e) d s u stop.Unexpected
  pub shorter : length u ≤ length s

-- whether a slash was taken, with the step that `//` stands for
pub record TookDouble (s u : List Placed) (before behind : List Step) : Type 0 where
  pub took : Took token.DoubleSlash s u
  pub it : Step
  pub is : (rest : Steps) → step_of it rest ≡ everywhere (offset_at s) rest
  pub found : behind ≡ before ++ it ∷ []

pub record TookSlash (s u : List Placed) (before behind : List Step) : Type 0 where
  pub took : Took token.Slash s u
  pub found : behind ≡ before

pub record TookNone (s u : List Placed) (before behind : List Step) : Type 0 where
  pub kept : u ≡ s
  pub found : behind ≡ before
  pub no_slash : NotAt token.Slash s
  pub no_double_slash : NotAt token.DoubleSlash s

abbrev pub Leads : List Placed → List Placed → List Step → List Step → Bool → Type 0
Leads s u before behind true = TookSlash s u before behind ⊎ TookDouble s u before behind
Leads s u before behind false = TookNone s u before behind

-- what loops keep: from here on goes on from the start
abbrev pub operands_onto : List Operand → Operands → Operands
operands_onto [] rest = rest
operands_onto (o ∷ os) rest = operand_of o (operands_onto os rest)

abbrev pub trees_onto : List Expr → Trees → Trees
trees_onto [] rest = rest
trees_onto (e ∷ es) rest = tree (tree_of e) (trees_onto es rest)

pub record OperandsSoFar (limit : ℕ) (n : Level) (d : ℕ) (e : Ending) (s here : List Placed) (found : List Operand) : Type 0 where
  pub extends : (v : List Placed) (os : Operands) → IsOperands limit n d here v os → IsOperands limit n d s v (operands_onto found os)
  pub ending : Ending
  pub settled : Settled ending here
  pub quiet : Quiet (suc (rank n)) here
  pub shorter : length here ≤ length s
  pub halts : (k : List Bracket) → length k ≡ d → halt limit (after e) k s ≡ halt limit (after ending) k here

pub record MoreTo (limit d : ℕ) (s v : List Placed) (before found : List Step) (ss : Steps) : Type 0 where
  pub steps : Steps
  pub derives : IsMoreSteps limit d s v steps
  pub are : steps_onto found ss ≡ steps_onto before steps

pub record StepsSoFar (limit d : ℕ) (e : Ending) (before : List Step) (s here : List Placed) (found : List Step) : Type 0 where
  pub extends : (v : List Placed) (ss : Steps) → IsMoreSteps limit d here v ss → MoreTo limit d s v before found ss
  pub ending : Ending
  pub closed : IsClosed ending here
  pub shorter : length here ≤ length s
  pub halts : (k : List Bracket) → length k ≡ d → halt limit (after e) k s ≡ halt limit (after ending) k here

pub record PredicatesSoFar (limit d : ℕ) (s here : List Placed) (found : List Expr) : Type 0 where
  pub extends : (v : List Placed) (ts : Trees) → IsPredicates limit d here v ts → IsPredicates limit d s v (trees_onto found ts)
  pub shorter : length here ≤ length s

pub record ArgumentsTo (limit d : ℕ) (first : Tree) (s v : List Placed) (found : List Expr) (ts : Trees) : Type 0 where
  pub more : Trees
  pub derives : IsMoreArguments limit d s v more
  pub are : trees_onto found ts ≡ tree first more

pub record ArgumentsSoFar (limit d : ℕ) (e : Ending) (first : Tree) (s here : List Placed) (found : List Expr) : Type 0 where
  pub extends : (v : List Placed) (ts : Trees) → IsMoreArguments limit d here v ts → ArgumentsTo limit d first s v found ts
  pub ending : Ending
  pub settled : Settled ending here
  pub quiet : Quiet 0 here
  pub shorter : length here ≤ length s
  pub halts : (k : List Bracket) → suc (length k) ≡ d → halt limit (after e) (in_arguments ∷ k) s ≡ halt limit (after ending) (in_arguments ∷ k) here

-- of the calls without a token between them, the later ones weigh less
abbrev pub weight : Level → ℕ
weight level.Or = 19
weight level.And = 17
weight level.Equal = 15
weight level.Rel = 13
weight level.Sum = 11
weight level.Prod = 9
weight level.Union = 6
