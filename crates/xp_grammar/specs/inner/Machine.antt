-- A machine that goes over the tokens of an expression, one at a time, without its tree: where it stops is the first
-- fault. It serves the proofs, and the clauses by which the parsers' own parts meet; no call of `xp_syntax` names it.
use Rattle.std.specs.Prelude.{◌≡◌, ℕ, suc, ◌+◌, ◌<◌, nat_le, Bool, true, false, if◌then◌else◌, List, [], ◌∷◌, length, Option, None, Some}
use Rattle.xp_tree.specs.declared.terms.Level.{Level}
use Rattle.xp_tree.specs.declared.terms.Level.TheVariants as level
use Rattle.xp_tree.specs.declared.terms.Operator.{Operator}
use Rattle.xp_tree.specs.declared.terms.Operator.TheVariants as operator
use Rattle.xp_grammar.specs.declared.token.Placed.{Placed}
use Rattle.xp_grammar.specs.declared.token.Token.{Token}
use Rattle.xp_grammar.specs.declared.token.NodeType.{NodeType}
use Rattle.xp_grammar.specs.declared.token.NodeType.TheVariants as node_type
use Rattle.xp_grammar.specs.declared.token.Token.TheVariants as token

-- the brackets that are open
pub data Bracket : Type 0 where
  in_paren : Bracket
  in_predicate : Bracket
  in_arguments : Bracket

-- how an operand ends: predicates may follow, or only steps, or only steps without a slash
pub data Ending : Type 0 where
  full : Ending
  bare : Ending
  at_root : Ending

-- what stands next
pub data Mode : Type 0 where
  -- an operand: whether signs may stand, how many stand before it, whether a call may end instead
  want : Bool → ℕ → Bool → Mode
  need_step : Mode
  need_colons : Mode
  need_test : Mode
  type_open : NodeType → Mode
  type_inner : NodeType → Mode
  type_close : Mode
  function_open : Mode
  after : Ending → Mode

pub record Move : Type 0 where
  pub mode : Mode
  pub stack : List Bracket

abbrev pub moves : Mode → List Bracket → Option Move
moves m k = Some (record { mode = m; stack = k })

-- the first that there is
abbrev pub first_of_two : Option Move → Option Move → Option Move
first_of_two None second = second
first_of_two (Some m) second = Some m

-- at the beginning of a node test
abbrev pub test_turn : List Bracket → Token → Option Move
test_turn k token.Star = moves (after full) k
test_turn k (token.PrefixStar prefix) = moves (after full) k
test_turn k (token.Name name) = moves (after full) k
test_turn k (token.NodeType t) = moves (type_open t) k
test_turn k _ = None

-- at the beginning of a step
abbrev pub axis_turn : List Bracket → Token → Option Move
axis_turn k token.Dot = moves (after bare) k
axis_turn k token.DoubleDot = moves (after bare) k
axis_turn k (token.Axis a) = moves need_colons k
axis_turn k token.At = moves need_test k
axis_turn k _ = None

abbrev pub step_turn : List Bracket → Token → Option Move
step_turn k t = first_of_two (test_turn k t) (axis_turn k t)

-- at a sign
abbrev pub sign_turn : Operator → Bool → ℕ → List Bracket → Option Move
sign_turn operator.Minus true count k = moves (want true (suc count) false) k
sign_turn _ signs count k = None

-- at the beginning of an operand that is no relative path
abbrev pub operand_turn : Bool → ℕ → List Bracket → Token → Option Move
operand_turn signs count k (token.Operator o) = sign_turn o signs count k
operand_turn signs count k token.Slash = moves (after at_root) k
operand_turn signs count k token.DoubleSlash = moves need_step k
operand_turn signs count k token.OpenParen = moves (want true 0 false) (in_paren ∷ k)
operand_turn signs count k (token.Function name) = moves function_open k
operand_turn signs count k (token.Variable name) = moves (after full) k
operand_turn signs count k (token.Literal value) = moves (after full) k
operand_turn signs count k (token.Number digits) = moves (after full) k
operand_turn signs count k _ = None

-- at a call's end without arguments
abbrev pub no_argument_turn : Token → Bool → List Bracket → Option Move
no_argument_turn token.CloseParen true (in_arguments ∷ k) = moves (after full) k
no_argument_turn _ closes k = None

-- whether signs may stand after an operator
abbrev pub signs_after : Operator → Bool
signs_after operator.Union = false
signs_after _ = true

abbrev pub paren_turn : List Bracket → Option Move
paren_turn (in_paren ∷ k) = moves (after full) k
paren_turn (in_arguments ∷ k) = moves (after full) k
paren_turn _ = None

abbrev pub bracket_turn : List Bracket → Option Move
bracket_turn (in_predicate ∷ k) = moves (after full) k
bracket_turn _ = None

abbrev pub comma_turn : List Bracket → Option Move
comma_turn (in_arguments ∷ k) = moves (want true 0 false) (in_arguments ∷ k)
comma_turn _ = None

-- after a whole operand
abbrev pub end_turn : List Bracket → Token → Option Move
end_turn k (token.Operator o) = moves (want (signs_after o) 0 false) k
end_turn k token.CloseParen = paren_turn k
end_turn k token.CloseBracket = bracket_turn k
end_turn k token.Comma = comma_turn k
end_turn k _ = None

abbrev pub slash_turn : List Bracket → Token → Option Move
slash_turn k token.Slash = moves need_step k
slash_turn k token.DoubleSlash = moves need_step k
slash_turn k _ = None

abbrev pub predicate_turn : List Bracket → Token → Option Move
predicate_turn k token.OpenBracket = moves (want true 0 false) (in_predicate ∷ k)
predicate_turn k _ = None

abbrev pub after_turn : Ending → List Bracket → Token → Option Move
after_turn full k t = first_of_two (predicate_turn k t) (first_of_two (slash_turn k t) (end_turn k t))
after_turn bare k t = first_of_two (slash_turn k t) (end_turn k t)
after_turn at_root k t = first_of_two (step_turn k t) (end_turn k t)

abbrev pub colons_turn : List Bracket → Token → Option Move
colons_turn k token.DoubleColon = moves need_test k
colons_turn k _ = None

abbrev pub type_open_turn : NodeType → List Bracket → Token → Option Move
type_open_turn t k token.OpenParen = moves (type_inner t) k
type_open_turn t k _ = None

abbrev pub type_close_turn : List Bracket → Token → Option Move
type_close_turn k token.CloseParen = moves (after full) k
type_close_turn k _ = None

abbrev pub target_turn : NodeType → List Bracket → Token → Option Move
target_turn node_type.Pi k (token.Literal target) = moves type_close k
target_turn t k _ = None

abbrev pub function_turn : List Bracket → Token → Option Move
function_turn k token.OpenParen = moves (want true 0 true) (in_arguments ∷ k)
function_turn k _ = None

-- where the machine goes at a token, if the limit allows
abbrev pub turn : Mode → List Bracket → Token → Option Move
turn (want signs count closes) k t =
    first_of_two (no_argument_turn t closes k) (first_of_two (operand_turn signs count k t) (step_turn k t))
turn need_step k t = step_turn k t
turn need_colons k t = colons_turn k t
turn need_test k t = test_turn k t
turn (type_open nt) k t = type_open_turn nt k t
turn (type_inner nt) k t = first_of_two (type_close_turn k t) (target_turn nt k t)
turn type_close k t = type_close_turn k t
turn function_open k t = function_turn k t
turn (after e) k t = after_turn e k t

-- the nesting: brackets and signs; after a function's name its `(` is counted already
unfoldable pub load : Mode → List Bracket → ℕ
load (want signs count closes) k = length k + count
load function_open k = suc (length k)
load _ k = length k

abbrev pub allowed : ℕ → Option Move → Option Move
allowed limit None = None
allowed limit (Some m) = if nat_le (load m.mode m.stack) limit then Some m else None

abbrev pub next : ℕ → Mode → List Bracket → Token → Option Move
next limit m k t = allowed limit (turn m k t)

-- where the machine stops
pub record Halt : Type 0 where
  pub mode : Mode
  pub stack : List Bracket
  pub rest : List Placed

abbrev pub goes : Halt → (Move → Halt) → Option Move → Halt
goes here on None = here
goes here on (Some m) = on m

unfoldable pub halt : ℕ → Mode → List Bracket → List Placed → Halt
halt limit m k [] = record { mode = m; stack = k; rest = [] }
halt limit m k (p ∷ s) =
    goes (record { mode = m; stack = k; rest = p ∷ s }) (λ mv. halt limit mv.mode mv.stack s) (next limit m k p.token)

-- the mode at the beginning of a chain: only those of Union begin without a sign
abbrev pub start : Level → Bool → ℕ → Bool → Mode
start level.Union signs count closes = want signs count closes
start _ signs count closes = want true 0 closes

-- whether more has to come
abbrev pub IsPending : Mode → List Bracket → Type 0
IsPending (after e) [] = ⊥
IsPending _ _ = Unit {0}

-- only the limit keeps the machine from going on
pub record IsLimited (limit : ℕ) (m : Mode) (k : List Bracket) (t : Token) : Type 0 where
  pub move : Move
  pub turns : turn m k t ≡ Some move
  pub over : limit < load move.mode move.stack
