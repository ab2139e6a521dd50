-- A machine that goes over the tokens of a pattern, one at a time, without its tree; within a predicate it is the machine
-- of expressions. Where it stops is the first fault. It serves the proofs alone; no public clause names it.
use Rattle.std.specs.Prelude.{◌≡◌, ℕ, suc, ◌<◌, nat_le, Bool, true, false, if◌then◌else◌, List, [], ◌∷◌, Option, None, Some, codes}
use Rattle.std.specs.Str.{bytes_eq}
use Rattle.xp_tree.specs.declared.terms.Operator.{Operator}
use Rattle.xp_tree.specs.declared.terms.Operator.TheVariants as operator
use Rattle.xp_grammar.specs.declared.token.Placed.{Placed}
use Rattle.xp_grammar.specs.declared.token.Token.{Token}
use Rattle.xp_grammar.specs.declared.token.NodeType.{NodeType}
use Rattle.xp_grammar.specs.declared.token.Token.TheVariants as token
use Rattle.xp_grammar.specs.inner.Machine.{Bracket, Mode, want, need_colons, need_test, type_open, type_inner, type_close, after, Move, test_turn, turn, load}
use Rattle.xp_grammar.specs.PatternGrammar.{pattern_axis}

-- within a node test with its axis
pub data TestPart : Type 0 where
  colons : TestPart
  test : TestPart
  opened : NodeType → TestPart
  inner : NodeType → TestPart
  close : TestPart

-- the mode of the machine of expressions there
abbrev pub mode_of : TestPart → Mode
mode_of colons = need_colons
mode_of test = need_test
mode_of (opened t) = type_open t
mode_of (inner t) = type_inner t
mode_of close = type_close

-- what stands next
pub data Place : Type 0 where
  want_path : Place
  want_step : Place
  behind_root : Place
  in_test : TestPart → Place
  id_open : Place
  key_open : Place
  key_name : Place
  key_comma : Place
  call_value : Place
  call_close : Place
  behind_call : Place
  behind_step : Place
  -- within a predicate, whose own bracket isn't among the brackets
  inside : Mode → List Bracket → Place

-- the first that there is
abbrev pub first_place : Option Place → Option Place → Option Place
first_place None second = second
first_place (Some a) second = Some a

-- where a node test goes on
abbrev pub place_of : Mode → Place
place_of need_colons = in_test colons
place_of need_test = in_test test
place_of (type_open t) = in_test (opened t)
place_of (type_inner t) = in_test (inner t)
place_of type_close = in_test close
place_of _ = behind_step

abbrev pub test_move : Option Move → Option Place
test_move None = None
test_move (Some mv) = Some (place_of mv.mode)

abbrev pub named_axis_turn : Option Bool → Option Place
named_axis_turn None = None
named_axis_turn (Some is_attribute) = Some (in_test colons)

-- at the beginning of a step
abbrev pub axis_turn : Token → Option Place
axis_turn (token.Axis a) = named_axis_turn (pattern_axis a)
axis_turn token.At = Some (in_test test)
axis_turn _ = None

abbrev pub step_turn : Token → Option Place
step_turn t = first_place (test_move (test_turn [] t)) (axis_turn t)

abbrev pub call_turn : List ℕ → Option Place
call_turn name =
    if bytes_eq name (codes "id") then Some id_open else (if bytes_eq name (codes "key") then Some key_open else None)

-- at the beginning of a path pattern that begins with no step
abbrev pub path_turn : Token → Option Place
path_turn token.Slash = Some behind_root
path_turn token.DoubleSlash = Some want_step
path_turn (token.Function name) = call_turn name
path_turn _ = None

abbrev pub operator_turn : Operator → Option Place
operator_turn operator.Union = Some want_path
operator_turn _ = None

-- after a whole path pattern
abbrev pub union_turn : Token → Option Place
union_turn (token.Operator o) = operator_turn o
union_turn _ = None

abbrev pub slash_turn : Token → Option Place
slash_turn token.Slash = Some want_step
slash_turn token.DoubleSlash = Some want_step
slash_turn _ = None

abbrev pub bracket_turn : Token → Option Place
bracket_turn token.OpenBracket = Some (inside (want true 0 false) [])
bracket_turn _ = None

abbrev pub open_turn : Place → Token → Option Place
open_turn a token.OpenParen = Some a
open_turn a _ = None

abbrev pub literal_turn : Place → Token → Option Place
literal_turn a (token.Literal value) = Some a
literal_turn a _ = None

abbrev pub comma_turn : Token → Option Place
comma_turn token.Comma = Some call_value
comma_turn _ = None

abbrev pub close_turn : Token → Option Place
close_turn token.CloseParen = Some behind_call
close_turn _ = None

abbrev pub inside_move : Option Move → Option Place
inside_move None = None
inside_move (Some mv) = Some (inside mv.mode mv.stack)

-- at the end of a predicate
abbrev pub bracket_close_turn : Token → Option Place
bracket_close_turn token.CloseBracket = Some behind_step
bracket_close_turn _ = None

abbrev pub closing_turn : Mode → List Bracket → Token → Option Place
closing_turn (after e) [] t = bracket_close_turn t
closing_turn m k t = None

abbrev pub behind_turn : Token → Option Place
behind_turn t = first_place (slash_turn t) (union_turn t)

-- where the machine goes at a token, if the limit allows
abbrev pub pattern_turn : Place → Token → Option Place
pattern_turn want_path t = first_place (path_turn t) (step_turn t)
pattern_turn want_step t = step_turn t
pattern_turn behind_root t = first_place (step_turn t) (union_turn t)
pattern_turn (in_test part) t = test_move (turn (mode_of part) [] t)
pattern_turn id_open t = open_turn call_value t
pattern_turn key_open t = open_turn key_name t
pattern_turn key_name t = literal_turn key_comma t
pattern_turn key_comma t = comma_turn t
pattern_turn call_value t = literal_turn call_close t
pattern_turn call_close t = close_turn t
pattern_turn behind_call t = behind_turn t
pattern_turn behind_step t = first_place (bracket_turn t) (behind_turn t)
pattern_turn (inside m k) t = first_place (inside_move (turn m k t)) (closing_turn m k t)

-- the nesting; after `id` and `key` their `(` is counted already
unfoldable pub pattern_load : Place → ℕ
pattern_load (inside m k) = suc (load m k)
pattern_load id_open = 1
pattern_load key_open = 1
pattern_load key_name = 1
pattern_load key_comma = 1
pattern_load call_value = 1
pattern_load call_close = 1
pattern_load _ = 0

abbrev pub pattern_allowed : ℕ → Option Place → Option Place
pattern_allowed limit None = None
pattern_allowed limit (Some a) = if nat_le (pattern_load a) limit then Some a else None

abbrev pub pattern_next : ℕ → Place → Token → Option Place
pattern_next limit a t = pattern_allowed limit (pattern_turn a t)

-- where the machine stops
pub record PatternHalt : Type 0 where
  pub place : Place
  pub rest : List Placed

abbrev pub pattern_goes : PatternHalt → (Place → PatternHalt) → Option Place → PatternHalt
pattern_goes here on None = here
pattern_goes here on (Some a) = on a

unfoldable pub pattern_halt : ℕ → Place → List Placed → PatternHalt
pattern_halt limit a [] = record { place = a; rest = [] }
pattern_halt limit a (p ∷ s) =
    pattern_goes (record { place = a; rest = p ∷ s }) (λ b. pattern_halt limit b s) (pattern_next limit a p.token)

-- whether more has to come
abbrev pub IsPendingPlace : Place → Type 0
IsPendingPlace behind_root = ⊥
IsPendingPlace behind_call = ⊥
IsPendingPlace behind_step = ⊥
IsPendingPlace _ = Unit {0}

-- only the limit keeps the machine from going on
pub record IsLimitedPlace (limit : ℕ) (a : Place) (t : Token) : Type 0 where
  pub place : Place
  pub turns : pattern_turn a t ≡ Some place
  pub over : limit < pattern_load place
