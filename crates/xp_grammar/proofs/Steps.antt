-- One step of the machine.
use Rattle.std.proofs.Common.{◌≡◌, ℕ, ◌≤◌, Bool, false, if◌then◌else◌, List, ◌∷◌, Option, None, Some, refl, ◌∙◌, ap}
use Rattle.std.proofs.lemmas.Bool.{le-leb}
use Rattle.xp_tree.specs.declared.terms.Level.{Level}
use Rattle.xp_tree.specs.declared.terms.Level.TheVariants as level
use Rattle.xp_tree.specs.declared.terms.Operator.{Operator}
use Rattle.xp_tree.specs.declared.terms.Operator.TheVariants as operator
use Rattle.xp_tree.specs.declared.terms.AxisName.{AxisName}
use Rattle.xp_grammar.specs.declared.token.Placed.{Placed}
use Rattle.xp_grammar.specs.declared.token.Token.{Token}
use Rattle.xp_grammar.specs.declared.token.NodeType.{NodeType}
use Rattle.xp_grammar.specs.declared.token.Token.TheVariants as token
use Rattle.xp_grammar.specs.Parts.{level_of}
use Rattle.xp_grammar.specs.Grammar.{tighter}
use Rattle.xp_grammar.specs.inner.Machine.{Bracket, Ending, full, bare, at_root, Mode, want, need_step, need_colons, need_test, type_open, after, Move, moves, turn, load, allowed, next, goes, halt, signs_after, end_turn, start}

-- the machine goes on at a token
pub step_on : (limit : ℕ) (m : Mode) (k : List Bracket) (p : Placed) (s : List Placed) (mv : Move) (t : Token) →
    p.token ≡ t → turn m k t ≡ Some mv → load mv.mode mv.stack ≤ limit →
    halt limit m k (p ∷ s) ≡ halt limit mv.mode mv.stack s
unfolding halt
step_on limit m k p s mv t is turns room =
    ap (goes (record { mode = m; stack = k; rest = p ∷ s }) (λ mv. halt limit mv.mode mv.stack s))
    (ap (next limit m k) is ∙ ap (allowed limit) turns
    ∙ ap (λ b. if b then Some mv else None) (le-leb (load mv.mode mv.stack) limit room))

-- the same after the name of the level within
abbrev pub within : Level → Bool → ℕ → Bool → Option Level → Mode
within n signs count closes None = start n signs count closes
within n signs count closes (Some inner) = start inner signs count closes

pub inner_start : (n : Level) (signs : Bool) (count : ℕ) (closes : Bool) →
    start n signs count closes ≡ within n signs count closes (tighter n)
inner_start level.Or signs count closes = refl
inner_start level.And signs count closes = refl
inner_start level.Equal signs count closes = refl
inner_start level.Rel signs count closes = refl
inner_start level.Sum signs count closes = refl
inner_start level.Prod signs count closes = refl
inner_start level.Union signs count closes = refl

pub same_start : (n inner : Level) (signs : Bool) (count : ℕ) (closes : Bool) → tighter n ≡ Some inner →
    start n signs count closes ≡ start inner signs count closes
same_start n inner signs count closes is = inner_start n signs count closes ∙ ap (within n signs count closes) is

pub operator_start : (o : Operator) → want (signs_after o) 0 false ≡ start (level_of o) (signs_after o) 0 false
operator_start operator.Or = refl
operator_start operator.And = refl
operator_start operator.Equal = refl
operator_start operator.NotEqual = refl
operator_start operator.Less = refl
operator_start operator.AtMost = refl
operator_start operator.Greater = refl
operator_start operator.AtLeast = refl
operator_start operator.Plus = refl
operator_start operator.Minus = refl
operator_start operator.Times = refl
operator_start operator.Div = refl
operator_start operator.Mod = refl
operator_start operator.Union = refl

pub after_operator : (e : Ending) (k : List Bracket) (o : Operator) →
    turn (after e) k (token.Operator o) ≡ moves (want (signs_after o) 0 false) k
after_operator full k o = refl
after_operator bare k o = refl
after_operator at_root k o = refl

pub after_paren : (e : Ending) (k : List Bracket) → turn (after e) k token.CloseParen ≡ end_turn k token.CloseParen
after_paren full k = refl
after_paren bare k = refl
after_paren at_root k = refl

pub after_bracket : (e : Ending) (k : List Bracket) → turn (after e) k token.CloseBracket ≡ end_turn k token.CloseBracket
after_bracket full k = refl
after_bracket bare k = refl
after_bracket at_root k = refl

pub after_comma : (e : Ending) (k : List Bracket) → turn (after e) k token.Comma ≡ end_turn k token.Comma
after_comma full k = refl
after_comma bare k = refl
after_comma at_root k = refl

-- the modes in which a step may begin
pub record TakesTests (m : Mode) : Type 0 where
  pub star : (k : List Bracket) → turn m k token.Star ≡ moves (after full) k
  pub prefix : (k : List Bracket) (p : List ℕ) → turn m k (token.PrefixStar p) ≡ moves (after full) k
  pub name : (k : List Bracket) (n : List ℕ) → turn m k (token.Name n) ≡ moves (after full) k
  pub node : (k : List Bracket) (t : NodeType) → turn m k (token.NodeType t) ≡ moves (type_open t) k

pub record TakesSteps (m : Mode) : Type 0 where
  pub tests : TakesTests m
  pub dot : (k : List Bracket) → turn m k token.Dot ≡ moves (after bare) k
  pub parent : (k : List Bracket) → turn m k token.DoubleDot ≡ moves (after bare) k
  pub axis : (k : List Bracket) (a : AxisName) → turn m k (token.Axis a) ≡ moves need_colons k
  pub at_sign : (k : List Bracket) → turn m k token.At ≡ moves need_test k

pub test_takes : TakesTests need_test
test_takes = record { star = λ k. refl; prefix = λ k p. refl; name = λ k n. refl; node = λ k t. refl }

pub step_takes : TakesSteps need_step
step_takes = record {
  tests = record { star = λ k. refl; prefix = λ k p. refl; name = λ k n. refl; node = λ k t. refl };
  dot = λ k. refl;
  parent = λ k. refl;
  axis = λ k a. refl;
  at_sign = λ k. refl;
}

pub root_takes : TakesSteps (after at_root)
root_takes = record {
  tests = record { star = λ k. refl; prefix = λ k p. refl; name = λ k n. refl; node = λ k t. refl };
  dot = λ k. refl;
  parent = λ k. refl;
  axis = λ k a. refl;
  at_sign = λ k. refl;
}

pub want_takes : (signs : Bool) (count : ℕ) (closes : Bool) → TakesSteps (want signs count closes)
want_takes signs count closes = record {
  tests = record { star = λ k. refl; prefix = λ k p. refl; name = λ k n. refl; node = λ k t. refl };
  dot = λ k. refl;
  parent = λ k. refl;
  axis = λ k a. refl;
  at_sign = λ k. refl;
}
