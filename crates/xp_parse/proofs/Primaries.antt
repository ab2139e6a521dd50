-- Expressions that are no paths, as they were read, and where they stop.
use Rattle.std.proofs.Common.{◌≡◌, ℕ, suc, ◌+◌, ◌≤◌, Bool, true, false, List, [], ◌∷◌, ◌++◌, length, None, refl, sym, ◌∙◌, ap, subst, arith, add-one}
use Rattle.std.specs.Prelude.{Result, MatchResult, Vec}
use Rattle.std.specs.declared.alloc.Global.{Global}
use Rattle.std.proofs.lemmas.Result.{MatchResult-weaker}
use Rattle.xp_tree.specs.declared.terms.Level.{Level}
use Rattle.xp_tree.specs.declared.terms.Level.TheVariants as level
use Rattle.xp_tree.specs.declared.terms.Operator.{Operator}
use Rattle.xp_tree.specs.declared.terms.Operator.TheVariants as operator
use Rattle.xp_tree.specs.declared.expr.Expr.{Expr}
use Rattle.xp_tree.specs.Tree.{Tree, variable, literal, number, call, no_trees, tree}
use Rattle.xp_tree.specs.View.{tree_of, trees_seen}
use Rattle.xp_grammar.specs.declared.token.Placed.{Placed}
use Rattle.xp_grammar.specs.declared.token.Token.{Token}
use Rattle.xp_grammar.specs.declared.token.Token.TheVariants as token
use Rattle.xp_grammar.specs.Parts.{offset_at}
use Rattle.xp_grammar.specs.Grammar.{IsChain, IsPrimary, a_variable, a_literal, a_number, in_parens, a_call, IsArguments, no_argument, arguments, IsMoreArguments, no_more_arguments, one_more_argument}
use Rattle.xp_grammar.specs.inner.Machine.{Bracket, in_paren, in_arguments, Ending, Mode, want, function_open, after, turn, end_turn, step_turn, operand_turn, no_argument_turn, first_of_two, load, halt}
use Rattle.xp_grammar.proofs.Steps.{after_comma}
use Rattle.xp_grammar.proofs.Drives.{plus_zero}
use Rattle.xp_parse.specs.declared.stop.Stop.{Stop}
use Rattle.xp_parse.specs.declared.stop.Stop.TheVariants as stop
use Rattle.xp_parse.specs.inner.Places.{IsFirst, Took, TookBehind, Refused, NotAt, IsNoPath, is_step_token, is_at_step}
use Rattle.xp_parse.specs.inner.Parsing.{EnclosedRead, EnclosedFails, too_deep, inside_fails, left_open, Quiet, Settled, FailsInCall, OperandFails, ChainRead, PrimaryRead, ArgumentsRead, MoreArgumentsRead, trees_onto, ArgumentsSoFar}
use Rattle.xp_parse.proofs.Failing.{took_shorter, took_here, took_on, stuck_after, stuck_at_end, stuck_at_first, stuck_over, stuck_not_at, none_but_function_open}
use Rattle.xp_parse.proofs.Paths.{fresh_start, stuck_unclosed, refused_as, no_operator, snoc_trees, onto_trees, placed_at, no_step_turn}

pub end_fails : (limit d : ℕ) (s : List Placed) → s ≡ [] → OperandFails limit level.Union d s s stop.Unexpected
end_fails limit d s is = record { from = λ b j c fresh. record { stuck = λ nm k deep. stuck_at_end limit (want b j c) k s is tt } }

-- with a token that begins no operand
no_operand : (b : Bool) (j : ℕ) (k : List Bracket) (t : Token) → ((n : List ℕ) → t ≡ token.Variable n → ⊥) →
    ((n : List ℕ) → t ≡ token.Literal n → ⊥) → ((n : List ℕ) → t ≡ token.Number n → ⊥) → (t ≡ token.OpenParen → ⊥) →
    ((n : List ℕ) → t ≡ token.Function n → ⊥) → (t ≡ token.Slash → ⊥) → (t ≡ token.DoubleSlash → ⊥) →
    (b ≡ true → t ≡ token.Operator operator.Minus → ⊥) → operand_turn b j k t ≡ None
no_operand b j k (token.Variable n) v l m o f s d g = absurd (v n refl)
no_operand b j k (token.Literal n) v l m o f s d g = absurd (l n refl)
no_operand b j k (token.Number n) v l m o f s d g = absurd (m n refl)
no_operand b j k token.OpenParen v l m o f s d g = absurd (o refl)
no_operand b j k (token.Function n) v l m o f s d g = absurd (f n refl)
no_operand b j k token.Slash v l m o f s d g = absurd (s refl)
no_operand b j k token.DoubleSlash v l m o f s d g = absurd (d refl)
no_operand true j k (token.Operator operator.Minus) v l m o f s d g = absurd (g refl refl)
no_operand false j k (token.Operator operator.Minus) v l m o f s d g = refl
no_operand b j k (token.Operator operator.Or) v l m o f s d g = refl
no_operand b j k (token.Operator operator.And) v l m o f s d g = refl
no_operand b j k (token.Operator operator.Equal) v l m o f s d g = refl
no_operand b j k (token.Operator operator.NotEqual) v l m o f s d g = refl
no_operand b j k (token.Operator operator.Less) v l m o f s d g = refl
no_operand b j k (token.Operator operator.AtMost) v l m o f s d g = refl
no_operand b j k (token.Operator operator.Greater) v l m o f s d g = refl
no_operand b j k (token.Operator operator.AtLeast) v l m o f s d g = refl
no_operand b j k (token.Operator operator.Plus) v l m o f s d g = refl
no_operand b j k (token.Operator operator.Times) v l m o f s d g = refl
no_operand b j k (token.Operator operator.Div) v l m o f s d g = refl
no_operand b j k (token.Operator operator.Mod) v l m o f s d g = refl
no_operand b j k (token.Operator operator.Union) v l m o f s d g = refl
no_operand b j k token.CloseParen v l m o f s d g = refl
no_operand b j k token.OpenBracket v l m o f s d g = refl
no_operand b j k token.CloseBracket v l m o f s d g = refl
no_operand b j k token.Dot v l m o f s d g = refl
no_operand b j k token.DoubleDot v l m o f s d g = refl
no_operand b j k token.At v l m o f s d g = refl
no_operand b j k token.Comma v l m o f s d g = refl
no_operand b j k token.DoubleColon v l m o f s d g = refl
no_operand b j k token.Star v l m o f s d g = refl
no_operand b j k (token.PrefixStar p) v l m o f s d g = refl
no_operand b j k (token.Name n) v l m o f s d g = refl
no_operand b j k (token.Axis a) v l m o f s d g = refl
no_operand b j k (token.NodeType t) v l m o f s d g = refl

no_close : (t : Token) (c : Bool) (k : List Bracket) → (c ≡ true → t ≡ token.CloseParen → ⊥) → no_argument_turn t c k ≡ None
no_close token.CloseParen true k g = absurd (g refl refl)
no_close token.CloseParen false k g = refl
no_close _ c k g = refl

pub no_primary : (limit d : ℕ) (s : List Placed) (t : Token) → IsNoPath s → IsFirst t s →
    ((n : List ℕ) → t ≡ token.Variable n → ⊥) → ((n : List ℕ) → t ≡ token.Literal n → ⊥) → ((n : List ℕ) → t ≡ token.Number n → ⊥) →
    (t ≡ token.OpenParen → ⊥) → ((n : List ℕ) → t ≡ token.Function n → ⊥) → OperandFails limit level.Union d s s stop.Unexpected
no_primary limit d s t path f v l m o g = record {
  from = λ b j c fresh. record {
    stuck = λ nm k deep.
        let step_none : is_step_token t ≡ false = ap is_step_token (sym f.token) ∙ sym (ap is_at_step f.is) ∙ path.no_step in
        let none : turn (want b j c) k t ≡ None =
        ap (λ x. first_of_two x (first_of_two (operand_turn b j k t) (step_turn k t)))
        (no_close t c k (λ yes_it is. fresh.closes yes_it f.placed f.rest f.is (f.token ∙ is)))
        ∙ ap (λ x. first_of_two x (step_turn k t))
        (no_operand b j k t v l m o g (λ is. path.no_slash f.placed f.rest f.is (f.token ∙ is))
        (λ is. path.no_double_slash f.placed f.rest f.is (f.token ∙ is))
        (λ yes_it is. fresh.sign yes_it f.placed f.rest f.is (f.token ∙ is)))
        ∙ no_step_turn k t step_none in
        stuck_at_first limit (want b j c) k s t f none;
  };
}

pub variable_read : (limit d offset : ℕ) (s u : List Placed) (name : List ℕ) (e : Tree) → Took (token.Variable name) s u → offset ≡ offset_at s →
    e ≡ variable offset name → PrimaryRead limit d s u e
variable_read limit d offset s u name e t at is = record {
  derives = subst (λ y. IsPrimary limit d s u y) (sym (is ∙ ap (λ o. variable o name) (placed_at (token.Variable name) s u t offset at)))
      (subst (λ l. IsPrimary limit d l u (variable t.placed.offset name)) (sym t.is) (a_variable d t.placed u name t.token));
  shorter = took_shorter (token.Variable name) s u t;
}

pub literal_read : (limit d offset : ℕ) (s u : List Placed) (value : List ℕ) (e : Tree) → Took (token.Literal value) s u → offset ≡ offset_at s →
    e ≡ literal offset value → PrimaryRead limit d s u e
literal_read limit d offset s u value e t at is = record {
  derives = subst (λ y. IsPrimary limit d s u y) (sym (is ∙ ap (λ o. literal o value) (placed_at (token.Literal value) s u t offset at)))
      (subst (λ l. IsPrimary limit d l u (literal t.placed.offset value)) (sym t.is) (a_literal d t.placed u value t.token));
  shorter = took_shorter (token.Literal value) s u t;
}

pub number_read : (limit d offset : ℕ) (s u : List Placed) (digits : List ℕ) (e : Tree) → Took (token.Number digits) s u → offset ≡ offset_at s →
    e ≡ number offset digits → PrimaryRead limit d s u e
number_read limit d offset s u digits e t at is = record {
  derives = subst (λ y. IsPrimary limit d s u y) (sym (is ∙ ap (λ o. number o digits) (placed_at (token.Number digits) s u t offset at)))
      (subst (λ l. IsPrimary limit d l u (number t.placed.offset digits)) (sym t.is) (a_number d t.placed u digits t.token));
  shorter = took_shorter (token.Number digits) s u t;
}

-- parentheses
parens_too_nested : (limit d : ℕ) (s : List Placed) → limit ≤ d → IsFirst token.OpenParen s → OperandFails limit level.Union d s s stop.TooNested
unfolding load
parens_too_nested limit d s over f = record {
  from = λ b j c fresh. record {
    stuck = λ nm k deep.
        stuck_over limit (want b j c) k s token.OpenParen (record { mode = want true 0 false; stack = in_paren ∷ k }) f refl (omega (arith, over, deep));
  };
}

paren_on : (limit : ℕ) (b : Bool) (j : ℕ) (c : Bool) (k : List Bracket) (s m : List Placed) → Took token.OpenParen s m → suc (length k) ≤ limit →
    halt limit (want b j c) k s ≡ halt limit (want true 0 false) (in_paren ∷ k) m
unfolding load
paren_on limit b j c k s m t room =
    took_on limit (want b j c) k s m token.OpenParen (record { mode = want true 0 false; stack = in_paren ∷ k }) t refl (plus_zero _ _ room)

parens_fail : (limit d : ℕ) (s m u : List Placed) (why : Stop) → suc d ≤ limit → Took token.OpenParen s m →
    OperandFails limit level.Or (suc d) m u why → OperandFails limit level.Union d s u why
parens_fail limit d s m u why room t f = record {
  from = λ b j c fresh. record {
    stuck = λ nm k deep.
        stuck_after limit (want b j c) (want true 0 false) k (in_paren ∷ k) s m u why (paren_on limit b j c k s m t (omega (arith, room, deep)))
        ((f.from true 0 false (fresh_start level.Or m (λ x. tt))).stuck nm (in_paren ∷ k) (ap suc deep));
  };
}

unclosed_paren : (k : List Bracket) (x : Token) → (x ≡ token.CloseParen → ⊥) → ((o : Operator) → x ≡ token.Operator o → ⊥) →
    end_turn (in_paren ∷ k) x ≡ None
unclosed_paren k token.CloseParen a b = absurd (a refl)
unclosed_paren k (token.Operator o) a b = absurd (b o refl)
unclosed_paren k _ a b = refl

parens_unclosed : (limit d : ℕ) (s m v u : List Placed) (x : Tree) (why : Stop) → suc d ≤ limit → Took token.OpenParen s m →
    ChainRead limit level.Or (suc d) m v x → Refused token.CloseParen v u why → OperandFails limit level.Union d s u why
parens_unclosed limit d s m v u x why room t r q = record {
  from = λ b j c fresh. record {
    stuck = λ nm k deep.
        stuck_after limit (want b j c) (after r.reads.ending) k (in_paren ∷ k) s v u why
        (paren_on limit b j c k s m t (omega (arith, room, deep)) ∙ r.reads.halts true 0 false (in_paren ∷ k) (ap suc deep))
        (refused_as limit (after r.reads.ending) (in_paren ∷ k) v u token.CloseParen why q
        (stuck_unclosed limit r.reads.ending (in_paren ∷ k) v token.CloseParen r.reads.settled r.reads.quiet q.not_at tt (unclosed_paren k)));
  };
}

parens_read : (limit d : ℕ) (s m v u : List Placed) (x : Tree) → suc d ≤ limit → Took token.OpenParen s m →
    ChainRead limit level.Or (suc d) m v x → Took token.CloseParen v u → PrimaryRead limit d s u x
parens_read limit d s m v u x room t r q = record {
  derives =
      let inner : IsChain limit level.Or (suc d) m (q.placed ∷ u) x = subst (λ l. IsChain limit level.Or (suc d) m l x) q.is r.derives in
      subst (λ l. IsPrimary limit d l u x) (sym t.is) (in_parens d t.placed q.placed m u x t.token room inner q.token);
  shorter =
      let a = took_shorter token.OpenParen s m t in let b = r.reads.shorter in let c = took_shorter token.CloseParen v u q in
      omega (arith, a, b, c);
}

parens_stop : (limit d : ℕ) (s u : List Placed) (why : Stop) → IsFirst token.OpenParen s → EnclosedFails limit d token.CloseParen s u why →
    OperandFails limit level.Union d s u why
parens_stop limit d s u why f (too_deep over kept is) =
    subst (λ w. OperandFails limit level.Union d s u w) (sym is) (subst (λ v. OperandFails limit level.Union d s v stop.TooNested) (sym kept)
    (parens_too_nested limit d s over f))
parens_stop limit d s u why f (inside_fails p m is room x) = parens_fail limit d s m u why room (took_here token.OpenParen s p m f is) x
parens_stop limit d s u why f (left_open p m v e is room r q) =
    parens_unclosed limit d s m v u e why room (took_here token.OpenParen s p m f is) r q

pub parens_closed : (limit d : ℕ) (s u : List Placed) (out : Result Expr Stop) → IsFirst token.OpenParen s →
    MatchResult out (λ e. EnclosedRead limit d token.CloseParen s u (tree_of e)) (EnclosedFails limit d token.CloseParen s u) →
    MatchResult out (λ e. PrimaryRead limit d s u (tree_of e)) (OperandFails limit level.Union d s u)
parens_closed limit d s u out f h = MatchResult-weaker out h
    (λ e r. parens_read limit d s r.inner r.behind u (tree_of e) r.room (took_here token.OpenParen s r.opening r.inner f r.is) r.read r.closed)
    (λ why x. parens_stop limit d s u why f x)

-- an expression and the token behind it
pub enclosed_read : (limit d : ℕ) (t : Token) (s m v u : List Placed) (p : Placed) (inner : Expr) (out : Result Expr Stop) → s ≡ p ∷ m → suc d ≤ limit →
    ChainRead limit level.Or (suc d) m v (tree_of inner) → MatchResult out (TookBehind inner t v u) (Refused t v u) →
    MatchResult out (λ e. EnclosedRead limit d t s u (tree_of e)) (EnclosedFails limit d t s u)
enclosed_read limit d t s m v u p inner out is room r h = MatchResult-weaker out h
    (λ e k. record {
      opening = p;
      inner = m;
      behind = v;
      is = is;
      room = room;
      read = subst (λ y. ChainRead limit level.Or (suc d) m v (tree_of y)) (sym k.same) r;
      closed = k.took;
    })
    (λ why q. left_open p m v (tree_of inner) is room r q)

-- calls
pub call_too_nested : (limit d : ℕ) (name : List ℕ) (s : List Placed) → limit ≤ d → IsFirst (token.Function name) s →
    OperandFails limit level.Union d s s stop.TooNested
unfolding load
call_too_nested limit d name s over f = record {
  from = λ b j c fresh. record {
    stuck = λ nm k deep.
        stuck_over limit (want b j c) k s (token.Function name) (record { mode = function_open; stack = k }) f refl (omega (arith, over, deep));
  };
}

function_on : (limit : ℕ) (b : Bool) (j : ℕ) (c : Bool) (k : List Bracket) (name : List ℕ) (s m : List Placed) → Took (token.Function name) s m → suc (length k) ≤ limit →
    halt limit (want b j c) k s ≡ halt limit function_open k m
unfolding load
function_on limit b j c k name s m t room =
    took_on limit (want b j c) k s m (token.Function name) (record { mode = function_open; stack = k }) t refl room

open_on : (limit : ℕ) (k : List Bracket) (s m : List Placed) → Took token.OpenParen s m → suc (length k) ≤ limit →
    halt limit function_open k s ≡ halt limit (want true 0 true) (in_arguments ∷ k) m
unfolding load
open_on limit k s m t room =
    took_on limit function_open k s m token.OpenParen (record { mode = want true 0 true; stack = in_arguments ∷ k }) t refl (plus_zero _ _ room)

pub call_unopened : (limit d : ℕ) (name : List ℕ) (s m u : List Placed) (why : Stop) → suc d ≤ limit → Took (token.Function name) s m →
    Refused token.OpenParen m u why → OperandFails limit level.Union d s u why
call_unopened limit d name s m u why room t r = record {
  from = λ b j c fresh. record {
    stuck = λ nm k deep.
        stuck_after limit (want b j c) function_open k k s m u why (function_on limit b j c k name s m t (omega (arith, room, deep)))
        (stuck_not_at limit function_open k m u token.OpenParen why r tt (none_but_function_open k));
  };
}

pub call_fails : (limit d : ℕ) (name : List ℕ) (s m n u : List Placed) (why : Stop) → suc d ≤ limit → Took (token.Function name) s m →
    Took token.OpenParen m n → FailsInCall limit (want true 0 true) (suc d) n u why → OperandFails limit level.Union d s u why
call_fails limit d name s m n u why room t o f = record {
  from = λ b j c fresh. record {
    stuck = λ nm k deep.
        stuck_after limit (want b j c) (want true 0 true) k (in_arguments ∷ k) s n u why
        (function_on limit b j c k name s m t (omega (arith, room, deep)) ∙ open_on limit k m n o (omega (arith, room, deep)))
        (f.stuck nm k (ap suc deep));
  };
}

pub call_unclosed : (limit d : ℕ) (name : List ℕ) (s m n v u : List Placed) (found : List Expr) (why : Stop) → suc d ≤ limit →
    Took (token.Function name) s m → Took token.OpenParen m n → ArgumentsRead limit (suc d) n v found → Refused token.CloseParen v u why →
    OperandFails limit level.Union d s u why
call_unclosed limit d name s m n v u found why room t o r q =
    let f : FailsInCall limit (want true 0 true) (suc d) n v stop.Unexpected = r.unclosed q.not_at in
    let g : FailsInCall limit (want true 0 true) (suc d) n u why =
    subst (λ w. FailsInCall limit (want true 0 true) (suc d) n u w) (sym q.why_is)
    (subst (λ l. FailsInCall limit (want true 0 true) (suc d) n l stop.Unexpected) (sym q.kept) f) in
    call_fails limit d name s m n u why room t o g

pub call_read : (limit d offset : ℕ) (name : List ℕ) (s m n v u : List Placed) (found : List Expr) (e : Tree) → suc d ≤ limit →
    Took (token.Function name) s m → Took token.OpenParen m n → ArgumentsRead limit (suc d) n v found → Took token.CloseParen v u →
    offset ≡ offset_at s → e ≡ call offset name (trees_seen found) → PrimaryRead limit d s u e
call_read limit d offset name s m n v u found e room t o r q at is = record {
  derives =
      let args : IsArguments limit (suc d) n (q.placed ∷ u) (trees_seen found) = subst (λ l. IsArguments limit (suc d) n l (trees_seen found)) q.is r.derives in
      subst (λ y. IsPrimary limit d s u y) (sym (is ∙ ap (λ x. call x name (trees_seen found)) (placed_at (token.Function name) s m t offset at)))
      (subst (λ l. IsPrimary limit d l u (call t.placed.offset name (trees_seen found))) (sym (t.is ∙ ap (λ l. t.placed ∷ l) o.is))
      (a_call d t.placed o.placed q.placed n u name (trees_seen found) t.token o.token room args q.token));
  shorter =
      let a = took_shorter (token.Function name) s m t in let b = took_shorter token.OpenParen m n o in
      let c = r.shorter in let g = took_shorter token.CloseParen v u q in omega (arith, a, b, c, g);
}

-- arguments
pub no_arguments_read : (limit d : ℕ) (s : List Placed) (found : List Expr) → IsFirst token.CloseParen s → found ≡ [] → ArgumentsRead limit d s s found
no_arguments_read limit d s found f none = record {
  derives = subst (λ l. IsArguments limit d s s (trees_seen l)) (sym none) (no_argument d s);
  unclosed = λ not_at. absurd (not_at f.placed f.rest f.is f.token);
  shorter = omega arith;
}

pub first_fails : (limit d : ℕ) (s u : List Placed) (why : Stop) → NotAt token.CloseParen s → OperandFails limit level.Or d s u why →
    FailsInCall limit (want true 0 true) d s u why
first_fails limit d s u why not_at f = record {
  stuck = λ nm k deep.
      (f.from true 0 true (record { sign = tt; closes = λ _. not_at })).stuck nm (in_arguments ∷ k) deep;
}

call_after : (limit : ℕ) (m m' : Mode) (d : ℕ) (s s' u : List Placed) (why : Stop) →
    ((k : List Bracket) → suc (length k) ≡ d → halt limit m (in_arguments ∷ k) s ≡ halt limit m' (in_arguments ∷ k) s') →
    FailsInCall limit m' d s' u why → FailsInCall limit m d s u why
call_after limit m m' d s s' u why to x = record {
  stuck = λ nm k deep.
      stuck_after limit m m' (in_arguments ∷ k) (in_arguments ∷ k) s s' u why (to k deep) (x.stuck nm k deep);
}

pub arguments_read : (limit d : ℕ) (s m u : List Placed) (x : Tree) (out : Result (Vec Expr Global) Stop) (r : ChainRead limit level.Or d s m x) →
    MatchResult out (λ found. MoreArgumentsRead limit d r.reads.ending x m u found.items) (FailsInCall limit (after r.reads.ending) d m u) →
    MatchResult out (λ found. ArgumentsRead limit d s u found.items) (FailsInCall limit (want true 0 true) d s u)
arguments_read limit d s m u x out r h = MatchResult-weaker out h
    (λ found y. record {
      derives = subst (λ t. IsArguments limit d s u t) (sym y.are) (arguments d s m u x y.more r.derives y.derives);
      unclosed = λ not_at. call_after limit (want true 0 true) (after r.reads.ending) d s m u stop.Unexpected
          (λ k deep. r.reads.halts true 0 true (in_arguments ∷ k) deep) (y.unclosed not_at);
      shorter = let a = r.reads.shorter in let b = y.shorter in omega (arith, a, b);
    })
    (λ why f. call_after limit (want true 0 true) (after r.reads.ending) d s m u why
    (λ k deep. r.reads.halts true 0 true (in_arguments ∷ k) deep) f)

pub arguments_start : (limit d : ℕ) (e : Ending) (s : List Placed) (found : List Expr) (first : Expr) → found ≡ first ∷ [] → Settled e s → Quiet 0 s →
    ArgumentsSoFar limit d e (tree_of first) s s found
arguments_start limit d e s found first one settled quiet = record {
  extends = λ v ts D. record { more = ts; derives = D; are = ap (λ f. trees_onto f ts) one };
  ending = e;
  settled = settled;
  quiet = quiet;
  shorter = omega arith;
  halts = λ k deep. refl;
}

comma_on : (limit : ℕ) (e : Ending) (k : List Bracket) (s m : List Placed) → Took token.Comma s m → suc (length k) ≤ limit →
    halt limit (after e) (in_arguments ∷ k) s ≡ halt limit (want true 0 false) (in_arguments ∷ k) m
unfolding load
comma_on limit e k s m t room =
    took_on limit (after e) (in_arguments ∷ k) s m token.Comma (record { mode = want true 0 false; stack = in_arguments ∷ k }) t (after_comma e (in_arguments ∷ k)) (plus_zero _ _ room)

pub argument_fails : (limit d : ℕ) (e : Ending) (x : Tree) (s h m u : List Placed) (found : List Expr) (why : Stop) → d ≤ limit →
    ArgumentsSoFar limit d e x s h found → Took token.Comma h m → OperandFails limit level.Or d m u why → FailsInCall limit (after e) d s u why
argument_fails limit d e x s h m u found why room so t f =
    call_after limit (after e) (want true 0 false) d s m u why
    (λ k deep. so.halts k deep ∙ comma_on limit so.ending k h m t (omega (arith, room, deep)))
    (record { stuck = λ nm k deep. (f.from true 0 false (fresh_start level.Or m (λ y. tt))).stuck nm (in_arguments ∷ k) deep })

pub arguments_more : (limit d : ℕ) (e : Ending) (x : Tree) (s h m v : List Placed) (found all : List Expr) (it : Expr) → d ≤ limit →
    ArgumentsSoFar limit d e x s h found → Took token.Comma h m → ChainRead limit level.Or d m v (tree_of it) → all ≡ found ++ it ∷ [] →
    ArgumentsSoFar limit d e x s v all
arguments_more limit d e x s h m v found all it room so t r grown = record {
  extends = λ w ts D.
      let one : IsMoreArguments limit d h w (tree (tree_of it) ts) =
      subst (λ l. IsMoreArguments limit d l w (tree (tree_of it) ts)) (sym t.is) (one_more_argument d t.placed m v w (tree_of it) ts t.token r.derives D) in
      let y = so.extends w (tree (tree_of it) ts) one in
      record { more = y.more; derives = y.derives; are = ap (λ f. trees_onto f ts) grown ∙ snoc_trees found it ts ∙ y.are };
  ending = r.reads.ending;
  settled = r.reads.settled;
  quiet = r.reads.quiet;
  shorter = let a = so.shorter in let b = took_shorter token.Comma h m t in let c = r.reads.shorter in omega (arith, a, b, c);
  halts = λ k deep. so.halts k deep ∙ comma_on limit so.ending k h m t (omega (arith, room, deep)) ∙ r.reads.halts true 0 false (in_arguments ∷ k) deep;
}

unclosed_call : (k : List Bracket) (x : Token) → (x ≡ token.Comma → ⊥) → (x ≡ token.CloseParen → ⊥) → ((o : Operator) → x ≡ token.Operator o → ⊥) →
    end_turn (in_arguments ∷ k) x ≡ None
unclosed_call k token.Comma g a b = absurd (g refl)
unclosed_call k token.CloseParen g a b = absurd (a refl)
unclosed_call k (token.Operator o) g a b = absurd (b o refl)
unclosed_call k _ g a b = refl

pub more_arguments_read : (limit d : ℕ) (e : Ending) (x : Tree) (s h : List Placed) (found : List Expr) →
    ArgumentsSoFar limit d e x s h found → NotAt token.Comma h → MoreArgumentsRead limit d e x s h found
more_arguments_read limit d e x s h found so no_comma =
    let y = so.extends h no_trees (no_more_arguments d h) in
    record {
      more = y.more;
      derives = y.derives;
      are = sym (onto_trees found) ∙ y.are;
      unclosed = λ not_at. record {
        stuck = λ nm k deep.
            stuck_after limit (after e) (after so.ending) (in_arguments ∷ k) (in_arguments ∷ k) s h h stop.Unexpected (so.halts k deep)
            (record {
              mode = after so.ending;
              stack = in_arguments ∷ k;
              reaches = refl;
              cause = record {
                at_end = λ _. tt;
                at_token = λ p rest is. so.settled p rest is (in_arguments ∷ k)
                    ∙ unclosed_call k p.token (no_comma p rest is) (not_at p rest is) (no_operator h so.quiet p rest is);
              };
            });
      };
      shorter = so.shorter;
    }

-- one bracket more
pub fails_suc : (limit : ℕ) (m : Mode) (d : ℕ) (s u : List Placed) (why : Stop) → FailsInCall limit m (d + 1) s u why → FailsInCall limit m (suc d) s u why
fails_suc limit m d s u why f = subst (λ x. FailsInCall limit m x s u why) (add-one d) f

pub arguments_suc : (limit d : ℕ) (s u : List Placed) (found : List Expr) → ArgumentsRead limit (d + 1) s u found → ArgumentsRead limit (suc d) s u found
arguments_suc limit d s u found r = subst (λ x. ArgumentsRead limit x s u found) (add-one d) r

pub operand_fails_suc : (limit : ℕ) (n : Level) (d : ℕ) (s u : List Placed) (why : Stop) → OperandFails limit n (d + 1) s u why → OperandFails limit n (suc d) s u why
operand_fails_suc limit n d s u why f = subst (λ x. OperandFails limit n x s u why) (add-one d) f

pub chain_suc : (limit : ℕ) (n : Level) (d : ℕ) (s u : List Placed) (e : Tree) → ChainRead limit n (d + 1) s u e → ChainRead limit n (suc d) s u e
chain_suc limit n d s u e r = subst (λ x. ChainRead limit n x s u e) (add-one d) r

-- behind a whole expression
pub unclosed_top : (x : Token) → ((o : Operator) → x ≡ token.Operator o → ⊥) → end_turn [] x ≡ None
unclosed_top (token.Operator o) b = absurd (b o refl)
unclosed_top _ b = refl
