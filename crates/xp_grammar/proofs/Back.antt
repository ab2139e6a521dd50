-- What completes the state after a token completes, with that token, the state before it.
use Rattle.std.proofs.Common.{◌≡◌, ℕ, suc, ◌+◌, ◌≤◌, ◌⊎◌, Bool, true, false, List, [], ◌∷◌, length, refl, ◌∙◌, ap, inl, inr, arith}
use Rattle.xp_tree.specs.declared.terms.Level.TheVariants as level
use Rattle.xp_tree.specs.declared.terms.Operator.{Operator}
use Rattle.xp_tree.specs.declared.terms.Operator.TheVariants as operator
use Rattle.xp_tree.specs.declared.terms.AxisName.{AxisName}
use Rattle.xp_grammar.specs.declared.token.Placed.{Placed}
use Rattle.xp_grammar.specs.declared.token.Token.{Token}
use Rattle.xp_grammar.specs.declared.token.NodeType.{NodeType}
use Rattle.xp_grammar.specs.declared.token.NodeType.TheVariants as node_type
use Rattle.xp_grammar.specs.declared.token.Token.TheVariants as token
use Rattle.xp_grammar.specs.Grammar.{no_sign, sign, IsAxis, no_axis, at_sign, named_axis, star_test, prefix_test, named_test, typed_test, target_test, root_alone, from_root, from_anywhere, from_here, from_filter, dot_step, parent_step, tested_step, slash_steps, double_slash_steps, predicate, filter, a_variable, a_literal, a_number, in_parens, a_call, no_argument, arguments, no_more_arguments, one_more_argument}
use Rattle.xp_grammar.specs.inner.Machine.{Bracket, in_paren, in_predicate, in_arguments, Ending, full, bare, at_root, Mode, want, need_step, need_colons, need_test, type_open, type_inner, type_close, function_open, after, first_of_two, test_turn, axis_turn, step_turn, sign_turn, operand_turn, no_argument_turn, paren_turn, bracket_turn, comma_turn, end_turn, slash_turn, predicate_turn, colons_turn, type_open_turn, type_close_turn, target_turn, function_turn, turn, load}
use Rattle.xp_grammar.proofs.Completes.{SomeChain, SomePath, SomePrimary, Closer, closer, AfterPath, Bare, Full, Ends, Operand, StepsThen, TestThen, NoArguments, TypeThen, WantThen, AfterThen, Rest, RestOf, one_of, nothing_more, bare_of, full_of, whole_of, with_operator}

back_test : (limit : ℕ) (k : List Bracket) (p : Placed) (s : List Placed) (t : Token) → p.token ≡ t →
    RestOf limit (test_turn k t) s → TestThen limit (length k) (Ends limit k) (p ∷ s)
back_test limit k p s token.Star is (room, F) = (s, (_, star_test p s is), F)
back_test limit k p s (token.PrefixStar prefix) is (room, F) = (s, (_, prefix_test p s prefix is), F)
back_test limit k p s (token.Name name) is (room, F) = (s, (_, named_test p s name is), F)
back_test limit k p s (token.NodeType t) is (room, closer q m opens (inl (closer r v closes F))) =
    (v, (_, typed_test p q r v t is opens closes), F)
back_test limit k p s (token.NodeType t) is (room, closer q m opens (inr (pi, (target, closer l w literal (closer r v closes F))))) =
    (v, (_, target_test p q l r v target (is ∙ ap token.NodeType pi) opens literal closes), F)
back_test limit k p s _ is r = absurd r

steps_of : (limit d : ℕ) (Q : List Placed → Type 0) (s t : List Placed) (a : AxisName) → IsAxis s t a →
    TestThen limit d Q t → StepsThen limit d Q s
steps_of limit d Q s t a A (v, (test, T), (w, (ps, R), (x, (ss, M), onward))) =
    (x, (_, tested_step d s t v w x a test ps ss A T R M), onward)

back_axis : (limit : ℕ) (k : List Bracket) (p : Placed) (s : List Placed) (t : Token) → p.token ≡ t →
    RestOf limit (axis_turn k t) s → StepsThen limit (length k) (Ends limit k) (p ∷ s)
back_axis limit k p s token.Dot is (room, (m, (ss, M), onward)) = (m, (_, dot_step (length k) p s m ss is M), onward)
back_axis limit k p s token.DoubleDot is (room, (m, (ss, M), onward)) = (m, (_, parent_step (length k) p s m ss is M), onward)
back_axis limit k p s (token.Axis a) is (room, closer q m colons T) =
    steps_of limit (length k) (Ends limit k) (p ∷ q ∷ m) m a (named_axis p q m a is colons) T
back_axis limit k p s token.At is (room, T) = steps_of limit (length k) (Ends limit k) (p ∷ s) s _ (at_sign p s is) T
back_axis limit k p s _ is r = absurd r

back_step : (limit : ℕ) (k : List Bracket) (p : Placed) (s : List Placed) →
    RestOf limit (step_turn k p.token) s → StepsThen limit (length k) (Ends limit k) (p ∷ s)
back_step limit k p s r =
    elim (one_of limit (test_turn k p.token) (axis_turn k p.token) s r) [
      | inl x ↦ steps_of limit (length k) (Ends limit k) (p ∷ s) (p ∷ s) _ (no_axis (p ∷ s)) (back_test limit k p s p.token refl x)
      | inr y ↦ back_axis limit k p s p.token refl y
    ]

-- a path at its front is an operand without a sign
of_path : (limit : ℕ) (b : Bool) (j d : ℕ) (Q : List Placed → Type 0) (s v : List Placed) → d + j ≤ limit →
    SomePath limit d s v → AfterPath limit d Q v → Operand limit b j d Q s
of_path limit b j d Q s v room W onward = record {
  count = 0;
  m = s;
  v = v;
  minus = no_sign s;
  room = omega (arith, room);
  only = λ _. refl;
  way = W;
  onward = onward;
}

pub of_steps : (limit : ℕ) (b : Bool) (j d : ℕ) (Q : List Placed → Type 0) (s : List Placed) → d + j ≤ limit →
    StepsThen limit d Q s → Operand limit b j d Q s
of_steps limit b j d Q s room (v, (ss, D), onward) =
    of_path limit b j d Q s v room (_, from_here d s v ss D) onward

of_primary : (limit : ℕ) (b : Bool) (j d : ℕ) (Q : List Placed → Type 0) (s m : List Placed) → d + j ≤ limit →
    SomePrimary limit d s m → Full limit d Q m → Operand limit b j d Q s
of_primary limit b j d Q s m room (e, D) (v, (ps, R), (w, (ss, M), onward)) =
    of_path limit b j d Q s w room (_, from_filter d s v w _ ss (filter d s m v e ps D R) M) onward

back_sign : (limit : ℕ) (o : Operator) (b : Bool) (j : ℕ) (k : List Bracket) (p : Placed) (s : List Placed) →
    p.token ≡ token.Operator o → RestOf limit (sign_turn o b j k) s →
    Operand limit b j (length k) (Ends limit k) (p ∷ s)
back_sign limit operator.Minus true j k p s is (room, o) = record {
  count = suc o.count;
  m = o.m;
  v = o.v;
  minus = sign o.count p s o.m is o.minus;
  room = omega (arith, o.room);
  only = λ e. absurd (cc);
  way = o.way;
  onward = o.onward;
}
back_sign limit operator.Minus false j k p s is r = absurd r
back_sign limit _ b j k p s is r = absurd r

parens_of : (limit : ℕ) (b : Bool) (j : ℕ) (k : List Bracket) (p : Placed) (s : List Placed) → length k + j ≤ limit →
    p.token ≡ token.OpenParen → suc (length k) ≤ limit →
    (u : List Placed) × SomeChain limit level.Or (suc (length k)) s u × Ends limit (in_paren ∷ k) u →
    Operand limit b j (length k) (Ends limit k) (p ∷ s)
parens_of limit b j k p s room is inner (u, (e, D), closer q m closes F) =
    of_primary limit b j (length k) (Ends limit k) (p ∷ s) m room (_, in_parens (length k) p q s m e is inner D closes) F

call_of : (limit : ℕ) (b : Bool) (j : ℕ) (k : List Bracket) (p q : Placed) (m : List Placed) (name : List ℕ) →
    length k + j ≤ limit → p.token ≡ token.Function name → q.token ≡ token.OpenParen → suc (length k) ≤ limit →
    (u : List Placed) × SomeChain limit level.Or (suc (length k)) m u × Ends limit (in_arguments ∷ k) u →
    Operand limit b j (length k) (Ends limit k) (p ∷ q ∷ m)
call_of limit b j k p q m name room is opens inner (u, (e, D), (v, (es, M), closer r w closes F)) =
    of_primary limit b j (length k) (Ends limit k) (p ∷ q ∷ m) w room
    (_, a_call (length k) p q r m w name _ is opens inner (arguments (suc (length k)) m u (r ∷ w) e es D M) closes) F

comma_of : (limit : ℕ) (k : List Bracket) (p : Placed) (s : List Placed) → p.token ≡ token.Comma →
    (u : List Placed) × SomeChain limit level.Or (suc (length k)) s u × Ends limit (in_arguments ∷ k) u →
    Ends limit (in_arguments ∷ k) (p ∷ s)
comma_of limit k p s is (u, (e, D), (v, (es, M), ends)) = (v, (_, one_more_argument (suc (length k)) p s u v e es is D M), ends)

predicate_of : (limit : ℕ) (k : List Bracket) (p : Placed) (s : List Placed) → p.token ≡ token.OpenBracket →
    suc (length k) ≤ limit →
    (u : List Placed) × SomeChain limit level.Or (suc (length k)) s u × Ends limit (in_predicate ∷ k) u →
    Full limit (length k) (Ends limit k) (p ∷ s)
predicate_of limit k p s is inner (u, (e, D), closer q m closes (v, (ps, R), b)) =
    (v, (_, predicate (length k) p q s m v e ps is inner D closes R), b)

back_operand : (limit : ℕ) (b : Bool) (j : ℕ) (k : List Bracket) (p : Placed) (s : List Placed) (t : Token) →
    length k + j ≤ limit → p.token ≡ t → RestOf limit (operand_turn b j k t) s →
    Operand limit b j (length k) (Ends limit k) (p ∷ s)
unfolding load
back_operand limit b j k p s (token.Operator o) room is r = back_sign limit o b j k p s is r
back_operand limit b j k p s token.Slash room is (fits, inl onward) =
    of_path limit b j (length k) (Ends limit k) (p ∷ s) s room (_, root_alone (length k) p s is) onward
back_operand limit b j k p s token.Slash room is (fits, inr (v, (ss, D), onward)) =
    of_path limit b j (length k) (Ends limit k) (p ∷ s) v room (_, from_root (length k) p s v ss is D) onward
back_operand limit b j k p s token.DoubleSlash room is (fits, (v, (ss, D), onward)) =
    of_path limit b j (length k) (Ends limit k) (p ∷ s) v room (_, from_anywhere (length k) p s v ss is D) onward
back_operand limit b j k p s token.OpenParen room is (fits, o) =
    parens_of limit b j k p s room is (omega (arith, fits))
    (whole_of limit true (length (in_paren ∷ k)) (Ends limit (in_paren ∷ k)) s o)
back_operand limit b j k p s (token.Function name) room is (fits, closer q m opens (inl o)) =
    call_of limit b j k p q m name room is opens fits
    (whole_of limit true (length (in_arguments ∷ k)) (Ends limit (in_arguments ∷ k)) m o)
back_operand limit b j k p s (token.Function name) room is (fits, closer q m opens (inr (closer r w closes F))) =
    of_primary limit b j (length k) (Ends limit k) (p ∷ q ∷ r ∷ w) w room
    (_, a_call (length k) p q r (r ∷ w) w name _ is opens fits (no_argument (suc (length k)) (r ∷ w)) closes) F
back_operand limit b j k p s (token.Variable name) room is (fits, F) =
    of_primary limit b j (length k) (Ends limit k) (p ∷ s) s room (_, a_variable (length k) p s name is) F
back_operand limit b j k p s (token.Literal value) room is (fits, F) =
    of_primary limit b j (length k) (Ends limit k) (p ∷ s) s room (_, a_literal (length k) p s value is) F
back_operand limit b j k p s (token.Number digits) room is (fits, F) =
    of_primary limit b j (length k) (Ends limit k) (p ∷ s) s room (_, a_number (length k) p s digits is) F
back_operand limit b j k p s _ room is r = absurd r

back_paren : (limit : ℕ) (k : List Bracket) (p : Placed) (s : List Placed) → p.token ≡ token.CloseParen →
    RestOf limit (paren_turn k) s → Ends limit k (p ∷ s)
back_paren limit (in_paren ∷ k) p s is (room, F) = closer p s is F
back_paren limit (in_arguments ∷ k) p s is (room, F) =
    (p ∷ s, (_, no_more_arguments (suc (length k)) (p ∷ s)), closer p s is F)
back_paren limit [] p s is r = absurd r
back_paren limit (in_predicate ∷ k) p s is r = absurd r

back_bracket : (limit : ℕ) (k : List Bracket) (p : Placed) (s : List Placed) → p.token ≡ token.CloseBracket →
    RestOf limit (bracket_turn k) s → Ends limit k (p ∷ s)
back_bracket limit (in_predicate ∷ k) p s is (room, F) = closer p s is F
back_bracket limit [] p s is r = absurd r
back_bracket limit (in_paren ∷ k) p s is r = absurd r
back_bracket limit (in_arguments ∷ k) p s is r = absurd r

back_comma : (limit : ℕ) (k : List Bracket) (p : Placed) (s : List Placed) → p.token ≡ token.Comma →
    RestOf limit (comma_turn k) s → Ends limit k (p ∷ s)
back_comma limit (in_arguments ∷ k) p s is (room, o) =
    comma_of limit k p s is (whole_of limit true (length (in_arguments ∷ k)) (Ends limit (in_arguments ∷ k)) s o)
back_comma limit [] p s is r = absurd r
back_comma limit (in_paren ∷ k) p s is r = absurd r
back_comma limit (in_predicate ∷ k) p s is r = absurd r

back_end : (limit : ℕ) (k : List Bracket) (p : Placed) (s : List Placed) (t : Token) → p.token ≡ t →
    RestOf limit (end_turn k t) s → AfterPath limit (length k) (Ends limit k) (p ∷ s)
back_end limit k p s (token.Operator o) is (room, x) = with_operator limit (length k) (Ends limit k) p s o is x
back_end limit k p s token.CloseParen is r = nothing_more limit (length k) (Ends limit k) (p ∷ s) (back_paren limit k p s is r)
back_end limit k p s token.CloseBracket is r = nothing_more limit (length k) (Ends limit k) (p ∷ s) (back_bracket limit k p s is r)
back_end limit k p s token.Comma is r = nothing_more limit (length k) (Ends limit k) (p ∷ s) (back_comma limit k p s is r)
back_end limit k p s _ is r = absurd r

back_slash : (limit : ℕ) (k : List Bracket) (p : Placed) (s : List Placed) (t : Token) → p.token ≡ t →
    RestOf limit (slash_turn k t) s → Bare limit (length k) (Ends limit k) (p ∷ s)
back_slash limit k p s token.Slash is (room, (m, (ss, D), onward)) = (m, (_, slash_steps (length k) p s m ss is D), onward)
back_slash limit k p s token.DoubleSlash is (room, (m, (ss, D), onward)) = (m, (_, double_slash_steps (length k) p s m ss is D), onward)
back_slash limit k p s _ is r = absurd r

back_predicate : (limit : ℕ) (k : List Bracket) (p : Placed) (s : List Placed) (t : Token) → p.token ≡ t →
    RestOf limit (predicate_turn k t) s → Full limit (length k) (Ends limit k) (p ∷ s)
unfolding load
back_predicate limit k p s token.OpenBracket is (fits, o) =
    predicate_of limit k p s is (omega (arith, fits))
    (whole_of limit true (length (in_predicate ∷ k)) (Ends limit (in_predicate ∷ k)) s o)
back_predicate limit k p s _ is r = absurd r

back_bare : (limit : ℕ) (k : List Bracket) (p : Placed) (s : List Placed) →
    RestOf limit (first_of_two (slash_turn k p.token) (end_turn k p.token)) s →
    Bare limit (length k) (Ends limit k) (p ∷ s)
back_bare limit k p s r =
    elim (one_of limit (slash_turn k p.token) (end_turn k p.token) s r) [
      | inl x ↦ back_slash limit k p s p.token refl x
      | inr y ↦ bare_of limit (length k) (Ends limit k) (p ∷ s) (back_end limit k p s p.token refl y)
    ]

back_after : (limit : ℕ) (e : Ending) (k : List Bracket) (p : Placed) (s : List Placed) →
    RestOf limit (turn (after e) k p.token) s → AfterThen limit e (length k) (Ends limit k) (p ∷ s)
back_after limit full k p s r =
    elim (one_of limit (predicate_turn k p.token) (first_of_two (slash_turn k p.token) (end_turn k p.token)) s r) [
      | inl x ↦ back_predicate limit k p s p.token refl x
      | inr y ↦ full_of limit (length k) (Ends limit k) (p ∷ s) (back_bare limit k p s y)
    ]
back_after limit bare k p s r = back_bare limit k p s r
back_after limit at_root k p s r =
    elim (one_of limit (step_turn k p.token) (end_turn k p.token) s r) [
      | inl x ↦ inr (back_step limit k p s x)
      | inr y ↦ inl (back_end limit k p s p.token refl y)
    ]

back_plain_want : (limit : ℕ) (b : Bool) (j : ℕ) (k : List Bracket) (p : Placed) (s : List Placed) →
    length k + j ≤ limit → RestOf limit (first_of_two (operand_turn b j k p.token) (step_turn k p.token)) s →
    Operand limit b j (length k) (Ends limit k) (p ∷ s)
back_plain_want limit b j k p s room r =
    elim (one_of limit (operand_turn b j k p.token) (step_turn k p.token) s r) [
      | inl x ↦ back_operand limit b j k p s p.token room refl x
      | inr y ↦ of_steps limit b j (length k) (Ends limit k) (p ∷ s) room (back_step limit k p s y)
    ]

back_no_argument : (limit : ℕ) (t : Token) (c : Bool) (k : List Bracket) (p : Placed) (s : List Placed) → p.token ≡ t →
    RestOf limit (no_argument_turn t c k) s → (c ≡ true) × NoArguments limit k (p ∷ s)
back_no_argument limit token.CloseParen true (in_arguments ∷ k) p s is (room, F) = (refl, closer p s is F)
back_no_argument limit token.CloseParen true [] p s is r = absurd r
back_no_argument limit token.CloseParen true (in_paren ∷ k) p s is r = absurd r
back_no_argument limit token.CloseParen true (in_predicate ∷ k) p s is r = absurd r
back_no_argument limit token.CloseParen false k p s is r = absurd r
back_no_argument limit _ c k p s is r = absurd r

back_want : (limit : ℕ) (b : Bool) (j : ℕ) (c : Bool) (k : List Bracket) (p : Placed) (s : List Placed) →
    length k + j ≤ limit →
    RestOf limit (no_argument_turn p.token c k) s ⊎ RestOf limit (first_of_two (operand_turn b j k p.token) (step_turn k p.token)) s →
    WantThen limit b j c k (p ∷ s)
back_want limit b j true k p s room (inl x) = inr (back_no_argument limit p.token true k p s refl x).1
back_want limit b j true k p s room (inr y) = inl (back_plain_want limit b j k p s room y)
back_want limit b j false k p s room (inl x) = let h : false ≡ true = (back_no_argument limit p.token false k p s refl x).0 in absurd (cc)
back_want limit b j false k p s room (inr y) = back_plain_want limit b j k p s room y

back_colons : (limit : ℕ) (k : List Bracket) (p : Placed) (s : List Placed) (t : Token) → p.token ≡ t →
    RestOf limit (colons_turn k t) s → Closer token.DoubleColon (TestThen limit (length k) (Ends limit k)) (p ∷ s)
back_colons limit k p s token.DoubleColon is (room, x) = closer p s is x
back_colons limit k p s _ is r = absurd r

back_type_open : (limit : ℕ) (nt : NodeType) (k : List Bracket) (p : Placed) (s : List Placed) (t : Token) → p.token ≡ t →
    RestOf limit (type_open_turn nt k t) s → Closer token.OpenParen (TypeThen limit nt (length k) (Ends limit k)) (p ∷ s)
back_type_open limit nt k p s token.OpenParen is (room, x) = closer p s is x
back_type_open limit nt k p s _ is r = absurd r

back_type_close : (limit : ℕ) (k : List Bracket) (p : Placed) (s : List Placed) (t : Token) → p.token ≡ t →
    RestOf limit (type_close_turn k t) s → Closer token.CloseParen (Full limit (length k) (Ends limit k)) (p ∷ s)
back_type_close limit k p s token.CloseParen is (room, x) = closer p s is x
back_type_close limit k p s _ is r = absurd r

back_target : (limit : ℕ) (nt : NodeType) (k : List Bracket) (p : Placed) (s : List Placed) (t : Token) → p.token ≡ t →
    RestOf limit (target_turn nt k t) s →
    (nt ≡ node_type.Pi) × ((target : List ℕ) × Closer (token.Literal target) (Closer token.CloseParen (Full limit (length k) (Ends limit k))) (p ∷ s))
back_target limit node_type.Pi k p s (token.Literal target) is (room, x) = (refl, (target, closer p s is x))
back_target limit node_type.Pi k p s _ is r = absurd r
back_target limit node_type.Comment k p s _ is r = absurd r
back_target limit node_type.Chars k p s _ is r = absurd r
back_target limit node_type.Node k p s _ is r = absurd r

back_function : (limit : ℕ) (k : List Bracket) (p : Placed) (s : List Placed) (t : Token) → p.token ≡ t →
    RestOf limit (function_turn k t) s → Closer token.OpenParen (WantThen limit true 0 true (in_arguments ∷ k)) (p ∷ s)
back_function limit k p s token.OpenParen is (room, x) = closer p s is x
back_function limit k p s _ is r = absurd r

-- at every state
pub back : (limit : ℕ) (m : Mode) (k : List Bracket) (p : Placed) (s : List Placed) → load m k ≤ limit →
    RestOf limit (turn m k p.token) s → Rest limit m k (p ∷ s)
unfolding load
back limit (want b j c) k p s room r =
    back_want limit b j c k p s room
    (one_of limit (no_argument_turn p.token c k) (first_of_two (operand_turn b j k p.token) (step_turn k p.token)) s r)
back limit need_step k p s room r = back_step limit k p s r
back limit need_colons k p s room r = back_colons limit k p s p.token refl r
back limit need_test k p s room r = back_test limit k p s p.token refl r
back limit (type_open t) k p s room r = back_type_open limit t k p s p.token refl r
back limit (type_inner t) k p s room r =
    elim (one_of limit (type_close_turn k p.token) (target_turn t k p.token) s r) [
      | inl x ↦ inl (back_type_close limit k p s p.token refl x)
      | inr y ↦ inr (back_target limit t k p s p.token refl y)
    ]
back limit type_close k p s room r = back_type_close limit k p s p.token refl r
back limit function_open k p s room r = back_function limit k p s p.token refl r
back limit (after e) k p s room r = back_after limit e k p s r
