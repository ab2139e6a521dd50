-- What completes the state after a token completes, with that token, the state before it.
use Rattle.std.proofs.Common.{◌≡◌, ℕ, suc, ◌-◌, ◌≤◌, ◌⊎◌, Bool, true, false, if◌then◌else◌, List, [], ◌∷◌, Option, None, Some, refl, sym, ◌∙◌, ap, subst, inl, inr, arith}
use Rattle.std.specs.Prelude.{codes}
use Rattle.std.specs.Str.{bytes_eq}
use Rattle.std.proofs.lemmas.Slice.Eq.{bytes_eq-Decides}
use Rattle.xp_tree.specs.declared.terms.AxisName.{AxisName}
use Rattle.xp_tree.specs.declared.terms.AxisName.TheVariants as axis
use Rattle.xp_tree.specs.declared.terms.Operator.{Operator}
use Rattle.xp_tree.specs.declared.terms.Operator.TheVariants as operator
use Rattle.xp_tree.specs.declared.pattern.Join.TheVariants as join
use Rattle.xp_grammar.specs.declared.token.Placed.{Placed}
use Rattle.xp_grammar.specs.declared.token.Token.{Token}
use Rattle.xp_grammar.specs.declared.token.NodeType.{NodeType}
use Rattle.xp_grammar.specs.declared.token.NodeType.TheVariants as node_type
use Rattle.xp_grammar.specs.declared.token.Token.TheVariants as token
use Rattle.xp_grammar.specs.Grammar.{IsAxis, no_axis, at_sign, named_axis, star_test, prefix_test, named_test, typed_test, target_test}
use Rattle.xp_grammar.specs.inner.Machine.{Bracket, Ending, full, bare, at_root, Mode, want, need_step, need_colons, need_test, type_open, type_inner, type_close, function_open, after, Move, test_turn, type_close_turn, target_turn, colons_turn, type_open_turn, first_of_two, turn, load}
use Rattle.xp_grammar.proofs.Completes.{closer, Closer, Ends, Rest, RestOf, nothing_more, bare_of, full_of}
use Rattle.xp_grammar.proofs.Back.{back}
use Rattle.xp_grammar.specs.PatternGrammar.{pattern_axis, step_pattern, relative, slash_steps, double_slash_steps, by_id, by_key, root_alone, from_root, from_anywhere, from_here, from_id_key, pattern, more_paths}
use Rattle.xp_grammar.specs.inner.PatternMachine.{TestPart, colons, test, opened, inner, close, mode_of, Place, want_path, want_step, behind_root, in_test, id_open, key_open, key_name, key_comma, call_value, call_close, behind_call, behind_step, inside, first_place, test_move, named_axis_turn, axis_turn, step_turn, path_turn, operator_turn, union_turn, slash_turn, bracket_turn, open_turn, literal_turn, comma_turn, close_turn, inside_move, bracket_close_turn, closing_turn, behind_turn, pattern_turn, pattern_load}
use Rattle.xp_grammar.proofs.PatternCompletes.{PathsThen, StepsMay, PredicatesMay, TestMust, StepMust, PathMust, TypeMust, PartMust, CloseMust, ValueMust, CommaMust, NameMust, InsideThen, PatternRest, PatternRestOf, steps_may, predicates_may, predicate_of}

one_place : (limit : ℕ) (a b : Option Place) (s : List Placed) → PatternRestOf limit (first_place a b) s →
    PatternRestOf limit a s ⊎ PatternRestOf limit b s
one_place limit None b s r = inr r
one_place limit (Some a) b s r = inl r

-- node tests
back_test : (limit : ℕ) (p : Placed) (s : List Placed) (t : Token) → p.token ≡ t → PatternRestOf limit (test_move (test_turn [] t)) s →
    TestMust limit (p ∷ s)
back_test limit p s token.Star is (room, behind) = (s, (_, star_test p s is), behind)
back_test limit p s (token.PrefixStar prefix) is (room, behind) = (s, (_, prefix_test p s prefix is), behind)
back_test limit p s (token.Name name) is (room, behind) = (s, (_, named_test p s name is), behind)
back_test limit p s (token.NodeType t) is (room, closer q m opens (inl (closer r v closes behind))) =
    (v, (_, typed_test p q r v t is opens closes), behind)
back_test limit p s (token.NodeType t) is (room, closer q m opens (inr (pi, (target, closer l w literal (closer r v closes behind))))) =
    (v, (_, target_test p q l r v target (is ∙ ap token.NodeType pi) opens literal closes), behind)
back_test limit p s _ is r = absurd r

back_colons : (limit : ℕ) (p : Placed) (s : List Placed) (t : Token) → p.token ≡ t → PatternRestOf limit (test_move (colons_turn [] t)) s →
    Closer token.DoubleColon (TestMust limit) (p ∷ s)
back_colons limit p s token.DoubleColon is (room, behind) = closer p s is behind
back_colons limit p s _ is r = absurd r

back_opened : (limit : ℕ) (n : NodeType) (p : Placed) (s : List Placed) (t : Token) → p.token ≡ t →
    PatternRestOf limit (test_move (type_open_turn n [] t)) s → Closer token.OpenParen (TypeMust limit n) (p ∷ s)
back_opened limit n p s token.OpenParen is (room, behind) = closer p s is behind
back_opened limit n p s _ is r = absurd r

back_close : (limit : ℕ) (p : Placed) (s : List Placed) (t : Token) → p.token ≡ t → PatternRestOf limit (test_move (type_close_turn [] t)) s →
    Closer token.CloseParen (PredicatesMay limit) (p ∷ s)
back_close limit p s token.CloseParen is (room, behind) = closer p s is behind
back_close limit p s _ is r = absurd r

back_target : (limit : ℕ) (n : NodeType) (p : Placed) (s : List Placed) (t : Token) → p.token ≡ t →
    PatternRestOf limit (test_move (target_turn n [] t)) s →
    (n ≡ node_type.Pi) × ((target : List ℕ) × Closer (token.Literal target) (Closer token.CloseParen (PredicatesMay limit)) (p ∷ s))
back_target limit node_type.Pi p s (token.Literal target) is (room, behind) = (refl, (target, closer p s is behind))
back_target limit node_type.Pi p s _ is r = absurd r
back_target limit node_type.Comment p s _ is r = absurd r
back_target limit node_type.Chars p s _ is r = absurd r
back_target limit node_type.Node p s _ is r = absurd r

one_move : (limit : ℕ) (a b : Option Move) (s : List Placed) → PatternRestOf limit (test_move (first_of_two a b)) s →
    PatternRestOf limit (test_move a) s ⊎ PatternRestOf limit (test_move b) s
one_move limit None b s r = inr r
one_move limit (Some mv) b s r = inl r

back_part : (limit : ℕ) (part : TestPart) (p : Placed) (s : List Placed) → PatternRestOf limit (test_move (turn (mode_of part) [] p.token)) s →
    PartMust limit part (p ∷ s)
back_part limit colons p s r = back_colons limit p s p.token refl r
back_part limit test p s r = back_test limit p s p.token refl r
back_part limit (opened t) p s r = back_opened limit t p s p.token refl r
back_part limit (inner t) p s r =
    elim (one_move limit (type_close_turn [] p.token) (target_turn t [] p.token) s r) [
      | inl x ↦ inl (back_close limit p s p.token refl x)
      | inr y ↦ inr (back_target limit t p s p.token refl y)
    ]
back_part limit close p s r = back_close limit p s p.token refl r

-- steps
steps_of : (limit : ℕ) (s t : List Placed) (x : AxisName) (is_attribute : Bool) → IsAxis s t x → pattern_axis x ≡ Some is_attribute →
    TestMust limit t → StepMust limit s
steps_of limit s t x is_attribute A known (v, (k, T), (w, (ps, P), (m, (ss, M), behind))) =
    (m, (λ j. (_, relative j s w m _ ss (step_pattern j s t v w x is_attribute k ps A known T P) M)), behind)

back_named : (limit : ℕ) (p : Placed) (s : List Placed) (x : AxisName) (o : Option Bool) → p.token ≡ token.Axis x → pattern_axis x ≡ o →
    PatternRestOf limit (named_axis_turn o) s → StepMust limit (p ∷ s)
back_named limit p s x None is known r = absurd r
back_named limit p s x (Some is_attribute) is known (room, closer q m opens behind) =
    steps_of limit (p ∷ q ∷ m) m x is_attribute (named_axis p q m x is opens) known behind

back_axis : (limit : ℕ) (p : Placed) (s : List Placed) (t : Token) → p.token ≡ t → PatternRestOf limit (axis_turn t) s → StepMust limit (p ∷ s)
back_axis limit p s (token.Axis x) is r = back_named limit p s x (pattern_axis x) is refl r
back_axis limit p s token.At is (room, behind) = steps_of limit (p ∷ s) s axis.Attribute true (at_sign p s is) refl behind
back_axis limit p s _ is r = absurd r

back_step : (limit : ℕ) (p : Placed) (s : List Placed) → PatternRestOf limit (step_turn p.token) s → StepMust limit (p ∷ s)
back_step limit p s r =
    elim (one_place limit (test_move (test_turn [] p.token)) (axis_turn p.token) s r) [
      | inl x ↦ steps_of limit (p ∷ s) (p ∷ s) axis.Child false (no_axis (p ∷ s)) refl (back_test limit p s p.token refl x)
      | inr y ↦ back_axis limit p s p.token refl y
    ]

-- after parts of a path pattern
back_operator : (limit : ℕ) (p : Placed) (s : List Placed) (o : Operator) → p.token ≡ token.Operator o →
    PatternRestOf limit (operator_turn o) s → PathsThen limit (p ∷ s)
back_operator limit p s operator.Union is (room, (ps, D)) = (_, more_paths p s [] ps is D)
back_operator limit p s _ is r = absurd r

back_union : (limit : ℕ) (p : Placed) (s : List Placed) (t : Token) → p.token ≡ t → PatternRestOf limit (union_turn t) s → PathsThen limit (p ∷ s)
back_union limit p s (token.Operator o) is r = back_operator limit p s o is r
back_union limit p s _ is r = absurd r

back_slash : (limit : ℕ) (p : Placed) (s : List Placed) (t : Token) → p.token ≡ t → PatternRestOf limit (slash_turn t) s → StepsMay limit (p ∷ s)
back_slash limit p s token.Slash is (room, (m, D, behind)) =
    let (ss, R) = D join.Slash in
    (m, (_, slash_steps p s m ss is R), behind)
back_slash limit p s token.DoubleSlash is (room, (m, D, behind)) =
    let (ss, R) = D join.DoubleSlash in
    (m, (_, double_slash_steps p s m ss is R), behind)
back_slash limit p s _ is r = absurd r

back_behind : (limit : ℕ) (p : Placed) (s : List Placed) → PatternRestOf limit (behind_turn p.token) s → StepsMay limit (p ∷ s)
back_behind limit p s r =
    elim (one_place limit (slash_turn p.token) (union_turn p.token) s r) [
      | inl x ↦ back_slash limit p s p.token refl x
      | inr y ↦ steps_may limit (p ∷ s) (back_union limit p s p.token refl y)
    ]

back_bracket : (limit : ℕ) (p : Placed) (s : List Placed) (t : Token) → p.token ≡ t → PatternRestOf limit (bracket_turn t) s →
    PredicatesMay limit (p ∷ s)
back_bracket limit p s token.OpenBracket is (room, x) = predicate_of limit p s is x
back_bracket limit p s _ is r = absurd r

back_behind_step : (limit : ℕ) (p : Placed) (s : List Placed) → PatternRestOf limit (pattern_turn behind_step p.token) s → PredicatesMay limit (p ∷ s)
back_behind_step limit p s r =
    elim (one_place limit (bracket_turn p.token) (behind_turn p.token) s r) [
      | inl x ↦ back_bracket limit p s p.token refl x
      | inr y ↦ predicates_may limit (p ∷ s) (back_behind limit p s y)
    ]

back_root : (limit : ℕ) (p : Placed) (s : List Placed) → PatternRestOf limit (pattern_turn behind_root p.token) s →
    PathsThen limit (p ∷ s) ⊎ StepMust limit (p ∷ s)
back_root limit p s r =
    elim (one_place limit (step_turn p.token) (union_turn p.token) s r) [
      | inl x ↦ inr (back_step limit p s x)
      | inr y ↦ inl (back_union limit p s p.token refl y)
    ]

-- `id` and `key`
back_open : (limit : ℕ) (a : Place) (p : Placed) (s : List Placed) (t : Token) → p.token ≡ t → PatternRestOf limit (open_turn a t) s →
    Closer token.OpenParen (PatternRest limit a) (p ∷ s)
back_open limit a p s token.OpenParen is (room, behind) = closer p s is behind
back_open limit a p s _ is r = absurd r

back_literal : (limit : ℕ) (a : Place) (p : Placed) (s : List Placed) (t : Token) → p.token ≡ t → PatternRestOf limit (literal_turn a t) s →
    (value : List ℕ) × Closer (token.Literal value) (PatternRest limit a) (p ∷ s)
back_literal limit a p s (token.Literal value) is (room, behind) = (value, closer p s is behind)
back_literal limit a p s _ is r = absurd r

back_comma : (limit : ℕ) (p : Placed) (s : List Placed) (t : Token) → p.token ≡ t → PatternRestOf limit (comma_turn t) s →
    CommaMust limit (p ∷ s)
back_comma limit p s token.Comma is (room, behind) = closer p s is behind
back_comma limit p s _ is r = absurd r

back_call_close : (limit : ℕ) (p : Placed) (s : List Placed) (t : Token) → p.token ≡ t → PatternRestOf limit (close_turn t) s →
    CloseMust limit (p ∷ s)
back_call_close limit p s token.CloseParen is (room, behind) = closer p s is behind
back_call_close limit p s _ is r = absurd r

id_of : (limit : ℕ) (p : Placed) (s : List Placed) → p.token ≡ token.Function (codes "id") → 1 ≤ limit →
    Closer token.OpenParen (ValueMust limit) s → PathMust limit (p ∷ s)
id_of limit p s is room (closer q t opens (value, closer l v literal (closer r w closes (m, (ss, M), (ps, D))))) =
    (_, pattern (p ∷ q ∷ l ∷ r ∷ w) m [] _ ps (from_id_key (p ∷ q ∷ l ∷ r ∷ w) w m _ ss (by_id p q l r w value is opens room literal closes) M) D)

key_of : (limit : ℕ) (p : Placed) (s : List Placed) → p.token ≡ token.Function (codes "key") → 1 ≤ limit →
    Closer token.OpenParen (NameMust limit) s → PathMust limit (p ∷ s)
key_of limit p s is room (closer q t opens (name, closer n x named (closer c y comma (value, closer l v literal (closer r w closes (m, (ss, M), (ps, D))))))) = (
  _,
  pattern (p ∷ q ∷ n ∷ c ∷ l ∷ r ∷ w) m [] _ ps
      (from_id_key (p ∷ q ∷ n ∷ c ∷ l ∷ r ∷ w) w m _ ss (by_key p q n c l r w name value is opens room named comma literal closes) M) D,
)

back_key : (limit : ℕ) (p : Placed) (s : List Placed) (name : List ℕ) (b : Bool) → bytes_eq name (codes "key") ≡ b → p.token ≡ token.Function name →
    PatternRestOf limit (if b then Some key_open else None) s → PathMust limit (p ∷ s)
unfolding pattern_load
back_key limit p s name true same is (room, behind) = key_of limit p s (is ∙ ap token.Function ((bytes_eq-Decides name (codes "key")).0 same)) room behind
back_key limit p s name false same is r = absurd r

back_id : (limit : ℕ) (p : Placed) (s : List Placed) (name : List ℕ) (b : Bool) → bytes_eq name (codes "id") ≡ b → p.token ≡ token.Function name →
    PatternRestOf limit (if b then Some id_open else (if bytes_eq name (codes "key") then Some key_open else None)) s → PathMust limit (p ∷ s)
unfolding pattern_load
back_id limit p s name true same is (room, behind) = id_of limit p s (is ∙ ap token.Function ((bytes_eq-Decides name (codes "id")).0 same)) room behind
back_id limit p s name false same is r = back_key limit p s name (bytes_eq name (codes "key")) refl is r

back_path : (limit : ℕ) (p : Placed) (s : List Placed) (t : Token) → p.token ≡ t → PatternRestOf limit (path_turn t) s → PathMust limit (p ∷ s)
back_path limit p s token.Slash is (room, inl (ps, D)) = (_, pattern (p ∷ s) s [] _ ps (root_alone p s is) D)
back_path limit p s token.Slash is (room, inr (m, R, (ps, D))) =
    let (ss, S) = R join.Slash in
    (_, pattern (p ∷ s) m [] _ ps (from_root p s m ss is S) D)
back_path limit p s token.DoubleSlash is (room, (m, R, (ps, D))) =
    let (ss, S) = R join.DoubleSlash in
    (_, pattern (p ∷ s) m [] _ ps (from_anywhere p s m ss is S) D)
back_path limit p s (token.Function name) is r = back_id limit p s name (bytes_eq name (codes "id")) refl is r
back_path limit p s _ is r = absurd r

here_of : (limit : ℕ) (s : List Placed) → StepMust limit s → PathMust limit s
here_of limit s (m, R, (ps, D)) =
    let (ss, S) = R join.Nothing in
    (_, pattern s m [] _ ps (from_here s m ss S) D)

back_want_path : (limit : ℕ) (p : Placed) (s : List Placed) → PatternRestOf limit (pattern_turn want_path p.token) s → PathMust limit (p ∷ s)
back_want_path limit p s r =
    elim (one_place limit (path_turn p.token) (step_turn p.token) s r) [
      | inl x ↦ back_path limit p s p.token refl x
      | inr y ↦ here_of limit (p ∷ s) (back_step limit p s y)
    ]

-- within a predicate
back_inside : (limit : ℕ) (m : Mode) (k : List Bracket) (p : Placed) (s : List Placed) (o : Option Move) → turn m k p.token ≡ o →
    suc (load m k) ≤ limit → PatternRestOf limit (inside_move o) s → InsideThen limit m k (p ∷ s)
unfolding pattern_load
back_inside limit m k p s None is room r = absurd r
back_inside limit m k p s (Some mv) is room (fits, x) = record {
  less = x.less;
  one_less = x.one_less;
  here = p ∷ x.here;
  bracket = x.bracket;
  onward = x.onward;
  is = ap (λ t. p ∷ t) x.is;
  closes = x.closes;
  rest =
      back x.less m k p x.here (omega (arith, room, x.one_less))
      (subst (λ o. RestOf x.less o x.here) (sym is) (omega (arith, fits, x.one_less), x.rest));
  behind = x.behind;
}

rest_at_end : (limit : ℕ) (e : Ending) → Rest limit (after e) [] []
rest_at_end limit full = full_of limit 0 (Ends limit []) [] (bare_of limit 0 (Ends limit []) [] (nothing_more limit 0 (Ends limit []) [] refl))
rest_at_end limit bare = bare_of limit 0 (Ends limit []) [] (nothing_more limit 0 (Ends limit []) [] refl)
rest_at_end limit at_root = inl (nothing_more limit 0 (Ends limit []) [] refl)

back_bracket_close : (limit : ℕ) (e : Ending) (p : Placed) (s : List Placed) (t : Token) → p.token ≡ t → 1 ≤ limit →
    PatternRestOf limit (bracket_close_turn t) s → InsideThen limit (after e) [] (p ∷ s)
back_bracket_close limit e p s token.CloseBracket is room (fits, behind) = record {
  less = limit - 1;
  one_less = omega (arith, room);
  here = [];
  bracket = p;
  onward = s;
  is = refl;
  closes = is;
  rest = rest_at_end (limit - 1) e;
  behind = behind;
}
back_bracket_close limit e p s _ is room r = absurd r

back_closing : (limit : ℕ) (m : Mode) (k : List Bracket) (p : Placed) (s : List Placed) → 1 ≤ limit →
    PatternRestOf limit (closing_turn m k p.token) s → InsideThen limit m k (p ∷ s)
back_closing limit (after e) [] p s room r = back_bracket_close limit e p s p.token refl room r
back_closing limit (after e) (b ∷ k) p s room r = absurd r
back_closing limit (want signs count closes) k p s room r = absurd r
back_closing limit need_step k p s room r = absurd r
back_closing limit need_colons k p s room r = absurd r
back_closing limit need_test k p s room r = absurd r
back_closing limit (type_open t) k p s room r = absurd r
back_closing limit (type_inner t) k p s room r = absurd r
back_closing limit type_close k p s room r = absurd r
back_closing limit function_open k p s room r = absurd r

-- at every state
pub pattern_back : (limit : ℕ) (a : Place) (p : Placed) (s : List Placed) → pattern_load a ≤ limit →
    PatternRestOf limit (pattern_turn a p.token) s → PatternRest limit a (p ∷ s)
unfolding pattern_load
pattern_back limit want_path p s room r = back_want_path limit p s r
pattern_back limit want_step p s room r = back_step limit p s r
pattern_back limit behind_root p s room r = back_root limit p s r
pattern_back limit (in_test part) p s room r = back_part limit part p s r
pattern_back limit id_open p s room r = back_open limit call_value p s p.token refl r
pattern_back limit key_open p s room r = back_open limit key_name p s p.token refl r
pattern_back limit key_name p s room r = back_literal limit key_comma p s p.token refl r
pattern_back limit key_comma p s room r = back_comma limit p s p.token refl r
pattern_back limit call_value p s room r = back_literal limit call_close p s p.token refl r
pattern_back limit call_close p s room r = back_call_close limit p s p.token refl r
pattern_back limit behind_call p s room r = back_behind limit p s r
pattern_back limit behind_step p s room r = back_behind_step limit p s r
pattern_back limit (inside m k) p s room r =
    elim (one_place limit (inside_move (turn m k p.token)) (closing_turn m k p.token) s r) [
      | inl x ↦ back_inside limit m k p s (turn m k p.token) refl room x
      | inr y ↦ back_closing limit m k p s (omega (arith, room)) y
    ]
