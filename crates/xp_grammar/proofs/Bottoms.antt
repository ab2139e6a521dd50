-- The machine of expressions with one bracket more at the bottom of its stack: it moves alike until it comes to the bracket.
use Rattle.std.proofs.Common.{◌≡◌, ℕ, suc, ◌+◌, ◌<◌, ◌≤◌, ◌⊎◌, nat_le, Bool, true, false, if◌then◌else◌, List, [], ◌∷◌, ◌++◌, length, Option, None, Some, refl, sym, ◌∙◌, ap, inl, inr, arith, length-append}
use Rattle.std.proofs.lemmas.Bool.Decides.{leb_tells}
use Rattle.xp_tree.specs.declared.terms.Operator.{Operator}
use Rattle.xp_tree.specs.declared.terms.Operator.TheVariants as operator
use Rattle.xp_grammar.specs.declared.token.Placed.{Placed}
use Rattle.xp_grammar.specs.declared.token.Token.{Token}
use Rattle.xp_grammar.specs.declared.token.NodeType.{NodeType}
use Rattle.xp_grammar.specs.declared.token.NodeType.TheVariants as node_type
use Rattle.xp_grammar.specs.declared.token.Token.TheVariants as token
use Rattle.xp_grammar.specs.inner.Machine.{Bracket, in_paren, in_predicate, in_arguments, Ending, full, bare, at_root, Mode, want, need_step, need_colons, need_test, type_open, type_inner, type_close, function_open, after, Move, first_of_two, test_turn, axis_turn, step_turn, sign_turn, operand_turn, no_argument_turn, end_turn, slash_turn, predicate_turn, colons_turn, type_open_turn, type_close_turn, target_turn, function_turn, turn, load, allowed, next, Halt, goes, halt}
use Rattle.xp_grammar.proofs.Steps.{step_on}
use Rattle.xp_grammar.proofs.Finds.{Within, stays, turns, Ran, ran}

abbrev pub deeper : Bracket → Option Move → Option Move
deeper b None = None
deeper b (Some mv) = Some (record { mode = mv.mode; stack = mv.stack ++ b ∷ [] })

-- a bracket that no call opens
abbrev pub IsOuter : Bracket → Type 0
IsOuter in_paren = Unit {0}
IsOuter in_predicate = Unit {0}
IsOuter in_arguments = ⊥

-- the token closes the bracket
abbrev pub Closes : Bracket → Token → Type 0
Closes in_paren token.CloseParen = Unit {0}
Closes in_predicate token.CloseBracket = Unit {0}
Closes _ _ = ⊥

both_first : (b : Bracket) (x y x' y' : Option Move) → x' ≡ deeper b x → y' ≡ deeper b y →
    first_of_two x' y' ≡ deeper b (first_of_two x y)
both_first b None y x' y' e f = ap (λ z. first_of_two z y') e ∙ f
both_first b (Some mv) y x' y' e f = ap (λ z. first_of_two z y') e

deeper_test : (b : Bracket) (k : List Bracket) (t : Token) → test_turn (k ++ b ∷ []) t ≡ deeper b (test_turn k t)
deeper_test b k token.Star = refl
deeper_test b k (token.PrefixStar prefix) = refl
deeper_test b k (token.Name name) = refl
deeper_test b k (token.NodeType t) = refl
deeper_test b k _ = refl

deeper_axis : (b : Bracket) (k : List Bracket) (t : Token) → axis_turn (k ++ b ∷ []) t ≡ deeper b (axis_turn k t)
deeper_axis b k token.Dot = refl
deeper_axis b k token.DoubleDot = refl
deeper_axis b k (token.Axis a) = refl
deeper_axis b k token.At = refl
deeper_axis b k _ = refl

deeper_step : (b : Bracket) (k : List Bracket) (t : Token) → step_turn (k ++ b ∷ []) t ≡ deeper b (step_turn k t)
deeper_step b k t = both_first b (test_turn k t) (axis_turn k t) _ _ (deeper_test b k t) (deeper_axis b k t)

deeper_sign : (b : Bracket) (o : Operator) (signs : Bool) (count : ℕ) (k : List Bracket) →
    sign_turn o signs count (k ++ b ∷ []) ≡ deeper b (sign_turn o signs count k)
deeper_sign b operator.Minus true count k = refl
deeper_sign b operator.Minus false count k = refl
deeper_sign b _ signs count k = refl

deeper_operand : (b : Bracket) (signs : Bool) (count : ℕ) (k : List Bracket) (t : Token) →
    operand_turn signs count (k ++ b ∷ []) t ≡ deeper b (operand_turn signs count k t)
deeper_operand b signs count k (token.Operator o) = deeper_sign b o signs count k
deeper_operand b signs count k token.Slash = refl
deeper_operand b signs count k token.DoubleSlash = refl
deeper_operand b signs count k token.OpenParen = refl
deeper_operand b signs count k (token.Function name) = refl
deeper_operand b signs count k (token.Variable name) = refl
deeper_operand b signs count k (token.Literal value) = refl
deeper_operand b signs count k (token.Number digits) = refl
deeper_operand b signs count k _ = refl

deeper_no_argument : (b : Bracket) (t : Token) (closes : Bool) (k : List Bracket) → IsOuter b →
    no_argument_turn t closes (k ++ b ∷ []) ≡ deeper b (no_argument_turn t closes k)
deeper_no_argument in_paren token.CloseParen true [] outer = refl
deeper_no_argument in_predicate token.CloseParen true [] outer = refl
deeper_no_argument in_arguments token.CloseParen true [] outer = absurd outer
deeper_no_argument b token.CloseParen true (in_arguments ∷ k) outer = refl
deeper_no_argument b token.CloseParen true (in_paren ∷ k) outer = refl
deeper_no_argument b token.CloseParen true (in_predicate ∷ k) outer = refl
deeper_no_argument b token.CloseParen false k outer = refl
deeper_no_argument b _ closes k outer = refl

deeper_slash : (b : Bracket) (k : List Bracket) (t : Token) → slash_turn (k ++ b ∷ []) t ≡ deeper b (slash_turn k t)
deeper_slash b k token.Slash = refl
deeper_slash b k token.DoubleSlash = refl
deeper_slash b k _ = refl

deeper_predicate : (b : Bracket) (k : List Bracket) (t : Token) → predicate_turn (k ++ b ∷ []) t ≡ deeper b (predicate_turn k t)
deeper_predicate b k token.OpenBracket = refl
deeper_predicate b k _ = refl

-- the machine moves alike, or takes the bracket at the bottom away
abbrev pub Alike : Bracket → List Bracket → Token → Option Move → Option Move → Type 0
Alike b k t x x' = (x' ≡ deeper b x) ⊎ ((k ≡ []) × Closes b t)

deeper_end : (b : Bracket) (k : List Bracket) (t : Token) → IsOuter b → Alike b k t (end_turn k t) (end_turn (k ++ b ∷ []) t)
deeper_end b k (token.Operator o) outer = inl refl
deeper_end in_paren [] token.CloseParen outer = inr (refl, tt)
deeper_end in_predicate [] token.CloseParen outer = inl refl
deeper_end in_arguments [] token.CloseParen outer = absurd outer
deeper_end b (in_paren ∷ k) token.CloseParen outer = inl refl
deeper_end b (in_predicate ∷ k) token.CloseParen outer = inl refl
deeper_end b (in_arguments ∷ k) token.CloseParen outer = inl refl
deeper_end in_paren [] token.CloseBracket outer = inl refl
deeper_end in_predicate [] token.CloseBracket outer = inr (refl, tt)
deeper_end in_arguments [] token.CloseBracket outer = absurd outer
deeper_end b (in_paren ∷ k) token.CloseBracket outer = inl refl
deeper_end b (in_predicate ∷ k) token.CloseBracket outer = inl refl
deeper_end b (in_arguments ∷ k) token.CloseBracket outer = inl refl
deeper_end in_paren [] token.Comma outer = inl refl
deeper_end in_predicate [] token.Comma outer = inl refl
deeper_end in_arguments [] token.Comma outer = absurd outer
deeper_end b (in_paren ∷ k) token.Comma outer = inl refl
deeper_end b (in_predicate ∷ k) token.Comma outer = inl refl
deeper_end b (in_arguments ∷ k) token.Comma outer = inl refl
deeper_end b k _ outer = inl refl

deeper_after : (e : Ending) (b : Bracket) (k : List Bracket) (t : Token) → IsOuter b →
    Alike b k t (turn (after e) k t) (turn (after e) (k ++ b ∷ []) t)
deeper_after full b k t outer =
    elim (deeper_end b k t outer) [
      | inl x ↦ inl (both_first b (predicate_turn k t) (first_of_two (slash_turn k t) (end_turn k t)) _ _ (deeper_predicate b k t)
          (both_first b (slash_turn k t) (end_turn k t) _ _ (deeper_slash b k t) x))
      | inr y ↦ inr y
    ]
deeper_after bare b k t outer =
    elim (deeper_end b k t outer) [
      | inl x ↦ inl (both_first b (slash_turn k t) (end_turn k t) _ _ (deeper_slash b k t) x)
      | inr y ↦ inr y
    ]
deeper_after at_root b k t outer =
    elim (deeper_end b k t outer) [
      | inl x ↦ inl (both_first b (step_turn k t) (end_turn k t) _ _ (deeper_step b k t) x)
      | inr y ↦ inr y
    ]

deeper_colons : (b : Bracket) (k : List Bracket) (t : Token) → colons_turn (k ++ b ∷ []) t ≡ deeper b (colons_turn k t)
deeper_colons b k token.DoubleColon = refl
deeper_colons b k _ = refl

deeper_type_open : (n : NodeType) (b : Bracket) (k : List Bracket) (t : Token) → type_open_turn n (k ++ b ∷ []) t ≡ deeper b (type_open_turn n k t)
deeper_type_open n b k token.OpenParen = refl
deeper_type_open n b k _ = refl

deeper_type_close : (b : Bracket) (k : List Bracket) (t : Token) → type_close_turn (k ++ b ∷ []) t ≡ deeper b (type_close_turn k t)
deeper_type_close b k token.CloseParen = refl
deeper_type_close b k _ = refl

deeper_target : (n : NodeType) (b : Bracket) (k : List Bracket) (t : Token) → target_turn n (k ++ b ∷ []) t ≡ deeper b (target_turn n k t)
deeper_target node_type.Pi b k (token.Literal target) = refl
deeper_target node_type.Pi b k _ = refl
deeper_target node_type.Comment b k _ = refl
deeper_target node_type.Chars b k _ = refl
deeper_target node_type.Node b k _ = refl

deeper_function : (b : Bracket) (k : List Bracket) (t : Token) → function_turn (k ++ b ∷ []) t ≡ deeper b (function_turn k t)
deeper_function b k token.OpenParen = refl
deeper_function b k _ = refl

pub deeper_turn : (m : Mode) (b : Bracket) (k : List Bracket) (t : Token) → IsOuter b → Alike b k t (turn m k t) (turn m (k ++ b ∷ []) t)
deeper_turn (want signs count closes) b k t outer =
    inl (both_first b (no_argument_turn t closes k) (first_of_two (operand_turn signs count k t) (step_turn k t)) _ _
    (deeper_no_argument b t closes k outer)
    (both_first b (operand_turn signs count k t) (step_turn k t) _ _ (deeper_operand b signs count k t) (deeper_step b k t)))
deeper_turn need_step b k t outer = inl (deeper_step b k t)
deeper_turn need_colons b k t outer = inl (deeper_colons b k t)
deeper_turn need_test b k t outer = inl (deeper_test b k t)
deeper_turn (type_open n) b k t outer = inl (deeper_type_open n b k t)
deeper_turn (type_inner n) b k t outer =
    inl (both_first b (type_close_turn k t) (target_turn n k t) _ _ (deeper_type_close b k t) (deeper_target n b k t))
deeper_turn type_close b k t outer = inl (deeper_type_close b k t)
deeper_turn function_open b k t outer = inl (deeper_function b k t)
deeper_turn (after e) b k t outer = deeper_after e b k t outer

-- a token that closes the bracket at the bottom ends an expression
closes_none : (e : Ending) (b : Bracket) (t : Token) → Closes b t → turn (after e) [] t ≡ None
closes_none full in_paren token.CloseParen h = refl
closes_none bare in_paren token.CloseParen h = refl
closes_none at_root in_paren token.CloseParen h = refl
closes_none full in_predicate token.CloseBracket h = refl
closes_none bare in_predicate token.CloseBracket h = refl
closes_none at_root in_predicate token.CloseBracket h = refl
closes_none e _ _ h = absurd h

some_after : (e : Ending) (b : Bracket) (k : List Bracket) (t : Token) (mv : Move) → IsOuter b → turn (after e) k t ≡ Some mv →
    turn (after e) (k ++ b ∷ []) t ≡ deeper b (Some mv)
some_after e b k t mv outer is =
    elim (deeper_after e b k t outer) [
      | inl x ↦ x ∙ ap (deeper b) is
      | inr y ↦ let bad : None ≡ Some mv = sym (closes_none e b t y.1) ∙ ap (λ l. turn (after e) l t) (sym y.0) ∙ is in absurd (cc)
    ]

plain_some : (b : Bracket) (x x' : Option Move) (mv : Move) → x' ≡ deeper b x → x ≡ Some mv → x' ≡ deeper b (Some mv)
plain_some b x x' mv e is = e ∙ ap (deeper b) is

pub some_deeper : (m : Mode) (b : Bracket) (k : List Bracket) (t : Token) (mv : Move) → IsOuter b → turn m k t ≡ Some mv →
    turn m (k ++ b ∷ []) t ≡ deeper b (Some mv)
some_deeper (want signs count closes) b k t mv outer is =
    plain_some b (turn (want signs count closes) k t) _ mv
    (both_first b (no_argument_turn t closes k) (first_of_two (operand_turn signs count k t) (step_turn k t)) _ _
    (deeper_no_argument b t closes k outer)
    (both_first b (operand_turn signs count k t) (step_turn k t) _ _ (deeper_operand b signs count k t) (deeper_step b k t))) is
some_deeper need_step b k t mv outer is = plain_some b (turn need_step k t) _ mv (deeper_step b k t) is
some_deeper need_colons b k t mv outer is = plain_some b (turn need_colons k t) _ mv (deeper_colons b k t) is
some_deeper need_test b k t mv outer is = plain_some b (turn need_test k t) _ mv (deeper_test b k t) is
some_deeper (type_open n) b k t mv outer is = plain_some b (turn (type_open n) k t) _ mv (deeper_type_open n b k t) is
some_deeper (type_inner n) b k t mv outer is =
    plain_some b (turn (type_inner n) k t) _ mv
    (both_first b (type_close_turn k t) (target_turn n k t) _ _ (deeper_type_close b k t) (deeper_target n b k t)) is
some_deeper type_close b k t mv outer is = plain_some b (turn type_close k t) _ mv (deeper_type_close b k t) is
some_deeper function_open b k t mv outer is = plain_some b (turn function_open k t) _ mv (deeper_function b k t) is
some_deeper (after e) b k t mv outer is = some_after e b k t mv outer is

length_deeper : (k : List Bracket) (b : Bracket) → length (k ++ b ∷ []) ≡ suc (length k)
length_deeper k b = let e : length (k ++ b ∷ []) ≡ length k + length (b ∷ []) = length-append k (b ∷ []) in omega (arith, e)

pub load_deeper : (m : Mode) (k : List Bracket) (b : Bracket) → load m (k ++ b ∷ []) ≡ suc (load m k)
unfolding load
load_deeper (want signs count closes) k b = omega (arith, length_deeper k b)
load_deeper need_step k b = length_deeper k b
load_deeper need_colons k b = length_deeper k b
load_deeper need_test k b = length_deeper k b
load_deeper (type_open n) k b = length_deeper k b
load_deeper (type_inner n) k b = length_deeper k b
load_deeper type_close k b = length_deeper k b
load_deeper function_open k b = ap suc (length_deeper k b)
load_deeper (after e) k b = length_deeper k b

-- runs
pub within_deeper : (l : ℕ) (b : Bracket) → IsOuter b → {m m' : Mode} {k k' : List Bracket} {s : List Placed} → Within l m k s m' k' →
    Within (suc l) m (k ++ b ∷ []) s m' (k' ++ b ∷ [])
within_deeper l b outer (stays m k) = stays m (k ++ b ∷ [])
within_deeper l b outer (turns m m' k k' p s mv is fits more) =
    turns m m' (k ++ b ∷ []) (k' ++ b ∷ []) p s (record { mode = mv.mode; stack = mv.stack ++ b ∷ [] })
    (some_deeper m b k p.token mv outer is)
    (omega (arith, load_deeper mv.mode mv.stack b, fits))
    (within_deeper l b outer more)

pub halt_over : (limit : ℕ) {m m' : Mode} {k k' : List Bracket} {s : List Placed} → Within limit m k s m' k' → (t : List Placed) →
    halt limit m k (s ++ t) ≡ halt limit m' k' t
halt_over limit (stays m k) t = refl
halt_over limit (turns m m' k k' p s mv is fits more) t = step_on limit m k p (s ++ t) mv p.token refl is fits ∙ halt_over limit more t

pub stands_at : (limit : ℕ) (m : Mode) (k : List Bracket) (p : Placed) (u : List Placed) → next limit m k p.token ≡ None →
    halt limit m k (p ∷ u) ≡ record { mode = m; stack = k; rest = p ∷ u }
unfolding halt
stands_at limit m k p u none =
    ap (goes (record { mode = m; stack = k; rest = p ∷ u }) (λ mv. halt limit mv.mode mv.stack u)) none

pub rest_shorter : (limit : ℕ) (m : Mode) (k : List Bracket) (s : List Placed) → length (halt limit m k s).rest ≤ length s
rest_shorter limit m k s =
    let r = ran limit m k s (halt limit m k s) refl in
    let e : length s ≡ length (r.before ++ (halt limit m k s).rest) = ap length r.is in
    let f : length (r.before ++ (halt limit m k s).rest) ≡ length r.before + length (halt limit m k s).rest =
    length-append r.before (halt limit m k s).rest in
    omega (arith, e, f)

-- where the machine stopped, it does not go on
stopped_on : (limit : ℕ) (m : Mode) (k : List Bracket) (q : Placed) (s : List Placed) (h : Halt) (p : Placed) (w : List Placed) → h.rest ≡ p ∷ w →
    ((m : Mode) (k : List Bracket) → halt limit m k s ≡ h → next limit h.mode h.stack p.token ≡ None) →
    (o : Option Move) → next limit m k q.token ≡ o →
    goes (record { mode = m; stack = k; rest = q ∷ s }) (λ mv. halt limit mv.mode mv.stack s) o ≡ h →
    next limit h.mode h.stack p.token ≡ None
stopped_on limit m k q s h p w at further None is so =
    let mode_is : m ≡ h.mode = ap (λ x. x.mode) so in
    let stack_is : k ≡ h.stack = ap (λ x. x.stack) so in
    let rest_is : q ∷ s ≡ p ∷ w = ap (λ x. x.rest) so ∙ at in
    let token_is : q ≡ p = cc in
    ap (λ x. next limit x h.stack p.token) (sym mode_is) ∙ ap (λ x. next limit m x p.token) (sym stack_is)
    ∙ ap (λ x. next limit m k x.token) (sym token_is) ∙ is
stopped_on limit m k q s h p w at further (Some mv) is so = further mv.mode mv.stack so

pub stopped : (limit : ℕ) (m : Mode) (k : List Bracket) (s : List Placed) (h : Halt) → halt limit m k s ≡ h →
    (p : Placed) (w : List Placed) → h.rest ≡ p ∷ w → next limit h.mode h.stack p.token ≡ None
unfolding halt
stopped limit m k [] h is p w at = let bad : [] ≡ p ∷ w = ap (λ x. x.rest) is ∙ at in absurd (cc)
stopped limit m k (q ∷ s) h is p w at =
    stopped_on limit m k q s h p w at (λ m' k' on. stopped limit m' k' s h on p w at) (next limit m k q.token) refl is

pub not_leb : (a b : ℕ) → b < a → nat_le a b ≡ false
not_leb a b lt = elim (leb_tells a b) [ inl (yes_it, le) ↦ absurd (omega (arith, lt, le)) | inr (no_it, gt) ↦ no_it ]

allowed_deeper : (l : ℕ) (b : Bracket) (o : Option Move) → allowed l o ≡ None → allowed (suc l) (deeper b o) ≡ None
allowed_deeper l b None none = refl
allowed_deeper l b (Some mv) none =
    elim (leb_tells (load mv.mode mv.stack) l) [
      | inl (yes_it, le) ↦ let bad : Some mv ≡ None = sym (ap (λ x. if x then Some mv else None) yes_it) ∙ none in absurd (cc)
      | inr (no_it, gt) ↦
          ap (λ x. if x then deeper b (Some mv) else None)
          (not_leb (load mv.mode (mv.stack ++ b ∷ [])) (suc l) (omega (arith, load_deeper mv.mode mv.stack b, gt)))
    ]

pub next_deeper : (l : ℕ) (m : Mode) (b : Bracket) (k : List Bracket) (t : Token) → IsOuter b → (Closes b t → ⊥) → next l m k t ≡ None →
    next (suc l) m (k ++ b ∷ []) t ≡ None
next_deeper l m b k t outer opens none =
    elim (deeper_turn m b k t outer) [
      | inl x ↦ ap (allowed (suc l)) x ∙ allowed_deeper l b (turn m k t) none
      | inr y ↦ absurd (opens y.1)
    ]

-- a run from no open bracket, with a bracket below it
pub run_deeper : (l : ℕ) (b : Bracket) (m : Mode) (s : List Placed) (m' : Mode) (k' : List Bracket) (u : List Placed) → IsOuter b →
    Ran l m [] s m' k' u → halt (suc l) m (b ∷ []) s ≡ halt (suc l) m' (k' ++ b ∷ []) u
run_deeper l b m s m' k' u outer r =
    ap (halt (suc l) m (b ∷ [])) r.is ∙ halt_over (suc l) (within_deeper l b outer r.within) u
