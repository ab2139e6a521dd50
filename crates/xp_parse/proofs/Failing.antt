-- Where the parser stops, the machine stops.
use Rattle.std.proofs.Common.{◌≡◌, ℕ, suc, ◌+◌, ◌<◌, ◌≤◌, true, false, List, [], ◌∷◌, length, Option, None, Some, refl, sym, ◌∙◌, ap, subst, arith, add-one}
use Rattle.xp_tree.specs.declared.terms.Operator.TheVariants as operator
use Rattle.xp_grammar.specs.declared.token.Placed.{Placed}
use Rattle.xp_grammar.specs.declared.token.Token.{Token}
use Rattle.xp_grammar.specs.declared.token.NodeType.{NodeType}
use Rattle.xp_grammar.specs.declared.token.NodeType.TheVariants as node_type
use Rattle.xp_grammar.specs.declared.token.Token.TheVariants as token
use Rattle.xp_grammar.specs.Grammar.{IsSigns, no_sign, sign}
use Rattle.xp_grammar.specs.inner.Machine.{Bracket, Mode, want, type_inner, Move, turn, load, halt, IsPending, colons_turn, type_open_turn, type_close_turn, target_turn, function_turn, first_of_two}
use Rattle.xp_grammar.proofs.Steps.{step_on}
use Rattle.xp_grammar.proofs.Drives.{drive_signs}
use Rattle.xp_parse.specs.declared.stop.Stop.{Stop}
use Rattle.xp_parse.specs.declared.stop.Stop.TheVariants as stop
use Rattle.xp_parse.specs.inner.Places.{IsThere, IsFirst, Took, Refused}
use Rattle.xp_parse.specs.inner.Parsing.{Stuck, SignsFail}

-- one sign more
pub signs_on : (i : ℕ) (s here next : List Placed) → IsSigns i s here → (f : IsFirst (token.Operator operator.Minus) here) →
    next ≡ f.rest → IsSigns (i + 1) s next
signs_on _ s here next (no_sign _) f is =
    let one : IsSigns (suc 0) (f.placed ∷ next) next = sign 0 f.placed next next f.token (no_sign next) in
    let line : s ≡ f.placed ∷ next = f.is ∙ ap (λ t. f.placed ∷ t) (sym is) in
    rw add-one (subst (λ t. IsSigns (suc 0) t next) (sym line) one)
signs_on _ s here next (sign i p t u is_sign more) f is =
    rw add-one (sign (suc i) p t next is_sign (rw (sym (add-one i)) (signs_on i t here next more f is)))

-- more signs than the limit lets stand
pub signs_fail : (limit d i : ℕ) (s u : List Placed) → IsSigns i s u → IsFirst (token.Operator operator.Minus) u →
    d + i ≤ limit → limit ≤ d + i → SignsFail limit d s u stop.TooNested
unfolding load
signs_fail limit d i s u S f fits over = record {
  from = λ c. record {
    stuck = λ _ k deep.
        let room : length k + 0 + i ≤ limit = omega (arith, fits, deep) in
        let r = drive_signs limit S 0 c k room in
        record {
          mode = want true r.count r.closes;
          stack = k;
          reaches = r.halts;
          cause = record {
            placed = f.placed;
            rest = f.rest;
            is = f.is;
            limited = record {
              move = record { mode = want true (suc r.count) false; stack = k };
              turns = ap (turn (want true r.count r.closes) k) f.token;
              over = omega (arith, over, deep, r.adds);
            };
          };
        };
  };
}

-- places
pub head_is : (p q : Placed) (s t : List Placed) → p ∷ s ≡ q ∷ t → p ≡ q
head_is p q s t e = cc

pub tail_is : (p q : Placed) (s t : List Placed) → p ∷ s ≡ q ∷ t → s ≡ t
tail_is p q s t e = cc

pub no_end : (p : Placed) (s t : List Placed) → t ≡ p ∷ s → t ≡ [] → ⊥
no_end p s t e f = absurd (cc)

pub took_of : (t : Token) (s u : List Placed) (f : IsFirst t s) → u ≡ f.rest → Took t s u
took_of t s u f is = record { placed = f.placed; is = f.is ∙ ap (λ r. f.placed ∷ r) (sym is); token = f.token }

pub took_shorter : (t : Token) (s u : List Placed) → Took t s u → length u < length s
took_shorter t s u r = let e : length s ≡ suc (length u) = ap length r.is in omega (arith, e)

pub first_token : (t : Token) (s : List Placed) (f : IsFirst t s) (p : Placed) (rest : List Placed) → s ≡ p ∷ rest → p.token ≡ t
first_token t s f p rest is = ap (λ q. q.token) (head_is p f.placed rest f.rest (sym is ∙ f.is)) ∙ f.token

-- the same where the token behind it is known
pub took_here : (t : Token) (s : List Placed) (p : Placed) (u : List Placed) → IsFirst t s → s ≡ p ∷ u → Took t s u
took_here t s p u f is = record { placed = p; is = is; token = first_token t s f p u is }

pub first_there : (t : Token) (s : List Placed) → IsFirst t s → IsThere s
first_there t s f = record { placed = f.placed; rest = f.rest; is = f.is }

pub there_on : (s u : List Placed) (f : IsThere s) → u ≡ f.rest → s ≡ f.placed ∷ u
there_on s u f is = f.is ∙ ap (λ r. f.placed ∷ r) (sym is)

pub there_shorter : (s u : List Placed) (f : IsThere s) → u ≡ f.rest → length u < length s
there_shorter s u f is = let e : length s ≡ suc (length u) = ap length (there_on s u f is) in omega (arith, e)

pub first_same : (t t' : Token) (s : List Placed) → t ≡ t' → IsFirst t s → IsFirst t' s
first_same t t' s is f = record { placed = f.placed; rest = f.rest; is = f.is; token = f.token ∙ is }

-- the machine stops at once
pub stuck_at_end : (limit : ℕ) (m : Mode) (k : List Bracket) (s : List Placed) → s ≡ [] → IsPending m k →
    Stuck limit m k s s stop.Unexpected
stuck_at_end limit m k s is pending = record {
  mode = m;
  stack = k;
  reaches = refl;
  cause = record { at_end = λ _. pending; at_token = λ p rest e. absurd (no_end p rest s e is) };
}

pub stuck_at_first : (limit : ℕ) (m : Mode) (k : List Bracket) (s : List Placed) (t : Token) → IsFirst t s →
    turn m k t ≡ None → Stuck limit m k s s stop.Unexpected
stuck_at_first limit m k s t f none = record {
  mode = m;
  stack = k;
  reaches = refl;
  cause = record {
    at_end = λ e. absurd (no_end f.placed f.rest s f.is e);
    at_token = λ p rest is. ap (turn m k) (first_token t s f p rest is) ∙ none;
  };
}

pub stuck_over : (limit : ℕ) (m : Mode) (k : List Bracket) (s : List Placed) (t : Token) (mv : Move) → IsFirst t s →
    turn m k t ≡ Some mv → limit < load mv.mode mv.stack → Stuck limit m k s s stop.TooNested
stuck_over limit m k s t mv f turns over = record {
  mode = m;
  stack = k;
  reaches = refl;
  cause = record {
    placed = f.placed;
    rest = f.rest;
    is = f.is;
    limited = record { move = mv; turns = ap (turn m k) f.token ∙ turns; over = over };
  };
}

pub stuck_not_at : (limit : ℕ) (m : Mode) (k : List Bracket) (s u : List Placed) (t : Token) (why : Stop) →
    Refused t s u why → IsPending m k → ((x : Token) → (x ≡ t → ⊥) → turn m k x ≡ None) → Stuck limit m k s u why
stuck_not_at limit m k s u t why r pending none =
    let here : Stuck limit m k s s stop.Unexpected = record {
      mode = m;
      stack = k;
      reaches = refl;
      cause = record { at_end = λ _. pending; at_token = λ p rest is. none p.token (r.not_at p rest is) };
    } in
    subst (λ w. Stuck limit m k s u w) (sym r.why_is) (subst (λ v. Stuck limit m k s v stop.Unexpected) (sym r.kept) here)

-- the machine goes on first
pub stuck_after : (limit : ℕ) (m m' : Mode) (k k' : List Bracket) (s s' u : List Placed) (why : Stop) →
    halt limit m k s ≡ halt limit m' k' s' → Stuck limit m' k' s' u why → Stuck limit m k s u why
stuck_after limit m m' k k' s s' u why to x = record {
  mode = x.mode;
  stack = x.stack;
  reaches = to ∙ x.reaches;
  cause = x.cause;
}

pub took_on : (limit : ℕ) (m : Mode) (k : List Bracket) (s u : List Placed) (t : Token) (mv : Move) → Took t s u →
    turn m k t ≡ Some mv → load mv.mode mv.stack ≤ limit → halt limit m k s ≡ halt limit mv.mode mv.stack u
took_on limit m k s u t mv r turns room =
    ap (halt limit m k) r.is ∙ step_on limit m k r.placed u mv t r.token turns room

-- modes that take one token
pub none_but_colons : (k : List Bracket) (x : Token) → (x ≡ token.DoubleColon → ⊥) → colons_turn k x ≡ None
none_but_colons k token.DoubleColon no_it = absurd (no_it refl)
none_but_colons k _ no_it = refl

pub none_but_open : (t : NodeType) (k : List Bracket) (x : Token) → (x ≡ token.OpenParen → ⊥) → type_open_turn t k x ≡ None
none_but_open t k token.OpenParen no_it = absurd (no_it refl)
none_but_open t k _ no_it = refl

pub none_but_function_open : (k : List Bracket) (x : Token) → (x ≡ token.OpenParen → ⊥) → function_turn k x ≡ None
none_but_function_open k token.OpenParen no_it = absurd (no_it refl)
none_but_function_open k _ no_it = refl

pub none_but_close : (k : List Bracket) (x : Token) → (x ≡ token.CloseParen → ⊥) → type_close_turn k x ≡ None
none_but_close k token.CloseParen no_it = absurd (no_it refl)
none_but_close k _ no_it = refl

pub no_target : (t : NodeType) (k : List Bracket) (x : Token) → (t ≡ node_type.Pi → ⊥) → target_turn t k x ≡ None
no_target node_type.Pi k x no_it = absurd (no_it refl)
no_target node_type.Comment k x no_it = refl
no_target node_type.Chars k x no_it = refl
no_target node_type.Node k x no_it = refl

pub no_literal : (k : List Bracket) (x : Token) → ((w : List ℕ) → x ≡ token.Literal w → ⊥) → target_turn node_type.Pi k x ≡ None
no_literal k (token.Literal w) no_it = absurd (no_it w refl)
no_literal k _ no_it = refl

pub neither : (a b : Option Move) → a ≡ None → b ≡ None → first_of_two a b ≡ None
neither a b x y = ap (λ o. first_of_two o b) x ∙ y

pub none_in_type : (t : NodeType) (k : List Bracket) (x : Token) → (t ≡ node_type.Pi → ⊥) → (x ≡ token.CloseParen → ⊥) →
    turn (type_inner t) k x ≡ None
none_in_type t k x no_pi no_it = neither (type_close_turn k x) (target_turn t k x) (none_but_close k x no_it) (no_target t k x no_pi)

pub none_in_target : (k : List Bracket) (x : Token) → ((w : List ℕ) → x ≡ token.Literal w → ⊥) → (x ≡ token.CloseParen → ⊥) →
    turn (type_inner node_type.Pi) k x ≡ None
none_in_target k x no_it no_close = neither (type_close_turn k x) (target_turn node_type.Pi k x) (none_but_close k x no_close) (no_literal k x no_it)
