-- Placed tokens that are these tokens, and what follows them.
use Rattle.std.proofs.Common.{◌≡◌, List, [], ◌∷◌, ◌++◌, map, subst, refl}
use Rattle.xp_grammar.specs.declared.token.Placed.{Placed}
use Rattle.xp_grammar.specs.declared.token.Token.{Token}

pub data Spelled : List Token → List Placed → List Placed → Type 0 where
  none_spelled : (u : List Placed) → Spelled [] u u
  one_spelled : (t : Token) (ts : List Token) (p : Placed) (s u : List Placed) → p.token ≡ t → Spelled ts s u → Spelled (t ∷ ts) (p ∷ s) u

-- a first token and the others
pub data First (t : Token) (ts : List Token) (u : List Placed) : List Placed → Type 0 where
  first : (p : Placed) (s : List Placed) → p.token ≡ t → Spelled ts s u → First t ts u (p ∷ s)

-- one token
pub data Last (t : Token) (u : List Placed) : List Placed → Type 0 where
  last : (q : Placed) → q.token ≡ t → Last t u (q ∷ u)

-- two parts
pub record Parts (xs ys : List Token) (s u : List Placed) : Type 0 where
  pub middle : List Placed
  pub front : Spelled xs s middle
  pub back : Spelled ys middle u

pub uncons : {t : Token} {ts : List Token} {s u : List Placed} → Spelled (t ∷ ts) s u → First t ts u s
uncons (one_spelled t ts p s u is more) = first p s is more

pub only : {t : Token} {s u : List Placed} → Spelled (t ∷ []) s u → Last t u s
only (one_spelled t _ p _ _ is (none_spelled u)) = last p is

pub ended : {s u : List Placed} → Spelled [] s u → s ≡ u
ended (none_spelled u) = refl

front-of : (t : Token) (xs ys : List Token) (s u : List Placed) (p : Placed) → p.token ≡ t → Parts xs ys s u → Parts (t ∷ xs) ys (p ∷ s) u
front-of t xs ys s u p is parts = record { middle = parts.middle; front = one_spelled t xs p s parts.middle is parts.front; back = parts.back }

split_first : (x : Token) (xs ys : List Token) (s u : List Placed) → ((r : List Placed) → Spelled (xs ++ ys) r u → Parts xs ys r u) →
    First x (xs ++ ys) u s → Parts (x ∷ xs) ys s u
split_first x xs ys s u on (first p r is more) = front-of x xs ys r u p is (on r more)

pub split : (xs : List Token) {ys : List Token} {s u : List Placed} → Spelled (xs ++ ys) s u → Parts xs ys s u
split [] {ys} {s} {u} S = record { middle = s; front = none_spelled s; back = S }
split (x ∷ xs) {ys} {s} {u} S = split_first x xs ys s u (λ r R. split xs {ys = ys} {s = r} {u = u} R) (uncons S)

spelled-map : (s : List Placed) → Spelled (map (λ p. p.token) s) s []
spelled-map [] = none_spelled []
spelled-map (p ∷ s) = one_spelled p.token (map (λ p. p.token) s) p s [] refl (spelled-map s)

pub spelled-all : (s : List Placed) (ts : List Token) → map (λ p. p.token) s ≡ ts → Spelled ts s []
spelled-all s ts is = subst (λ x. Spelled x s []) is (spelled-map s)

-- a first token is taken off
pub take_one : (R : List Placed → Type 0) {t : Token} {ts : List Token} {s u : List Placed} → Spelled (t ∷ ts) s u →
    ((p : Placed) (r : List Placed) → p.token ≡ t → Spelled ts r u → R (p ∷ r)) → R s
take_one R (one_spelled _ _ p r _ is more) on = on p r is more

pub take_two : (R : List Placed → Type 0) {t t' : Token} {ts : List Token} {s u : List Placed} → Spelled (t ∷ t' ∷ ts) s u →
    ((p q : Placed) (r : List Placed) → p.token ≡ t → q.token ≡ t' → Spelled ts r u → R (p ∷ q ∷ r)) → R s
take_two R (one_spelled _ _ p _ _ is (one_spelled _ _ q r _ next more)) on = on p q r is next more
