-- Steps of locations: what a text of steps tells of the first of them.
use Rattle.std.proofs.Common.{◌≡◌, ℕ, ◌<◌, ◌^◌, ◌==◌, Bool, true, false, ◌||◌, List, [], ◌∷◌, ◌++◌, drop, slice_index_or, codes, if◌then◌else◌, refl, ap, sym, subst, ◌∙◌, arith, append_assoc, eq-eqb}
use Rattle.std.specs.List.{list_any}
use Rattle.std.specs.Fmt.{decimal}
use Rattle.std.specs.Str.Parse.{AllDigits}
use Rattle.std.proofs.lemmas.Bool.{eqb-true}
use Rattle.std.proofs.lemmas.Fmt.{decimal_is_IsNumeral, decimal_injective}
use Rattle.std.proofs.lemmas.List.{append_cancel_left, append_cancel_right}
use Rattle.std.proofs.lemmas.Str.Parse.{digit_from_value}
use Rattle.doc_tree.specs.Table.{Name, expanded}
use Rattle.doc_locations.specs.Locations.{kid_step, expanded_step, named_step, quotes_of}

-- the text has no such byte
abbrev Lacks : ℕ → List ℕ → Type 0
Lacks stop text = list_any (λ c. c == stop) text ≡ false

lacks_parts : (a b : Bool) → a || b ≡ false → (a ≡ false) × (b ≡ false)
lacks_parts true b is = absurd (cc)
lacks_parts false b is = (refl, is)

-- two texts that are ended by a byte which neither has
pub cut_at_byte : (stop : ℕ) (xs ys back other : List ℕ) → Lacks stop xs → Lacks stop ys → xs ++ stop ∷ back ≡ ys ++ stop ∷ other → (xs ≡ ys) × (back ≡ other)
cut_at_byte stop [] [] back other none none_2 e = (refl, ap (drop 1) e)
cut_at_byte stop [] (y ∷ ys) back other none none_2 e =
    let is : stop ≡ y = ap (λ (l : List ℕ). slice_index_or l 0 0) e in
    let found : (y == stop) ≡ true = eq-eqb y stop (sym is) in
    let lost : (y == stop) ≡ false = (lacks_parts (y == stop) (list_any (λ c. c == stop) ys) none_2).0 in
    absurd (cc)
cut_at_byte stop (x ∷ xs) [] back other none none_2 e =
    let is : x ≡ stop = ap (λ (l : List ℕ). slice_index_or l 0 0) e in
    let found : (x == stop) ≡ true = eq-eqb x stop is in
    let lost : (x == stop) ≡ false = (lacks_parts (x == stop) (list_any (λ c. c == stop) xs) none).0 in
    absurd (cc)
cut_at_byte stop (x ∷ xs) (y ∷ ys) back other none none_2 e =
    let first : x ≡ y = ap (λ (l : List ℕ). slice_index_or l 0 0) e in
    let rest = cut_at_byte stop xs ys back other
    (lacks_parts (x == stop) (list_any (λ c. c == stop) xs) none).1
    (lacks_parts (y == stop) (list_any (λ c. c == stop) ys) none_2).1
    (ap (drop 1) e) in
    (ap (λ (c : ℕ). c ∷ xs) first ∙ ap (λ (l : List ℕ). y ∷ l) rest.0, rest.1)

-- digits hold no bracket (93)
digits_lack : (ds : List ℕ) → AllDigits 10 ds → Lacks 93 ds
digits_lack [] all = refl
digits_lack (d ∷ ds) all = by (d == 93) refl (digits_lack ds all.1)
  where
    by : (b : Bool) → (d == 93) ≡ b → Lacks 93 ds → b || list_any (λ c. c == 93) ds ≡ false
    by true is rest = absurd (omega (arith, eqb-true d 93 is, digit_from_value d all.0))
    by false is rest = rest

number_lacks : (n : ℕ) → n < 2 ^ 64 → Lacks 93 (decimal n)
number_lacks n small = digits_lack (decimal n) (decimal_is_IsNumeral n small).0.1

-- a step to a kid in front of a text, taken apart
kid_step_spread : (test : List ℕ) (place : ℕ) (rest : List ℕ) →
    kid_step test place ++ rest ≡ 47 ∷ (test ++ (91 ∷ (decimal place ++ (93 ∷ rest))))
kid_step_spread test place rest =
    ap (λ (l : List ℕ). 47 ∷ l) (append_assoc test (91 ∷ (decimal place ++ 93 ∷ [])) rest
    ∙ ap (λ (l : List ℕ). test ++ (91 ∷ l)) (append_assoc (decimal place) (93 ∷ []) rest))

-- steps to kids by the same test tell the places apart
pub kid_step_cut : (test : List ℕ) (p q : ℕ) (s t : List ℕ) → p < 2 ^ 64 → q < 2 ^ 64 →
    kid_step test p ++ s ≡ kid_step test q ++ t → (p ≡ q) × (s ≡ t)
kid_step_cut test p q s t small small_2 e =
    let spread = sym (kid_step_spread test p s) ∙ (e ∙ kid_step_spread test q t) in
    let behind : 91 ∷ (decimal p ++ (93 ∷ s)) ≡ 91 ∷ (decimal q ++ (93 ∷ t)) = append_cancel_left test _ _ (ap (drop 1) spread) in
    let parts = cut_at_byte 93 (decimal p) (decimal q) s t (number_lacks p small) (number_lacks q small_2) (ap (drop 1) behind) in
    (decimal_injective p q small small_2 parts.0, parts.1)

-- a name holds neither a quote (39) nor a star (42)
abbrev Plain : List ℕ → Type 0
Plain local = list_any (λ c. (c == 39) || (c == 42)) local ≡ false

or_false_left : (a b : Bool) → a || b ≡ false → a ≡ false
or_false_left true b is = is
or_false_left false b is = refl

plain_lacks : (local : List ℕ) → Plain local → Lacks 39 local
plain_lacks [] plain = refl
plain_lacks (c ∷ local) plain =
    let parts = lacks_parts ((c == 39) || (c == 42)) (list_any (λ c. (c == 39) || (c == 42)) local) plain in
    rw (or_false_left (c == 39) (c == 42) parts.0) (plain_lacks local parts.1)

-- no plain name begins with a star
no_star : (local rest : List ℕ) → Plain local → local ≡ 42 ∷ rest → ⊥
no_star [] rest plain e = absurd (cc)
no_star (c ∷ local) rest plain e =
    let is : c ≡ 42 = ap (λ (l : List ℕ). slice_index_or l 0 0) e in
    let parts = lacks_parts ((c == 39) || (c == 42)) (list_any (λ c. (c == 39) || (c == 42)) local) plain in
    let lost : (42 == 39) || (42 == 42) ≡ false = subst (λ (b : ℕ). (b == 39) || (b == 42) ≡ false) is parts.0 in
    absurd (cc)

-- what stands in quotes up to a bracket at the end
quoted_cut : (q r : ℕ) (u v : List ℕ) → q ∷ (u ++ q ∷ 93 ∷ []) ≡ r ∷ (v ++ r ∷ 93 ∷ []) → u ≡ v
quoted_cut q r u v e =
    let same : q ≡ r = ap (λ (l : List ℕ). slice_index_or l 0 0) e in
    append_cancel_right u v (r ∷ 93 ∷ []) (ap (λ (c : ℕ). u ++ c ∷ 93 ∷ []) (sym same) ∙ ap (drop 1) e)

quotes_are : (uri : List ℕ) → (q : ℕ) × (quotes_of uri ≡ q ∷ [])
quotes_are uri = by (list_any (λ c. c == 39) uri)
  where
    by : (b : Bool) → (q : ℕ) × ((if b then codes "\"" else codes "'") ≡ q ∷ [])
    by true = (34, refl)
    by false = (39, refl)

-- a namespace in its quotes
uris_told : (u v : List ℕ) → quotes_of u ++ (u ++ (quotes_of u ++ codes "]")) ≡ quotes_of v ++ (v ++ (quotes_of v ++ codes "]")) → u ≡ v
uris_told u v e =
    let q = quotes_are u in
    let r = quotes_are v in
    quoted_cut q.0 r.0 u v
    (sym (ap (λ (l : List ℕ). l ++ (u ++ (l ++ codes "]"))) q.1) ∙ (e ∙ ap (λ (l : List ℕ). l ++ (v ++ (l ++ codes "]"))) r.1))

expanded_told : (k m u v : List ℕ) → Plain k → Plain m → expanded_step k u ≡ expanded_step m v → (k ≡ m) × (u ≡ v)
expanded_told k m u v plain plain_2 e =
    let parts = cut_at_byte 39 k m _ _ (plain_lacks k plain) (plain_lacks m plain_2) (ap (drop 18) e) in
    (parts.0, uris_told u v (ap (drop 21) parts.1))

-- steps to attributes tell their expanded names apart
pub named_step_told : (a b : Name) → Plain a.local → Plain b.local → named_step a.local a.uri ≡ named_step b.local b.uri → expanded a ≡ expanded b
named_step_told a b plain plain_2 e = by a.uri b.uri refl refl e
  where
    by : (u v : List ℕ) → a.uri ≡ u → b.uri ≡ v → named_step a.local u ≡ named_step b.local v → expanded a ≡ expanded b
    by [] [] is is_2 e = let same : a.local ≡ b.local = ap (drop 2) e in rw (is, is_2, same) refl
    by [] (c ∷ v) is is_2 e = absurd (no_star a.local _ plain (ap (drop 2) e))
    by (c ∷ u) [] is is_2 e = absurd (no_star b.local _ plain_2 (ap (drop 2) (sym e)))
    by (c ∷ u) (d ∷ v) is is_2 e =
        let parts = expanded_told a.local b.local (c ∷ u) (d ∷ v) plain plain_2 e in rw (is, is_2, parts.0, parts.1) refl
