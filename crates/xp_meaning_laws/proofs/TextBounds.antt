-- The functions on texts give texts no longer than those that they are given, or refuse them.
use Rattle.std.proofs.Common.{◌≡◌, ℕ, ◌+◌, ◌≤◌, Bool, true, false, cond, ◌&&◌, List, [], ◌∷◌, ◌++◌, length, drop, Option, None, Some, Ok, Err, refl, sym, subst, arith, true≢false, leb, leb-true, IsUtf8, encode_utf8, encode_utf8_all, chars, flat_map, option_to_list, eqb}
use Rattle.std.specs.Str.{all_scalars}
use Rattle.std.proofs.lemmas.List.{length-append, length-take, length-drop, drop-drop}
use Rattle.std.proofs.lemmas.Str.{IsUtf8-nil, IsUtf8-take, IsUtf8-drop, scalars-chars, encodes-chars, length-encode, length-le-encodes, len_utf8_bounds, len_utf8_ascii}
use Rattle.sch_base.specs.Characters.{is_whitespace}
use Rattle.sch_base.specs.declared.limits.TheConstants.{MAX_TEXT_BYTES}
use Rattle.xp_values.specs.declared.numbers.Num.{Num}
use Rattle.xp_values.specs.declared.values.EvalFault.{EvalFault}
use Rattle.xp_values.specs.declared.values.EvalFault.TheVariants.{TextLimit}
use Rattle.xp_values.specs.Texts.{limited, first_place, before_place, after_place, substring_before, substring_after, is_within, at_positions, substring, begins_word, without_front_spaces, squeezed, normalize_space, counterpart, replaced_by, replacement, translate}
use Rattle.xp_values.proofs.TextLemmas.{place_cuts}
use Rattle.xp_meaning.proofs.Choices.{same_ok}
use Rattle.xp_meaning_laws.specs.Bounds.{IsText}

both : (a b : Bool) → a ≡ true → b ≡ true → (a && b) ≡ true
both true b ea eb = eb
both false b ea eb = absurd (true≢false (sym ea))

parts : (a b : Bool) → (a && b) ≡ true → (a ≡ true) × (b ≡ true)
parts true b h = (refl, h)
parts false b h = absurd (true≢false (sym h))

-- characters that are spelt in no more bytes than others
abbrev Spelt : List ℕ → ℕ → Type 0
Spelt cs most = (all_scalars cs ≡ true) × (length (encode_utf8_all cs) ≤ most)

spelt-text : (cs : List ℕ) (most : ℕ) → most ≤ MAX_TEXT_BYTES → Spelt cs most → IsText (encode_utf8_all cs)
spelt-text cs most few h = ((cs, (h.0, refl)), omega (arith, few, h.1))

spelt-cons : (c : ℕ) (cs ds : List ℕ) → all_scalars (c ∷ cs) ≡ true → (all_scalars cs ≡ true → Spelt ds (length (encode_utf8_all cs))) → Spelt (c ∷ ds) (length (encode_utf8_all (c ∷ cs)))
spelt-cons c cs ds h more =
    let p = parts _ (all_scalars cs) h in
    let q = more p.1 in
    (both _ (all_scalars ds) p.0 q.0, omega (arith, q.1, length-append (encode_utf8 c) (encode_utf8_all ds), length-append (encode_utf8 c) (encode_utf8_all cs)))

spelt-skip : (c : ℕ) (cs ds : List ℕ) → all_scalars (c ∷ cs) ≡ true → (all_scalars cs ≡ true → Spelt ds (length (encode_utf8_all cs))) → Spelt ds (length (encode_utf8_all (c ∷ cs)))
spelt-skip c cs ds h more =
    let q = more (parts _ (all_scalars cs) h).1 in
    (q.0, omega (arith, q.1, length-append (encode_utf8 c) (encode_utf8_all cs)))

spelt-space : (c : ℕ) (cs ds : List ℕ) → all_scalars (c ∷ cs) ≡ true → (all_scalars cs ≡ true → Spelt ds (length (encode_utf8_all cs))) → Spelt (32 ∷ ds) (length (encode_utf8_all (c ∷ cs)))
spelt-space c cs ds h more =
    let q = more (parts _ (all_scalars cs) h).1 in
    (q.0, omega (arith, q.1, length-append (encode_utf8 32) (encode_utf8_all ds), length-append (encode_utf8 c) (encode_utf8_all cs), length-encode c, (len_utf8_bounds c).0, length-encode 32, len_utf8_ascii 32 (omega arith)))

at_positions-spelt : (keep : ℕ → Bool) (i : ℕ) (cs : List ℕ) → all_scalars cs ≡ true → Spelt (at_positions keep i cs) (length (encode_utf8_all cs))
at_positions-spelt keep i [] h = (refl, omega arith)
at_positions-spelt keep i (c ∷ cs) h =
    elim (keep i) as (λ b. Spelt (cond b (c ∷ at_positions keep (i + 1) cs) (at_positions keep (i + 1) cs)) (length (encode_utf8_all (c ∷ cs)))) [
      | true ↦ spelt-cons c cs (at_positions keep (i + 1) cs) h (λ k. at_positions-spelt keep (i + 1) cs k)
      | false ↦ spelt-skip c cs (at_positions keep (i + 1) cs) h (λ k. at_positions-spelt keep (i + 1) cs k)
    ]

squeezed-spelt : (cs : List ℕ) → all_scalars cs ≡ true → Spelt (squeezed cs) (length (encode_utf8_all cs))
squeezed-spelt [] h = (refl, omega arith)
squeezed-spelt (c ∷ cs) h =
    elim (is_whitespace c) as (λ b. Spelt (cond b (cond (begins_word cs) (32 ∷ squeezed cs) (squeezed cs)) (c ∷ squeezed cs)) (length (encode_utf8_all (c ∷ cs)))) [
      | true ↦ elim (begins_word cs) as (λ b. Spelt (cond b (32 ∷ squeezed cs) (squeezed cs)) (length (encode_utf8_all (c ∷ cs)))) [
        | true ↦ spelt-space c cs (squeezed cs) h (λ k. squeezed-spelt cs k)
        | false ↦ spelt-skip c cs (squeezed cs) h (λ k. squeezed-spelt cs k)
      ]
      | false ↦ spelt-cons c cs (squeezed cs) h (λ k. squeezed-spelt cs k)
    ]

front-spelt : (cs : List ℕ) → all_scalars cs ≡ true → Spelt (without_front_spaces cs) (length (encode_utf8_all cs))
front-spelt [] h = (refl, omega arith)
front-spelt (c ∷ cs) h =
    elim (is_whitespace c) as (λ b. Spelt (cond b (without_front_spaces cs) (c ∷ cs)) (length (encode_utf8_all (c ∷ cs)))) [
      | true ↦ spelt-skip c cs (without_front_spaces cs) h (λ k. front-spelt cs k)
      | false ↦ (h, omega arith)
    ]

-- the characters of a text
chars-spelt : (s : List ℕ) → IsText s → Spelt (chars s) MAX_TEXT_BYTES
chars-spelt s h = (scalars-chars s h.0, subst (λ bytes. length bytes ≤ MAX_TEXT_BYTES) (sym (encodes-chars s h.0)) h.1)

pub few_chars : (s : List ℕ) → IsText s → length (chars s) ≤ MAX_TEXT_BYTES
few_chars s h = omega (arith, length-le-encodes (chars s), (chars-spelt s h).1)

pub no_text : IsText []
no_text = (IsUtf8-nil, omega arith)

pub substring_text : (s : List ℕ) (from : Num) (len : Option Num) → IsText s → IsText (substring s from len)
substring_text s from len h =
    let c = chars-spelt s h in
    spelt-text (at_positions (is_within from len) 1 (chars s)) (length (encode_utf8_all (chars s))) c.1 (at_positions-spelt (is_within from len) 1 (chars s) c.0)

pub normalized_text : (s : List ℕ) → IsText s → IsText (normalize_space s)
normalized_text s h =
    let c = chars-spelt s h in
    let f = front-spelt (chars s) c.0 in
    let q = squeezed-spelt (without_front_spaces (chars s)) f.0 in
    spelt-text (squeezed (without_front_spaces (chars s))) (length (encode_utf8_all (chars s))) c.1 (q.0, omega (arith, q.1, f.1))

pub before_text : (s part : List ℕ) → IsText s → IsText part → IsText (substring_before s part)
before_text s part h k = by (first_place s part) refl
  where
    by : (o : Option ℕ) → first_place s part ≡ o → IsText (before_place s o)
    by None e = no_text
    by (Some n) e = (IsUtf8-take s n h.0 (place_cuts s part n h.0 k.0 e).before, omega (arith, h.1, length-take n s))

pub after_text : (s part : List ℕ) → IsText s → IsText part → IsText (substring_after s part)
after_text s part h k = by (first_place s part) refl
  where
    by : (o : Option ℕ) → first_place s part ≡ o → IsText (after_place s part o)
    by None e = no_text
    by (Some n) e =
        let cuts = place_cuts s part n h.0 k.0 e in (
          subst IsUtf8 (drop-drop (length part) n s) (IsUtf8-drop (drop n s) (length part) (IsUtf8-drop s n h.0 cuts.before) cuts.after),
          omega (arith, h.1, length-drop (n + length part) s),
        )

-- a limited text is one
pub limited_text : (s v : List ℕ) → IsUtf8 s → limited s ≡ Ok v → IsText v
limited_text s v u is = by (leb (length s) MAX_TEXT_BYTES) refl is
  where
    by : (b : Bool) → leb (length s) MAX_TEXT_BYTES ≡ b → cond b (Ok s) (Err TextLimit) ≡ Ok v → IsText v
    by true e h = subst IsText (same_ok {F = EvalFault} s v h) (u, leb-true (length s) MAX_TEXT_BYTES e)
    by false e h = cc

-- what a character is replaced by
abbrev MaybeScalar : Option (Option ℕ) → Type 0
MaybeScalar None = Unit {0}
MaybeScalar (Some None) = Unit {0}
MaybeScalar (Some (Some t)) = all_scalars (t ∷ []) ≡ true

counterpart-scalar : (from to : List ℕ) (c : ℕ) → all_scalars to ≡ true → MaybeScalar (counterpart from to c)
counterpart-scalar [] to c h = tt
counterpart-scalar (f ∷ from) [] c h = elim (eqb f c) as (λ b. MaybeScalar (cond b (Some None) (counterpart from [] c))) [ true ↦ tt | false ↦ counterpart-scalar from [] c h ]
counterpart-scalar (f ∷ from) (t ∷ to) c h =
    let p = parts _ (all_scalars to) h in
    elim (eqb f c) as (λ b. MaybeScalar (cond b (Some (Some t)) (counterpart from to c))) [ true ↦ both _ true p.0 refl | false ↦ counterpart-scalar from to c p.1 ]

replaced-scalars : (c : ℕ) (o : Option (Option ℕ)) → all_scalars (c ∷ []) ≡ true → MaybeScalar o → all_scalars (option_to_list (replaced_by c o)) ≡ true
replaced-scalars c None h k = h
replaced-scalars c (Some None) h k = refl
replaced-scalars c (Some (Some t)) h k = k

scalars-append : (xs ys : List ℕ) → all_scalars xs ≡ true → all_scalars ys ≡ true → all_scalars (xs ++ ys) ≡ true
scalars-append [] ys h k = k
scalars-append (x ∷ xs) ys h k = let p = parts _ (all_scalars xs) h in both _ (all_scalars (xs ++ ys)) p.0 (scalars-append xs ys p.1 k)

translated-scalars : (from to cs : List ℕ) → all_scalars to ≡ true → all_scalars cs ≡ true → all_scalars (flat_map (replacement from to) cs) ≡ true
translated-scalars from to [] h k = refl
translated-scalars from to (c ∷ cs) h k =
    let p = parts _ (all_scalars cs) k in
    scalars-append (replacement from to c) (flat_map (replacement from to) cs)
    (replaced-scalars c (counterpart from to c) (both _ true p.0 refl) (counterpart-scalar from to c h)) (translated-scalars from to cs h p.1)

pub translated_text : (s from to v : List ℕ) → IsText s → IsText to → translate s from to ≡ Ok v → IsText v
translated_text s from to v h k is =
    let cs : List ℕ = flat_map (replacement (chars from) (chars to)) (chars s) in
    limited_text (encode_utf8_all cs) v (cs, (translated-scalars (chars from) (chars to) (chars s) (scalars-chars to k.0) (scalars-chars s h.0), refl)) is
