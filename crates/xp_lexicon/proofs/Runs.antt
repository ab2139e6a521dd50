-- Characters in a row, and what stands after them.
use Rattle.std.proofs.Common.{◌≡◌, ℕ, ◌<◌, Bool, true, false, List, [], ◌∷◌, ◌++◌, length, refl, sym, ap, subst, ◌∙◌, append_assoc, arith, length-append}
use Rattle.std.specs.Prelude.{encode_utf8, encode_utf8_all, IsUtf8}
use Rattle.std.specs.Str.{all_scalars}
use Rattle.std.proofs.lemmas.Bool.{and_parts, and_from}
use Rattle.std.proofs.lemmas.Str.{encode_ascii, encode_same, length-encode, len_utf8_bounds}
use Rattle.xp_lexicon.specs.inner.Scanning.{Stops, Ran}

-- a character takes a byte or more
pub encode_takes : (c : ℕ) (after : List ℕ) → 0 < length (encode_utf8 c ++ after)
encode_takes c after = omega (arith, length-append (encode_utf8 c) after, length-encode c, len_utf8_bounds c)

pub no_character : (c : ℕ) (after : List ℕ) → [] ≡ encode_utf8 c ++ after → ⊥
no_character c after e = omega (arith, encode_takes c after, ap length e)

pub stops_at_end : (test : ℕ → Bool) (text : List ℕ) → length text ≡ 0 → Stops test text
stops_at_end test text none = λ c after e. absurd (omega (arith, encode_takes c after, ap length e))

pub stops_at : (test : ℕ → Bool) (text behind : List ℕ) (c : ℕ) → text ≡ encode_utf8 c ++ behind → test c ≡ false → Stops test text
stops_at test text behind c split fails = λ d after e.
    subst (λ x. test x ≡ false) (encode_same c d behind after (sym split ∙ e)).0 fails

-- an ASCII character in front
pub stops_at_ascii : (test : ℕ → Bool) (behind : List ℕ) (c : ℕ) → c < 128 → test c ≡ false → Stops test (c ∷ behind)
stops_at_ascii test behind c low fails =
    stops_at test (c ∷ behind) behind c (ap (λ l. l ++ behind) (sym (encode_ascii c low))) fails

scalar_of : (cs text behind : List ℕ) (c : ℕ) → all_scalars cs ≡ true → encode_utf8_all cs ≡ text → text ≡ encode_utf8 c ++ behind →
    all_scalars (c ∷ []) ≡ true
scalar_of [] text behind c scalars is split = absurd (no_character c behind (is ∙ split))
scalar_of (d ∷ ds) text behind c scalars is split =
    let same = encode_same d c (encode_utf8_all ds) behind (is ∙ split) in
    subst (λ x. all_scalars (x ∷ []) ≡ true) same.0 (and_from _ true (and_parts _ _ scalars).0 refl)

-- the first character of a text is a scalar value
pub first_is_scalar : (text behind : List ℕ) (c : ℕ) → IsUtf8 text → text ≡ encode_utf8 c ++ behind → all_scalars (c ∷ []) ≡ true
first_is_scalar text behind c utf8 split = scalar_of utf8.0 text behind c utf8.1.0 utf8.1.1 split

pub ran_none : (test : ℕ → Bool) (text : List ℕ) → Stops test text → Ran test text text
ran_none test text stops = record { run = []; split = refl; scalars = refl; pass = refl; stops = stops }

-- one character more in front
pub ran_more : (test : ℕ → Bool) (text behind rest : List ℕ) (c : ℕ) → IsUtf8 text → text ≡ encode_utf8 c ++ behind → test c ≡ true →
    Ran test behind rest → Ran test text rest
ran_more test text behind rest c utf8 split pass r = record {
  run = c ∷ r.run;
  split = split ∙ ap (λ l. encode_utf8 c ++ l) r.split ∙ sym (append_assoc (encode_utf8 c) (encode_utf8_all r.run) rest);
  scalars = and_from _ _ (and_parts _ _ (first_is_scalar text behind c utf8 split)).0 r.scalars;
  pass = and_from _ _ pass r.pass;
  stops = r.stops;
}
