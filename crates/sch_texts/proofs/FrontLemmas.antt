-- Characters at the front of a text.
use Rattle.std.proofs.Common.{◌≡◌, ℕ, Bool, true, false, cond, List, [], ◌∷◌, ◌++◌, length, refl, sym, ap, ◌∙◌, append_assoc}
use Rattle.std.specs.Prelude.{encode_utf8, encode_utf8_all, chars, IsUtf8}
use Rattle.std.proofs.lemmas.Str.{chars-nil, chars_past_char}
use Rattle.sch_base.specs.Characters.{is_name_char, is_name_start}
use Rattle.sch_texts.specs.Names.{longest_name, name_chars}
use Rattle.sch_texts.specs.Fronts.{IsAfter}

-- nothing is found at the front
pub after-none : (front : List ℕ → List ℕ) (text : List ℕ) → front (chars text) ≡ [] → IsAfter front text text
after-none front text none = record {
  characters = ap (λ l. l ++ chars text) (sym none);
  bytes = ap (λ l. encode_utf8_all l ++ text) (sym none);
}

-- a character and what is found behind it
pub after-more : (front inner : List ℕ → List ℕ) (text behind rest : List ℕ) (c : ℕ) → IsUtf8 text → text ≡ encode_utf8 c ++ behind →
    front (c ∷ chars behind) ≡ c ∷ inner (chars behind) → IsAfter inner behind rest → IsAfter front text rest
after-more front inner text behind rest c utf8 split takes after =
    let its : chars text ≡ c ∷ chars behind = chars_past_char text behind c utf8 split in
    let found : front (chars text) ≡ c ∷ inner (chars behind) = ap front its ∙ takes in
    record {
      characters = its ∙ ap (λ l. c ∷ l) after.characters ∙ ap (λ l. l ++ chars rest) (sym found);
      bytes = split ∙ ap (λ l. encode_utf8 c ++ l) after.bytes
          ∙ sym (append_assoc (encode_utf8 c) (encode_utf8_all (inner (chars behind))) rest)
          ∙ ap (λ l. encode_utf8_all l ++ rest) (sym found);
    }

chosen : {A : Type 0} (b : Bool) (x y : A) → b ≡ true → cond b x y ≡ x
chosen true x y e = refl
chosen false x y e = absurd (cc)

passed-by : {A : Type 0} (b : Bool) (x y : A) → b ≡ false → cond b x y ≡ y
passed-by false x y e = refl
passed-by true x y e = absurd (cc)

pub chars-more : (text behind rest : List ℕ) (c : ℕ) → IsUtf8 text → text ≡ encode_utf8 c ++ behind → is_name_char c ≡ true →
    IsAfter name_chars behind rest → IsAfter name_chars text rest
chars-more text behind rest c utf8 split passes after =
    after-more name_chars name_chars text behind rest c utf8 split (chosen (is_name_char c) (c ∷ name_chars (chars behind)) [] passes) after

pub name-more : (text behind rest : List ℕ) (c : ℕ) → IsUtf8 text → text ≡ encode_utf8 c ++ behind → is_name_start c ≡ true →
    IsAfter name_chars behind rest → IsAfter longest_name text rest
name-more text behind rest c utf8 split passes after =
    after-more longest_name name_chars text behind rest c utf8 split (chosen (is_name_start c) (c ∷ name_chars (chars behind)) [] passes) after

pub chars-stop : (text behind : List ℕ) (c : ℕ) → IsUtf8 text → text ≡ encode_utf8 c ++ behind → is_name_char c ≡ false → IsAfter name_chars text text
chars-stop text behind c utf8 split fails = after-none name_chars text
    (ap name_chars (chars_past_char text behind c utf8 split) ∙ passed-by (is_name_char c) (c ∷ name_chars (chars behind)) [] fails)

pub name-stop : (text behind : List ℕ) (c : ℕ) → IsUtf8 text → text ≡ encode_utf8 c ++ behind → is_name_start c ≡ false → IsAfter longest_name text text
name-stop text behind c utf8 split fails = after-none longest_name text
    (ap longest_name (chars_past_char text behind c utf8 split) ∙ passed-by (is_name_start c) (c ∷ name_chars (chars behind)) [] fails)

-- an empty text
empty-chars : (text : List ℕ) → length text ≡ 0 → chars text ≡ []
empty-chars [] e = chars-nil
empty-chars (b ∷ text) e = absurd (cc)

pub chars-end : (text : List ℕ) → length text ≡ 0 → IsAfter name_chars text text
chars-end text e = after-none name_chars text (ap name_chars (empty-chars text e))

pub name-end : (text : List ℕ) → length text ≡ 0 → IsAfter longest_name text text
name-end text e = after-none longest_name text (ap longest_name (empty-chars text e))
