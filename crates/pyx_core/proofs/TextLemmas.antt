-- Texts made of Chars, their parts, and their escapes undone.
use Rattle.std.proofs.Common.{◌≡◌, ℕ, zero, suc, ◌+◌, ◌<◌, Bool, true, false, ◌&&◌, nat_eq, List, [], ◌∷◌, ◌++◌, length, get_or, arith, refl, sym, ◌∙◌, ap, length-append}
use Rattle.std.specs.Prelude.{IsUtf8}
use Rattle.std.specs.Char.{encode_utf8}
use Rattle.std.specs.List.{list_any, list_all, position_or_len, before_first, after_first}
use Rattle.std.specs.Str.{chars, is_utf8}
use Rattle.std.proofs.Math.Seq.{take-append_seam, drop-append_seam, get_or-append_seam}
use Rattle.std.proofs.lemmas.Bool.{eqb-true, and_parts, and_from}
use Rattle.std.proofs.lemmas.Grind.{common_steps}
use Rattle.std.proofs.lemmas.List.Folds.{list_all-append}
use Rattle.std.proofs.lemmas.Str.{IsUtf8-from_is_utf8, is_utf8-from_IsUtf8, IsUtf8-append, IsUtf8-nil, IsUtf8-from_ascii, chars-nil, IsUtf8-past_char, IsUtf8-take, IsUtf8-drop, IsCharBoundary-before_ascii, chars-append, encode_ascii}
use Rattle.sch_base.specs.Characters.{is_xml_char}
use Rattle.pyx_core.proofs.LineTableLemmas.{before_none, after_none}
use Rattle.pyx_core.specs.LineTable.{is_space}
use Rattle.pyx_core.specs.Nesting.{of_chars}

pub utf8_of : (text : List ℕ) → of_chars text ≡ true → IsUtf8 text
utf8_of text h = IsUtf8-from_is_utf8 text (and_parts (is_utf8 text) _ h).0

pub made_of : (text : List ℕ) → IsUtf8 text → list_all is_xml_char (chars text) ≡ true → of_chars text ≡ true
made_of text utf8 made = and_from (is_utf8 text) _ (is_utf8-from_IsUtf8 text utf8) made

all_of : (xs ys : List ℕ) → IsUtf8 xs →
    list_all is_xml_char (chars (xs ++ ys)) ≡ (list_all is_xml_char (chars xs) && list_all is_xml_char (chars ys))
all_of xs ys utf8 = ap (list_all is_xml_char) (chars-append xs ys utf8) ∙ list_all-append is_xml_char (chars xs) (chars ys)

pub of_chars_append : (xs ys : List ℕ) → of_chars xs ≡ true → of_chars ys ≡ true → of_chars (xs ++ ys) ≡ true
of_chars_append xs ys one other =
    made_of (xs ++ ys) (IsUtf8-append xs ys (utf8_of xs one) (utf8_of ys other))
    (all_of xs ys (utf8_of xs one) ∙ and_from _ _ (and_parts (is_utf8 xs) _ one).1 (and_parts (is_utf8 ys) _ other).1)

pub of_chars_parts : (xs ys : List ℕ) → IsUtf8 xs → IsUtf8 ys → of_chars (xs ++ ys) ≡ true →
    (of_chars xs ≡ true) × (of_chars ys ≡ true)
of_chars_parts xs ys one other h =
    let all = and_parts _ _ (sym (all_of xs ys one) ∙ (and_parts (is_utf8 (xs ++ ys)) _ h).1) in
    (made_of xs one all.0, made_of ys other all.1)

ascii_at : (c : ℕ) → c < 128 → (i : ℕ) → get_or (c ∷ []) i 0 < 128
ascii_at c low zero = low
ascii_at c low (suc i) = omega arith

pub ascii_utf8 : (c : ℕ) → c < 128 → IsUtf8 (c ∷ [])
ascii_utf8 c low = IsUtf8-from_ascii (c ∷ []) (ascii_at c low)

-- after an ASCII character, and in front of one
pub behind_ascii : (c : ℕ) (text : List ℕ) → c < 128 → of_chars (c ∷ text) ≡ true → of_chars text ≡ true
behind_ascii c text low h =
    let is : c ∷ text ≡ encode_utf8 c ++ text = ap (λ l. l ++ text) (sym (encode_ascii c low)) in
    (of_chars_parts (c ∷ []) text (ascii_utf8 c low) (IsUtf8-past_char (c ∷ text) text c (utf8_of (c ∷ text) h) is) h).1

pub front_ascii : (c : ℕ) (xs ys : List ℕ) → c < 128 → of_chars (xs ++ c ∷ ys) ≡ true → of_chars xs ≡ true
front_ascii c xs ys low h =
    let utf8 = utf8_of (xs ++ c ∷ ys) h in
    let here : get_or (xs ++ c ∷ ys) (length xs) 0 ≡ c = get_or-append_seam xs c ys 0 in
    let less : length xs < length (xs ++ c ∷ ys) = omega (arith, length-append xs (c ∷ ys)) in
    let edge = IsCharBoundary-before_ascii (xs ++ c ∷ ys) (length xs) less (omega arith) in
    let front : IsUtf8 xs = rw (take-append_seam xs (c ∷ ys)) at (IsUtf8-take (xs ++ c ∷ ys) (length xs) utf8 edge) in
    let back : IsUtf8 (c ∷ ys) = rw (drop-append_seam xs (c ∷ ys)) at (IsUtf8-drop (xs ++ c ∷ ys) (length xs) utf8 edge) in
    (of_chars_parts xs (c ∷ ys) front back h).0

pub behind_front : (c : ℕ) (xs ys : List ℕ) → c < 128 → of_chars (xs ++ c ∷ ys) ≡ true → of_chars ys ≡ true
behind_front c xs ys low h =
    let utf8 = utf8_of (xs ++ c ∷ ys) h in
    let here : get_or (xs ++ c ∷ ys) (length xs) 0 ≡ c = get_or-append_seam xs c ys 0 in
    let less : length xs < length (xs ++ c ∷ ys) = omega (arith, length-append xs (c ∷ ys)) in
    let edge = IsCharBoundary-before_ascii (xs ++ c ∷ ys) (length xs) less (omega arith) in
    let front : IsUtf8 xs = rw (take-append_seam xs (c ∷ ys)) at (IsUtf8-take (xs ++ c ∷ ys) (length xs) utf8 edge) in
    let back : IsUtf8 (c ∷ ys) = rw (drop-append_seam xs (c ∷ ys)) at (IsUtf8-drop (xs ++ c ∷ ys) (length xs) utf8 edge) in
    behind_ascii c ys low (of_chars_parts xs (c ∷ ys) front back h).1

-- where there is no space
pub no_space : (xs : List ℕ) → list_any is_space xs ≡ false → position_or_len is_space xs ≡ length xs
no_space [] none = refl
no_space (b ∷ xs) none = grind (arith, common_steps, no_space xs)

cut_by : (c b : ℕ) (xs : List ℕ) (v : Bool) → nat_eq b c ≡ v →
    (list_any (λ x. nat_eq x c) xs ≡ true → xs ≡ before_first (λ x. nat_eq x c) xs ++ c ∷ after_first (λ x. nat_eq x c) xs) →
    list_any (λ x. nat_eq x c) (b ∷ xs) ≡ true →
    b ∷ xs ≡ before_first (λ x. nat_eq x c) (b ∷ xs) ++ c ∷ after_first (λ x. nat_eq x c) (b ∷ xs)
cut_by c b xs true is rest some = rw is (ap (λ d. d ∷ xs) (eqb-true b c is))
cut_by c b xs false is rest some =
    let later : xs ≡ before_first (λ x. nat_eq x c) xs ++ c ∷ after_first (λ x. nat_eq x c) xs = rest (rw is at some) in
    let one : 1 + position_or_len (λ x. nat_eq x c) xs ≡ suc (position_or_len (λ x. nat_eq x c) xs) = omega arith in
    let two : suc (position_or_len (λ x. nat_eq x c) xs) + 1 ≡ suc (position_or_len (λ x. nat_eq x c) xs + 1) = omega arith in
    rw (is, one, two) (ap (λ l. b ∷ l) later)

-- a text is cut at the first byte of a kind that it has
pub cut_at : (c : ℕ) (xs : List ℕ) → list_any (λ x. nat_eq x c) xs ≡ true →
    xs ≡ before_first (λ x. nat_eq x c) xs ++ c ∷ after_first (λ x. nat_eq x c) xs
cut_at c [] some = absurd (cc)
cut_at c (b ∷ xs) some = cut_by c b xs (nat_eq b c) refl (cut_at c xs) some

parts_by : (xs : List ℕ) (v : Bool) → list_any is_space xs ≡ v → of_chars xs ≡ true →
    (of_chars (before_first is_space xs) ≡ true) × (of_chars (after_first is_space xs) ≡ true)
parts_by xs true some h =
    let cut : of_chars (before_first is_space xs ++ 32 ∷ after_first is_space xs) ≡ true =
    ap of_chars (sym (cut_at 32 xs some)) ∙ h in (
      front_ascii 32 (before_first is_space xs) (after_first is_space xs) (omega arith) cut,
      behind_front 32 (before_first is_space xs) (after_first is_space xs) (omega arith) cut,
    )
parts_by xs false none h =
    let whole = no_space xs none in (
      ap of_chars (before_none is_space xs whole) ∙ h,
      ap of_chars (after_none is_space xs whole) ∙ made_of [] IsUtf8-nil (rw chars-nil refl),
    )

-- the parts of a line after its mark
pub parts_made : (xs : List ℕ) → of_chars xs ≡ true →
    (of_chars (before_first is_space xs) ≡ true) × (of_chars (after_first is_space xs) ≡ true)
parts_made xs h = parts_by xs (list_any is_space xs) refl h
