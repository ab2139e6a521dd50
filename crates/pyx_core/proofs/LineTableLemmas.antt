-- Facts on single lines.
use Rattle.std.proofs.Common.{◌≡◌, ℕ, ◌+◌, ◌<◌, ◌≤◌, ⊎_elim, true, false, Bool, List, [], ◌∷◌, ◌++◌, length, arith, ◌∙◌, ap, length-append}
use Rattle.std.specs.List.{position_or_len, before_first, after_first}
use Rattle.std.specs.Prelude.{IsUtf8}
use Rattle.std.specs.Char.{encode_utf8}
use Rattle.std.specs.Str.{is_utf8}
use Rattle.std.proofs.Math.Seq.{take-length}
use Rattle.std.proofs.lemmas.List.{drop_all}
use Rattle.std.proofs.lemmas.Bool.{false_from_ne_true, cases_lt}
use Rattle.std.proofs.lemmas.Bool.Decides.{nat_tests}
use Rattle.std.proofs.lemmas.Str.{IsUtf8-from_is_utf8, is_utf8-from_IsUtf8, encode_ascii, char_from_byte, length-encode, len_utf8_bounds}
use Rattle.pyx_core.specs.LineTable.{read_text, read_marked}

-- where no byte passes, all of them stand before the first that does
pub before_none : (p : ℕ → Bool) (xs : List ℕ) → position_or_len p xs ≡ length xs → before_first p xs ≡ xs
before_none p xs e = rw e (take-length xs)

pub after_none : (p : ℕ → Bool) (xs : List ℕ) → position_or_len p xs ≡ length xs → after_first p xs ≡ []
after_none p xs e = rw e (drop_all (length xs + 1) xs (omega arith))

-- bytes that are no text
pub not_utf8 : (bytes : List ℕ) → (IsUtf8 bytes → ⊥) → is_utf8 bytes ≡ false
not_utf8 bytes not = false_from_ne_true (is_utf8 bytes) (λ h. not (IsUtf8-from_is_utf8 bytes h))

pub is_utf8_text : (bytes : List ℕ) → IsUtf8 bytes → is_utf8 bytes ≡ true
is_utf8_text bytes h = is_utf8-from_IsUtf8 bytes h

-- a mark past ASCII begins no line
unknown : (mark : ℕ) (body more : List ℕ) (c : ℕ) → 128 ≤ mark → 128 ≤ c → read_marked mark body ≡ read_marked c more
unknown mark body more c high higher = grind (arith, nat_tests)

-- a line by its first character
pub read_text_by_char : (c : ℕ) (text rest : List ℕ) → text ≡ encode_utf8 c ++ rest → read_text text ≡ read_marked c rest
read_text_by_char c [] rest is =
    let none : 0 ≡ length (encode_utf8 c ++ rest) = ap length is in
    let sum : length (encode_utf8 c ++ rest) ≡ length (encode_utf8 c) + length rest = length-append (encode_utf8 c) rest in
    let size = length-encode c in
    absurd (omega (arith, len_utf8_bounds c))
read_text_by_char c (mark ∷ body) rest is = ⊎_elim
    (λ (low : c < 128). ap read_text (is ∙ ap (λ l. l ++ rest) (encode_ascii c low)))
    (λ (high : 128 ≤ c). ⊎_elim
    (λ (lower : mark < 128). let same : c ≡ mark = char_from_byte (mark ∷ body) rest c is lower (omega arith) in absurd (omega arith))
    (λ (higher : 128 ≤ mark). unknown mark body rest c higher high) (cases_lt mark 128))
    (cases_lt c 128)
