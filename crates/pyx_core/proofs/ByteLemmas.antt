-- Where a search for a byte of a text ends.
use Rattle.std.proofs.Common.{◌≡◌, ℕ, zero, suc, ◌+◌, ◌<◌, Bool, true, false, nat_eq, List, [], ◌∷◌, length, take, drop, get_or, None, Some, arith, refl, ap}
use Rattle.std.specs.Prelude.{IsUtf8}
use Rattle.std.specs.List.{list_all, list_any, position_or_len, before_first, after_first}
use Rattle.std.specs.Str.{IsCharBoundary}
use Rattle.std.proofs.lemmas.Bool.{eqb-true, false_from_ne_true, and_parts}
use Rattle.std.proofs.lemmas.Bool.Decides.{nat_tests}
use Rattle.std.proofs.lemmas.List.Folds.{list_any_at}
use Rattle.std.proofs.lemmas.List.Sums.{position_or_len_is}
use Rattle.std.proofs.lemmas.Str.{IsCharBoundary-after_ascii}
use Rattle.memchr.specs.Find.{IsFirstByte, is_byte}
use Rattle.pyx_core.specs.Escapes.{unescaped}
use Rattle.pyx_core.specs.inner.Plain.{is_literal}
use Rattle.pyx_core.proofs.Undoing.{unescaped_whole}

-- the byte stands nowhere
pub none_found : (c : ℕ) (text : List ℕ) → IsFirstByte (is_byte c) text None → position_or_len (λ b. nat_eq b c) text ≡ length text
none_found c text none =
    position_or_len_is (λ b. nat_eq b c) text (length text) 0 (omega arith)
    (λ k less. false_from_ne_true _ (none k (omega arith) less)) (λ less. absurd (omega arith))

-- it stands there first
found_at : (c : ℕ) (text : List ℕ) (at : ℕ) → IsFirstByte (is_byte c) text (Some at) →
    position_or_len (λ b. nat_eq b c) text ≡ at
found_at c text at found =
    position_or_len_is (λ b. nat_eq b c) text at 0 (omega (arith, found.0.high))
    (λ k less. false_from_ne_true _ (found.0.before k (omega arith) less)) (λ less. found.1)

-- what stands before it and after it
pub found_parts : (c : ℕ) (text : List ℕ) (at : ℕ) → IsFirstByte (is_byte c) text (Some at) →
    (list_any (λ b. nat_eq b c) text ≡ true) × (before_first (λ b. nat_eq b c) text ≡ take at text)
    × (after_first (λ b. nat_eq b c) text ≡ drop (at + 1) text)
found_parts c text at found =
    let place = found_at c text at found in (
      list_any_at (λ b. nat_eq b c) text at 0 found.0.high found.1,
      ap (λ n. take n text) place,
      ap (λ n. drop (n + 1) text) place,
    )

-- the text may be cut after it
pub cut_behind : (c : ℕ) (text : List ℕ) (at : ℕ) → c < 128 → IsUtf8 text → IsFirstByte (is_byte c) text (Some at) →
    IsCharBoundary text (at + 1)
cut_behind c text at low utf8 found =
    let is : get_or text at 0 ≡ c = eqb-true (get_or text at 0) c found.1 in
    IsCharBoundary-after_ascii text at utf8 found.0.high (omega arith)

-- a text without a backslash has no escapes
pub no_escape : (text : List ℕ) → IsFirstByte (is_byte 92) text None → unescaped text ≡ text
no_escape text none = unescaped_whole text (none_found 92 text none)

-- nor has one of characters that stand for themselves
no_backslash : (b : ℕ) → is_literal b ≡ true → nat_eq b 92 ≡ false
no_backslash b h = false_from_ne_true (nat_eq b 92) (λ e. let is = eqb-true b 92 e in grind (arith, nat_tests))

pub literal_unescaped : (text : List ℕ) → list_all is_literal text ≡ true → unescaped text ≡ text
literal_unescaped [] h = refl
literal_unescaped (b ∷ text) h =
    let parts = and_parts (is_literal b) _ h in
    rw (no_backslash b parts.0) (ap (λ l. b ∷ l) (literal_unescaped text parts.1))

-- and what stands behind a place of these is made of such characters too
all_behind : (p : ℕ → Bool) (xs : List ℕ) (n : ℕ) → list_all p xs ≡ true → list_all p (drop n xs) ≡ true
all_behind p xs zero h = h
all_behind p [] (suc n) h = refl
all_behind p (x ∷ xs) (suc n) h = all_behind p xs n (and_parts (p x) _ h).1

pub literal_after : (c : ℕ) (text after : List ℕ) → list_all is_literal text ≡ true →
    after ≡ after_first (λ b. nat_eq b c) text → list_all is_literal after ≡ true
literal_after c text after h is = rw is (all_behind is_literal text (position_or_len (λ b. nat_eq b c) text + 1) h)
