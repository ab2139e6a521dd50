-- The lengths of filled texts, piece by piece.
use Rattle.std.proofs.Common.{arith, ◌≡◌, ℕ, ◌+◌, ◌-◌, ◌^◌, min, List, [], ◌++◌, length, sym, ap, ◌∙◌}
use Rattle.pyx_core.specs.Escapes.{escaped}
use Rattle.sch_flat.specs.FlatSize.{capped, escapes_len}
use Rattle.sch_flat.proofs.SizeLemmas.{escaped_append}

min_step : (len piece rest m : ℕ) → min (min (len + min piece m) m + rest) m ≡ min (len + (piece + rest)) m
min_step len piece rest m = omega arith

pub piece_step : (len more new goal : ℕ) (text piece rest : List ℕ) → capped (len + length (escaped text)) ≡ goal → text ≡ piece ++ rest →
    more ≡ escapes_len piece → new ≡ capped (len + more) → capped (new + length (escaped rest)) ≡ goal
piece_step len more new goal text piece rest before split piece_is new_is =
    ap (λ n. capped (n + length (escaped rest))) (new_is ∙ ap (λ n. capped (len + n)) piece_is)
    ∙ min_step len (length (escaped piece)) (length (escaped rest)) (2 ^ 64 - 1)
    ∙ ap (λ n. capped (len + n)) (sym (ap (λ t. length (escaped t)) split ∙ escaped_append piece rest))
    ∙ before

one_min : (n m : ℕ) → n ≡ min n m → min (n + 0) m ≡ n
one_min n m is = omega (arith, is)

pub last_step : (len goal : ℕ) (text : List ℕ) → len ≡ capped len → capped (len + length (escaped text)) ≡ goal → text ≡ [] → len ≡ goal
last_step len goal text short before none =
    sym (one_min len (2 ^ 64 - 1) short) ∙ sym (ap (λ t. capped (len + length (escaped t))) none) ∙ before
