-- The lines of patterns, one after another.
use Rattle.std.proofs.Common.{◌∙◌, ◌≡◌, ℕ, zero, suc, ◌+◌, ◌<◌, List, [], ◌∷◌, ◌++◌, append-nil, append_assoc, add-one, length, length-append, take, drop, slice_index_or, IsErr, Result, Ok, refl, ap, sym, arith}
use Rattle.std.proofs.Math.Seq.{split_at, take-suc}
use Rattle.sch_io.specs.SinkLog.{SinkLog}
use Rattle.sch_io.specs.Wrote.{Wrote}
use Rattle.sch_io.proofs.Writes.{wrote_stopped, wrote_then}
use Rattle.svrl_summary.specs.Lines.{pattern_line, pattern_lines}
use Rattle.svrl_summary.specs.declared.summary.PatternCount.{PatternCount}

lines-append : (number : ℕ) (xs ys : List PatternCount) → pattern_lines number (xs ++ ys) ≡ pattern_lines number xs ++ pattern_lines (number + length xs) ys
lines-append number [] ys = ap (λ (n : ℕ). pattern_lines n ys) (omega arith)
lines-append number (x ∷ xs) ys =
    ap (λ (lines : List ℕ). pattern_line number x ++ lines) (lines-append (suc number) xs ys)
    ∙ ap (λ (n : ℕ). pattern_line number x ++ (pattern_lines (suc number) xs ++ pattern_lines n ys)) (omega arith)
    ∙ sym (append_assoc (pattern_line number x) (pattern_lines (suc number) xs) (pattern_lines (number + length (x ∷ xs)) ys))

length-take : {A : Type 0} (xs : List A) (i : ℕ) → i < length xs → length (take i xs) ≡ i
length-take [] i less = absurd (omega (arith, less))
length-take (x ∷ xs) zero less = refl
length-take (x ∷ xs) (suc i) less = omega (arith, length-take xs i (omega (arith, less)))

module _ (xs : List PatternCount) (i : ℕ) (x : PatternCount) (is : x ≡ slice_index_or xs i x) (less : i < length xs) where
  -- the lines up to a place, and the one there
  next-lines : pattern_lines 1 (take (i + 1) xs) ≡ pattern_lines 1 (take i xs) ++ pattern_line (i + 1) x
  next-lines =
      ap (pattern_lines 1) (ap (λ (n : ℕ). take n xs) (add-one i) ∙ take-suc xs i x less)
      ∙ lines-append 1 (take i xs) (slice_index_or xs i x ∷ [])
      ∙ ap (λ (n : ℕ). pattern_lines 1 (take i xs) ++ (pattern_line n (slice_index_or xs i x) ++ [])) (omega (arith, length-take xs i less))
      ∙ ap (λ (lines : List ℕ). pattern_lines 1 (take i xs) ++ lines) (append-nil (pattern_line (i + 1) (slice_index_or xs i x)) ∙ ap (pattern_line (i + 1)) (sym is))

  -- and those behind it
  cut-lines : pattern_lines 1 xs ≡ (pattern_lines 1 (take i xs) ++ pattern_line (i + 1) x) ++ pattern_lines (i + 2) (drop (suc i) xs)
  cut-lines =
      ap (pattern_lines 1) (split_at xs i x less)
      ∙ lines-append 1 (take i xs) (slice_index_or xs i x ∷ drop (suc i) xs)
      ∙ ap (λ (n : ℕ). pattern_lines 1 (take i xs) ++ (pattern_line n (slice_index_or xs i x) ++ pattern_lines (suc n) (drop (suc i) xs))) (omega (arith, length-take xs i less))
      ∙ ap (λ (y : PatternCount). pattern_lines 1 (take i xs) ++ (pattern_line (i + 1) y ++ pattern_lines (suc (i + 1)) (drop (suc i) xs))) (sym is)
      ∙ ap (λ (n : ℕ). pattern_lines 1 (take i xs) ++ (pattern_line (i + 1) x ++ pattern_lines n (drop (suc i) xs))) (omega arith)
      ∙ sym (append_assoc (pattern_lines 1 (take i xs)) (pattern_line (i + 1) x) (pattern_lines (i + 2) (drop (suc i) xs)))

  pub patterns-next : {T T' E E' : Type 0} {a b c : SinkLog} {u : T} {v : T'} →
      Wrote {E = E} a b (pattern_lines 1 (take i xs)) (Ok u) → Wrote {E = E'} b c (pattern_line (i + 1) x) (Ok v) → Wrote {E = E'} a c (pattern_lines 1 (take (i + 1) xs)) (Ok v)
  patterns-next first next = rw next-lines (wrote_then first next)

  pub patterns-cut : {T T' E E' : Type 0} {a b c : SinkLog} {u : T} {call : Result T' E'} {T'' E'' : Type 0} (result : Result T'' E'') → IsErr result → IsErr call →
      Wrote {E = E} a b (pattern_lines 1 (take i xs)) (Ok u) → Wrote b c (pattern_line (i + 1) x) call → Wrote a c (pattern_lines 1 xs) result
  patterns-cut result fails failed first next = rw cut-lines (wrote_stopped (pattern_lines (i + 2) (drop (suc i) xs)) (wrote_then first next) failed fails)
