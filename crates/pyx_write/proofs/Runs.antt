-- Writing a text run by run, each as far as the next byte that is escaped.
use Rattle.std.proofs.Common.{◌≡◌, ℕ, suc, ◌+◌, ◌-◌, ◌<◌, ◌≤◌, List, [], ◌∷◌, ◌++◌, length, get_or, take, drop, Result, Ok, Err, IsErr, refl, sym, ap, ◌∙◌, subst, arith, add-one, append_assoc, append-nil, length-drop, take-append-drop, get_or-drop}
use Rattle.std.proofs.Math.Seq.{take-suc, take-length}
use Rattle.sch_io.specs.SinkLog.{SinkLog}
use Rattle.sch_io.specs.Wrote.{Wrote}
use Rattle.sch_io.proofs.Writes.{wrote_then, wrote_stopped}
use Rattle.pyx_core.specs.Escapes.{escape_of, escaped}

pub escaped-append : (xs ys : List ℕ) → escaped (xs ++ ys) ≡ escaped xs ++ escaped ys
escaped-append [] ys = refl
escaped-append (x ∷ xs) ys = ap (λ l. escape_of x ++ l) (escaped-append xs ys) ∙ sym (append_assoc (escape_of x) (escaped xs) (escaped ys))

-- the bytes between two places
abbrev pub between : List ℕ → ℕ → ℕ → List ℕ
between bytes start at = take (at - start) (drop start bytes)

-- from the start on no byte needs an escape
abbrev pub IsPlainRun : List ℕ → ℕ → ℕ → Type 0
IsPlainRun bytes start at = escaped (take at bytes) ≡ escaped (take start bytes) ++ between bytes start at

-- one byte more
pub escaped_more : (bytes : List ℕ) (at : ℕ) → at < length bytes → escaped (take (at + 1) bytes) ≡ escaped (take at bytes) ++ escape_of (get_or bytes at 0)
escaped_more bytes at less =
    ap (λ n. escaped (take n bytes)) (add-one at) ∙ ap escaped (take-suc bytes at 0 less) ∙ escaped-append (take at bytes) (get_or bytes at 0 ∷ [])
    ∙ ap (λ l. escaped (take at bytes) ++ l) (append-nil (escape_of (get_or bytes at 0)))

between_more : (bytes : List ℕ) (start at : ℕ) → start ≤ at → at < length bytes → between bytes start (at + 1) ≡ between bytes start at ++ (get_or bytes at 0 ∷ [])
between_more bytes start at within less =
    let one : at + 1 - start ≡ suc (at - start) = omega arith in
    let here : start + (at - start) ≡ at = omega arith in
    let inside : at - start < length (drop start bytes) = simp length-drop (omega arith) in
    ap (λ n. take n (drop start bytes)) one ∙ take-suc (drop start bytes) (at - start) 0 inside
    ∙ ap (λ x. between bytes start at ++ (x ∷ [])) (get_or-drop start bytes (at - start) 0 ∙ ap (λ n. get_or bytes n 0) here)

-- a byte that stands for itself lengthens the run
pub plain_more : (bytes : List ℕ) (start at : ℕ) → start ≤ at → at < length bytes → escape_of (get_or bytes at 0) ≡ get_or bytes at 0 ∷ [] →
    IsPlainRun bytes start at → IsPlainRun bytes start (at + 1)
plain_more bytes start at within less itself run =
    escaped_more bytes at less ∙ ap (λ l. l ++ escape_of (get_or bytes at 0)) run ∙ ap (λ l. (escaped (take start bytes) ++ between bytes start at) ++ l) itself
    ∙ append_assoc (escaped (take start bytes)) (between bytes start at) (get_or bytes at 0 ∷ []) ∙ ap (λ l. escaped (take start bytes) ++ l) (sym (between_more bytes start at within less))

-- an empty run
pub plain_none : (bytes : List ℕ) (at : ℕ) → IsPlainRun bytes at at
plain_none bytes at =
    let none : at - at ≡ 0 = omega arith in
    sym (ap (λ n. escaped (take at bytes) ++ take n (drop at bytes)) none ∙ append-nil (escaped (take at bytes)))

module _ {T E : Type 0} {a b c : SinkLog} where
  -- the run was written
  pub run_written : {x y z : T} (bytes : List ℕ) (start at : ℕ) → IsPlainRun bytes start at →
      Wrote {E = E} a b (escaped (take start bytes)) (Ok x) → Wrote {E = E} b c (between bytes start at) (Ok y) → Wrote {E = E} a c (escaped (take at bytes)) (Ok z)
  run_written {z = z} bytes start at run first next =
      subst (λ l. Wrote {E = E} a c l (Ok z)) (sym run) (let both = wrote_then first next in record { counted = both.counted; grown = both.grown })

  -- the run was not written whole
  pub run_stopped : {x : T} {e' : E} {r : Result T E} (bytes : List ℕ) (start at : ℕ) → IsPlainRun bytes start at →
      Wrote {E = E} a b (escaped (take start bytes)) (Ok x) → Wrote {T = T} b c (between bytes start at) (Err e') → IsErr r → Wrote a c (escaped bytes) r
  run_stopped {r = r} bytes start at run first next is =
      subst (λ l. Wrote a c l r)
      (ap (λ l. l ++ escaped (drop at bytes)) (sym run) ∙ sym (escaped-append (take at bytes) (drop at bytes)) ∙ ap escaped (take-append-drop at bytes))
      (wrote_stopped (escaped (drop at bytes)) (wrote_then first next) refl is)

  -- the escape was written
  pub escape_written : {x y z : T} (bytes : List ℕ) (at : ℕ) {text : List ℕ} → at < length bytes → text ≡ escape_of (get_or bytes at 0) →
      Wrote {E = E} a b (escaped (take at bytes)) (Ok x) → Wrote {E = E} b c text (Ok y) → Wrote {E = E} a c (escaped (take (at + 1) bytes)) (Ok z)
  escape_written {z = z} bytes at less is first next =
      subst (λ l. Wrote {E = E} a c l (Ok z)) (ap (λ l. escaped (take at bytes) ++ l) is ∙ sym (escaped_more bytes at less))
      (let both = wrote_then first next in record { counted = both.counted; grown = both.grown })

  -- the escape was not written whole
  pub escape_stopped : {x : T} {e' : E} {r : Result T E} (bytes : List ℕ) (at : ℕ) {text : List ℕ} → at < length bytes → text ≡ escape_of (get_or bytes at 0) →
      Wrote {E = E} a b (escaped (take at bytes)) (Ok x) → Wrote {T = T} b c text (Err e') → IsErr r → Wrote a c (escaped bytes) r
  escape_stopped {r = r} bytes at less is first next err =
      subst (λ l. Wrote a c l r)
      (ap (λ l. l ++ escaped (drop (at + 1) bytes)) (ap (λ l. escaped (take at bytes) ++ l) is ∙ sym (escaped_more bytes at less))
      ∙ sym (escaped-append (take (at + 1) bytes) (drop (at + 1) bytes)) ∙ ap escaped (take-append-drop (at + 1) bytes))
      (wrote_stopped (escaped (drop (at + 1) bytes)) (wrote_then first next) refl err)

-- the last run, however it ended
pub last_run : {T E : Type 0} {a b c : SinkLog} {x : T} {r : Result T E} (bytes : List ℕ) (start at : ℕ) → length bytes ≡ at → IsPlainRun bytes start at →
    Wrote {E = E} a b (escaped (take start bytes)) (Ok x) → Wrote b c (between bytes start (length bytes)) r → Wrote a c (escaped bytes) r
last_run {a = a} {c = c} {r = r} bytes start at end run first next =
    subst (λ l. Wrote a c l r)
    (ap (λ n. escaped (take start bytes) ++ between bytes start n) end ∙ sym run ∙ ap (λ n. escaped (take n bytes)) (sym end) ∙ ap escaped (take-length bytes))
    (wrote_then first next)
