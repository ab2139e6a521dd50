-- Writing a text a front at a time.
use Rattle.std.proofs.Common.{◌≡◌, ℕ, zero, suc, ◌+◌, ◌-◌, ◌<◌, List, [], ◌∷◌, ◌++◌, length, get_or, take, drop, Option, Result, IsErr, Ok, Err, refl, sym, ap, ◌∙◌, subst, arith, add-one, append_assoc, append-nil, length-drop, take-append-drop}
use Rattle.std.specs.Borrow.{Bor}
use Rattle.std.proofs.Math.Seq.{take-add, take-length}
use Rattle.std.specs.Io.KnownBytes.{Appends, Keeps}
use Rattle.std.proofs.KnownBytes.{Appends-trans, Appends-kept}
use Rattle.sch_io.specs.Counts.{one_more}
use Rattle.sch_io.specs.SinkLog.{SinkLog}
use Rattle.sch_io.specs.Wrote.{Wrote, joined}
use Rattle.sch_io.proofs.Writes.{wrote_then, wrote_stopped}

-- `&piece[d..]`
pub rest_from : (d : ℕ) (piece : List ℕ) → take (length piece - d) (drop d piece) ≡ drop d piece
rest_from d piece = subst (λ n. take n (drop d piece) ≡ drop d piece) (length-drop d piece) (take-length (drop d piece))

-- one more write
pub appends_more : (a b c : Option (List ℕ)) (d n : ℕ) (piece : List ℕ) → Appends a b (take d piece) → Appends b c (take n (drop d piece)) → Appends a c (take (d + n) piece)
appends_more a b c d n piece p q = subst (Appends a c) (sym (take-add d n piece)) (Appends-trans a b c _ _ p q)

-- a front was written and no fault counted so far
pub record WroteFront (old new : SinkLog) (front : List ℕ) : Type 0 where
  pub same : new.faults ≡ old.faults
  pub grown : Appends old.written new.written front

-- a write that failed
pub wrote_until : {T E : Type 0} {e : E} (a b c : SinkLog) (d : ℕ) (piece : List ℕ) → WroteFront a b (take d piece) →
    Keeps b.written c.written → c.faults ≡ one_more b.faults → Wrote {T = T} a c piece (Err e)
wrote_until a b c d piece front kept more = record {
  counted = more ∙ ap one_more front.same;
  grown = (take d piece, drop d piece, sym (take-append-drop d piece), Appends-kept a.written b.written c.written _ front.grown kept);
}

-- a write that took nothing
pub wrote_until_stuck : {T E : Type 0} {e : E} (a b c : SinkLog) (d n : ℕ) (piece : List ℕ) → n ≡ 0 → d < length piece → WroteFront a b (take d piece) →
    Appends b.written c.written (take n (drop d piece)) → (n ≡ 0 → 0 < length (drop d piece) → c.faults ≡ one_more b.faults) → Wrote {T = T} a c piece (Err e)
wrote_until_stuck a b c d n piece none before front appended stuck = record {
  counted = stuck none (simp length-drop (omega arith)) ∙ ap one_more front.same;
  grown = (take (d + n) piece, drop (d + n) piece, sym (take-append-drop (d + n) piece), appends_more a.written b.written c.written d n piece front.grown appended);
}

-- the pieces as far as one of them, and it
pub joined-take : (pieces : List (Bor (List ℕ))) (i : ℕ) (d : Bor (List ℕ)) → i < length pieces → joined (take (i + 1) pieces) ≡ joined (take i pieces) ++ (get_or pieces i d).now
joined-take [] i d h = absurd (omega arith)
joined-take (piece ∷ pieces) zero d h = append-nil piece.now
joined-take (piece ∷ pieces) (suc i) d h =
    ap (λ n. joined (take n (piece ∷ pieces))) (add-one (suc i)) ∙ ap (λ l. piece.now ++ l) (ap (λ n. joined (take n pieces)) (sym (add-one i)) ∙ joined-take pieces i d (omega arith))
    ∙ sym (append_assoc piece.now (joined (take i pieces)) (get_or pieces i d).now)

-- the pieces as far as a place, and those from it on
pub joined-split : (pieces : List (Bor (List ℕ))) (i : ℕ) → joined pieces ≡ joined (take i pieces) ++ joined (drop i pieces)
joined-split pieces zero = refl
joined-split [] (suc i) = refl
joined-split (piece ∷ pieces) (suc i) = ap (λ l. piece.now ++ l) (joined-split pieces i) ∙ sym (append_assoc piece.now (joined (take i pieces)) (joined (drop i pieces)))

-- one piece more was written
pub pieces_more : {T E : Type 0} {x y z : T} {a b c : SinkLog} (pieces : List (Bor (List ℕ))) (i : ℕ) (d : Bor (List ℕ)) {text : List ℕ} →
    text ≡ (get_or pieces i d).now → i < length pieces →
    Wrote {E = E} a b (joined (take i pieces)) (Ok x) → Wrote {E = E} b c text (Ok y) → Wrote {E = E} a c (joined (take (i + 1) pieces)) (Ok z)
pieces_more {E = E} {z = z} {a = a} {c = c} pieces i d e less first next =
    subst (λ l. Wrote {E = E} a c l (Ok z)) (ap (λ l. joined (take i pieces) ++ l) e ∙ sym (joined-take pieces i d less))
    (let both = wrote_then first next in record { counted = both.counted; grown = both.grown })

-- a piece was not written whole
pub pieces_stopped : {T E : Type 0} {x : T} {e' : E} {r : Result T E} {a b c : SinkLog} (pieces : List (Bor (List ℕ))) (i : ℕ) (d : Bor (List ℕ)) {text : List ℕ} →
    text ≡ (get_or pieces i d).now → i < length pieces →
    Wrote {E = E} a b (joined (take i pieces)) (Ok x) → Wrote {T = T} b c text (Err e') → IsErr r → Wrote a c (joined pieces) r
pieces_stopped {r = r} {a = a} {c = c} pieces i d e less first next is =
    subst (λ l. Wrote a c l r)
    (ap (λ l. l ++ joined (drop (i + 1) pieces)) (ap (λ l. joined (take i pieces) ++ l) e ∙ sym (joined-take pieces i d less)) ∙ sym (joined-split pieces (i + 1)))
    (wrote_stopped (joined (drop (i + 1) pieces)) (wrote_then first next) refl is)
