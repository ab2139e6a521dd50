-- A node's text in parts: how it begins, its attributes, its kids, and how it ends.
use Rattle.std.proofs.Common.{◌≡◌, ℕ, zero, suc, ◌<◌, ◌≤◌, ◌==◌, true, List, [], ◌∷◌, ◌++◌, length, take, slice_index_or, Result, Ok, Err, IsErr, refl, ap, sym, ◌∙◌, subst, arith}
use Rattle.std.specs.List.{flat_map}
use Rattle.std.proofs.lemmas.Bool.{eq-eqb}
use Rattle.std.proofs.Math.Bool.{or-true}
use Rattle.std.proofs.lemmas.Grind.{flat_map-append}
use Rattle.std.proofs.Math.Seq.{take-length}
use Rattle.sch_base.proofs.Lists.{flat_map-flat}
use Rattle.sch_io.specs.SinkLog.{SinkLog}
use Rattle.sch_io.specs.Wrote.{Wrote}
use Rattle.sch_io.proofs.Writes.{wrote_then, wrote_stopped}
use Rattle.doc_tree.specs.Laws.{HasWaysUp, Walks, WellFormed}
use Rattle.doc_tree.specs.Lines.{lines_below, opens, closes}
use Rattle.doc_tree.specs.Lists.{mem}
use Rattle.doc_tree.specs.Table.{Table, attrs_of, is_live, kids_of}
use Rattle.doc_tree.specs.Walks.{ancestors}
use Rattle.doc_write.specs.TreeText.{line_text}
use Rattle.doc_write.specs.inner.Parts.{closing_text, opening_text, text_below}
use Rattle.sch_io.proofs.Writes.{wrote_cut}

-- how a node begins, with its attributes
abbrev pub head_text : Table → ℕ → List ℕ
head_text T n = opening_text T n ++ flat_map (opening_text T) (attrs_of T n)

pub below-parts : (T : Table) → Walks T → (n : ℕ) → text_below T n ≡ head_text T n ++ (flat_map (text_below T) (kids_of T n) ++ closing_text T n)
below-parts T walks n =
    ap (flat_map line_text) (walks.lines_at n)
    ∙ flat_map-append line_text (opens T n ++ flat_map (opens T) (attrs_of T n)) (flat_map (lines_below T) (kids_of T n) ++ closes T n)
    ∙ ap (λ l. l ++ flat_map line_text (flat_map (lines_below T) (kids_of T n) ++ closes T n))
    (flat_map-append line_text (opens T n) (flat_map (opens T) (attrs_of T n)) ∙ ap (λ l. opening_text T n ++ l) (flat_map-flat line_text (opens T) (attrs_of T n)))
    ∙ ap (λ l. head_text T n ++ l)
    (flat_map-append line_text (flat_map (lines_below T) (kids_of T n)) (closes T n) ∙ ap (λ l. l ++ closing_text T n) (flat_map-flat line_text (lines_below T) (kids_of T n)))

-- the item at a place is in the list
pub mem-at : (ns : List ℕ) (i x : ℕ) → x ≡ slice_index_or ns i x → i < length ns → mem x ns ≡ true
mem-at ns i x is less = subst (λ (n : ℕ). mem n ns ≡ true) (sym is) (item ns i x less)
  where
    item : (ns : List ℕ) (i d : ℕ) → i < length ns → mem (slice_index_or ns i d) ns ≡ true
    item [] i d less = absurd (omega arith)
    item (n ∷ ns) zero d less = let same : (n == n) ≡ true = eq-eqb n n refl in rw same refl
    item (n ∷ ns) (suc i) d less = rw (item ns i d (omega arith)) (or-true (slice_index_or ns i d == n))

-- the head was not written whole
pub below_head : {X E X' E' : Type 0} {a b : SinkLog} {e : E} (T : Table) → Walks T → (n : ℕ) (r : Result X' E') → IsErr r →
    Wrote {T = X} a b (head_text T n) (Err e) → Wrote a b (text_below T n) r
below_head T walks n r fails first = rw (below-parts T walks n) (wrote_stopped (flat_map (text_below T) (kids_of T n) ++ closing_text T n) first refl fails)

-- a kid was not written whole
pub below_kid : {X E X' E' : Type 0} {a b c d : SinkLog} {x y : X} {e : E} (T : Table) → Walks T → (n i kid : ℕ) (r : Result X' E') → IsErr r →
    kid ≡ slice_index_or (kids_of T n) i kid → i < length (kids_of T n) →
    Wrote {E = E} a b (head_text T n) (Ok x) → Wrote {E = E} b c (flat_map (text_below T) (take i (kids_of T n))) (Ok y) →
    Wrote {T = X} c d (text_below T kid) (Err e) → Wrote a d (text_below T n) r
below_kid {b = b} {d = d} T walks n i kid r fails is less first before next =
    let kids : Wrote b d (flat_map (text_below T) (kids_of T n)) r = wrote_cut (text_below T) (kids_of T n) i kid r fails is less before next in
    rw (below-parts T walks n) (wrote_then first (wrote_stopped (closing_text T n) kids fails fails))

-- the head, all kids and the end were written, or of the end a front
pub below_end : {X E X' E' : Type 0} {a b c d : SinkLog} {x y : X} {r : Result X' E'} (T : Table) → Walks T → (n i : ℕ) → length (kids_of T n) ≤ i → i ≤ length (kids_of T n) →
    Wrote {E = E} a b (head_text T n) (Ok x) → Wrote {E = E} b c (flat_map (text_below T) (take i (kids_of T n))) (Ok y) →
    Wrote c d (closing_text T n) r → Wrote a d (text_below T n) r
below_end {X = X} {E = E} {b = b} {c = c} {y = y} T walks n i least most first before next =
    let at : i ≡ length (kids_of T n) = omega arith in
    let all : take i (kids_of T n) ≡ kids_of T n = rw at (take-length (kids_of T n)) in
    let kids : Wrote {E = E} b c (flat_map (text_below T) (kids_of T n)) (Ok y) = rw all at before in
    rw (below-parts T walks n) (wrote_then first (wrote_then kids next))

-- a kid lives, one level below
pub kid_below : (T : Table) → WellFormed T → HasWaysUp T → (n i kid : ℕ) (kids : List ℕ) → kids ≡ kids_of T n → kid ≡ slice_index_or kids i kid → i < length kids →
    (length (ancestors T kid) ≡ suc (length (ancestors T n))) × (is_live T kid ≡ true)
kid_below T formed ways n i kid kids are is less =
    let member : mem kid (kids_of T n) ≡ true = rw (← are) (mem-at kids i kid is less) in
    (ap length (ways.ancestors_at kid n (formed.kid_parent n kid member)), ways.kid_live n kid member)
