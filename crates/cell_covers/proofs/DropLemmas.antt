-- What is left of a set without covered cells is alike to it, and bare.
use Rattle.std.proofs.Common.{◌≡◌, ℕ, Bool, true, false, ◌⊎◌, ◌==◌, List, not, refl, sym, ap, ◌∙◌, inl, inr, ⊎_elim}
use Rattle.std.proofs.lemmas.Bool.{and_from, and_parts, eqb-true, false_from_ne_true, false≢true, or_cases}
use Rattle.std.specs.FinSet.{contains}
use Rattle.doc_tree.specs.cell.Cell.{Cell}
use Rattle.doc_tree.specs.cell.Cell.TheVariants.{Kids, Shape, Attrs, Value, Text, Name}
use Rattle.doc_tree.specs.Kinds.{is_text}
use Rattle.doc_tree.specs.Laws.{HasWaysUp}
use Rattle.doc_tree.specs.Lists.{mem}
use Rattle.doc_tree.specs.Table.{Table, kind_of}
use Rattle.doc_tree.specs.Walks.{above, ancestors}
use Rattle.xp_outcome.specs.Recorded.{CellSet}
use Rattle.cover_laws.specs.Covering.{Alike, covers}
use Rattle.cell_covers.specs.Bare.{IsBare}
use Rattle.cell_covers.specs.inner.Dropping.{Leaves, StandsFor, is_covered, is_wide, meets}
use Rattle.cell_covers.proofs.ClimbLemmas.{Higher, Highest, above-over, higher, highest, mem-behind, meets-at, met}

-- the set itself is alike to it
pub itself : (T : Table) (cells : CellSet) → Alike T cells cells
itself T cells = record { part = λ c h. h; covered = λ c h. (c, h, inl refl) }

-- only wide cells cover others
pub covers-wide : (T : Table) (d c : Cell) → is_wide d ≡ false → covers T d c ≡ false
covers-wide T (Kids n) c e = refl
covers-wide T (Shape n) c e = absurd (false≢true (sym e))
covers-wide T (Attrs n) c e = refl
covers-wide T (Value n) c e = refl
covers-wide T (Text n) c e = absurd (false≢true (sym e))
covers-wide T (Name n) c e = refl

module _ (T : Table) (ways : HasWaysUp T) (reads held : CellSet) (shapes texts : List ℕ)
    (stands : StandsFor reads shapes texts) (left : Leaves (is_covered T shapes texts) reads held) where
  is_held : (c : Cell) → contains reads c ≡ true → is_covered T shapes texts c ≡ false → contains held c ≡ true
  is_held c there bare = left c ∙ and_from (contains reads c) (not (is_covered T shapes texts c)) there (ap not bare)

  was_read : (c : Cell) → contains held c ≡ true → contains reads c ≡ true
  was_read c h = (and_parts (contains reads c) (not (is_covered T shapes texts c)) (sym (left c) ∙ h)).0

  is_uncovered : (c : Cell) → contains held c ≡ true → is_covered T shapes texts c ≡ true → false ≡ true
  is_uncovered c h covered = sym (ap not covered) ∙ (and_parts (contains reads c) (not (is_covered T shapes texts c)) (sym (left c) ∙ h)).1

  -- a Shape that is held at or above one that was read, and a Text
  shape_over : (a : ℕ) → mem a shapes ≡ true → (t : ℕ) × (contains held (Shape t) ≡ true) × (mem t (above T a) ≡ true)
  shape_over a h =
      let top : Highest T ways shapes a = highest T ways shapes a h in
      (top.node, is_held (Shape top.node) (sym (stands.shapes_are top.node) ∙ top.there) top.none_above, top.at)

  text_over : (a : ℕ) → mem a texts ≡ true → (t : ℕ) × (contains held (Text t) ≡ true) × (mem t (above T a) ≡ true)
  text_over a h =
      let top : Highest T ways texts a = highest T ways texts a h in
      (top.node, is_held (Text top.node) (sym (stands.texts_are top.node) ∙ top.there) top.none_above, top.at)

  abbrev IsOver : Cell → Type 0
  IsOver c = (d : Cell) × (contains held d ≡ true) × ((d ≡ c) ⊎ (covers T d c ≡ true))

  over : (c : Cell) → is_covered T shapes texts c ≡ true → IsOver c
  over (Kids m) e =
      let one = met (above T m) shapes e in
      let top = shape_over one.0 one.2 in
      (Shape top.0, top.1, inr (above-over T ways m one.0 top.0 one.1 top.2))
  over (Shape m) e =
      let one = met (ancestors T m) shapes e in
      let top = shape_over one.0 one.2 in
      let up : Higher T one.0 m = higher T ways m one.0 one.1 in
      (Shape top.0, top.1, inr (mem-behind top.0 m (ancestors T m) (up.over top.0 top.2)))
  over (Attrs m) e = absurd (false≢true e)
  over (Name m) e = absurd (false≢true e)
  over (Value m) e =
      let parts = and_parts (is_text (kind_of T m)) (meets (ancestors T m) texts) e in
      let one = met (ancestors T m) texts parts.1 in
      let top = text_over one.0 one.2 in
      let up : Higher T one.0 m = higher T ways m one.0 one.1 in
      (Text top.0, top.1, inr (and_from (is_text (kind_of T m)) (mem top.0 (ancestors T m)) parts.0 (up.over top.0 top.2)))
  over (Text m) e =
      let one = met (ancestors T m) texts e in
      let top = text_over one.0 one.2 in
      let up : Higher T one.0 m = higher T ways m one.0 one.1 in
      (Text top.0, top.1, inr (mem-behind top.0 m (ancestors T m) (up.over top.0 top.2)))

  pub left_alike : Alike T held reads
  left_alike = record { part = was_read; covered = λ c there. by c there (is_covered T shapes texts c) refl }
    where
      by : (c : Cell) → contains reads c ≡ true → (b : Bool) → is_covered T shapes texts c ≡ b → IsOver c
      by c there true e = over c e
      by c there false e = (c, is_held c there e, inl refl)

  strictly : (n m : ℕ) → (n ≡ m → false ≡ true) → mem n (above T m) ≡ true → mem n (ancestors T m) ≡ true
  strictly n m apart h =
      ⊎_elim (λ (g : (n == m) ≡ true). absurd (false≢true (apart (eqb-true n m g)))) (λ (g : mem n (ancestors T m) ≡ true). g) (or_cases (n == m) (mem n (ancestors T m)) h)

  -- what another cell of the set covers is covered
  is_found : (d c : Cell) → contains reads d ≡ true → (d ≡ c → false ≡ true) → covers T d c ≡ true → is_covered T shapes texts c ≡ true
  is_found (Shape n) (Kids m) there apart h = meets-at n (above T m) shapes h (stands.shapes_are n ∙ there)
  is_found (Shape n) (Shape m) there apart h =
      meets-at n (ancestors T m) shapes (strictly n m (λ e. apart (ap Shape e)) h) (stands.shapes_are n ∙ there)
  is_found (Text n) (Text m) there apart h =
      meets-at n (ancestors T m) texts (strictly n m (λ e. apart (ap Text e)) h) (stands.texts_are n ∙ there)
  is_found (Text n) (Value m) there apart h =
      let parts = and_parts (is_text (kind_of T m)) (mem n (ancestors T m)) h in
      and_from (is_text (kind_of T m)) (meets (ancestors T m) texts) parts.0 (meets-at n (ancestors T m) texts parts.1 (stands.texts_are n ∙ there))
  is_found _ _ there apart h = absurd (false≢true h)

  pub left_bare : IsBare T held
  left_bare d c hd hc apart = false_from_ne_true (covers T d c) (λ (h : covers T d c ≡ true).
      absurd (false≢true (is_uncovered c hc (is_found d c (was_read d hd) (λ e. absurd (apart e)) h))))
