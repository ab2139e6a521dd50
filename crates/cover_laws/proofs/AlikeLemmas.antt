-- Sets of cells that are alike: they are touched alike, stay alike, and compose.
use Rattle.std.proofs.Common.{◌≡◌, ℕ, Bool, true, false, ◌&&◌, ◌⊎◌, List, ◌∷◌, refl, sym, ap, ap₂, ◌∙◌, subst, inl, inr, ⊎_elim}
use Rattle.std.specs.FinSet.{contains, retain}
use Rattle.std.proofs.lemmas.Bool.{and_from, and_parts, false≢true, or_cases, or_left, or_right}
use Rattle.doc_table.proofs.Forests.{formed-of}
use Rattle.doc_tree.specs.cell.Cell.{Cell}
use Rattle.doc_tree.specs.cell.Cell.TheVariants.{Kids, Shape, Value, Text}
use Rattle.doc_tree.specs.Kinds.{is_text}
use Rattle.doc_tree.specs.Laws.{HasWaysUp, WellFormed}
use Rattle.doc_tree.specs.Lists.{mem}
use Rattle.doc_tree.specs.Table.{Table, is_live, kind_of}
use Rattle.doc_tree.specs.Walks.{ancestors}
use Rattle.doc_edit_laws.specs.Along.{Edits, EditsLeave, Left, none, then}
use Rattle.doc_edit_laws.specs.Agreement.{Stays}
use Rattle.doc_edit_laws.proofs.TextLemmas.{ways-alike}
use Rattle.xp_outcome.specs.Recorded.{CellSet, node_of}
use Rattle.xp_outcome.proofs.Sets.{cell_cmp_antisymmetric, cell_cmp_total}
use Rattle.cover_laws.specs.Covering.{Alike, AreOfLive, CoveringIsTouched, covers, has_touched}
use Rattle.cover_laws.proofs.CoverLemmas.{covers-covered, touched-live}
use Rattle.xp_outcome.proofs.SetTests.{found_in, held_in, in_left, same_test}

module _ (touched : Cell → Bool) where
  pub touched-alike : (T : Table) (held reads : CellSet) →
      ((d c : Cell) → contains reads c ≡ true → covers T d c ≡ true → touched c ≡ true → touched d ≡ true) → Alike T held reads →
      has_touched touched held ≡ has_touched touched reads
  touched-alike T held reads upward alike =
      same_test (has_touched touched held) (has_touched touched reads)
      (λ h.
      let one = found_in cell_cmp_total cell_cmp_antisymmetric touched held h in
      held_in cell_cmp_total cell_cmp_antisymmetric touched reads one.item (alike.part one.item one.there) one.passes)
      (λ h.
      let one = found_in cell_cmp_total cell_cmp_antisymmetric touched reads h in
      let over = alike.covered one.item one.there in
      held_in cell_cmp_total cell_cmp_antisymmetric touched held over.0 over.1
      (⊎_elim (λ (e : over.0 ≡ one.item). ap touched e ∙ one.passes)
      (λ (g : covers T over.0 one.item ≡ true). upward over.0 one.item one.there g one.passes) over.2))

-- a cell covers those that it covered, where the other's node keeps its kind and its way up
covers-alike : (T U : Table) (d c : Cell) → ancestors T (node_of c) ≡ ancestors U (node_of c) → kind_of T (node_of c) ≡ kind_of U (node_of c) →
    covers T d c ≡ covers U d c
covers-alike T U (Shape n) (Kids m) way kind = ap (λ (l : List ℕ). mem n (m ∷ l)) way
covers-alike T U (Shape n) (Shape m) way kind = ap (λ (l : List ℕ). mem n (m ∷ l)) way
covers-alike T U (Text n) (Text m) way kind = ap (λ (l : List ℕ). mem n (m ∷ l)) way
covers-alike T U (Text n) (Value m) way kind = ap₂ (λ k (l : List ℕ). is_text k && mem n l) kind way
covers-alike T U _ _ way kind = refl

-- a cell goes on covering another whose node lives before edits and after
covers-on : (T U : Table) (touched : Cell → Bool) → Left T U touched → (d c : Cell) → is_live T (node_of c) ≡ true → is_live U (node_of c) ≡ true →
    covers T d c ≡ covers U d c
covers-on T U touched left d c old new =
    let stays : Stays T U (node_of c) = and_from (is_live T (node_of c)) (is_live U (node_of c)) old new in
    covers-alike T U d c
    (ways-alike T U (formed-of T left.before.well_formed) (formed-of U left.after.well_formed) left.agree.parent (node_of c) stays)
    (left.agree.kind (node_of c) stays)

pub stay-alike : (T U : Table) (touched : Cell → Bool) (held reads : CellSet) → Left T U touched → AreOfLive T reads → AreOfLive U reads → Alike T held reads →
    Alike U held reads
stay-alike T U touched held reads left old new alike = record {
  part = alike.part;
  covered = λ c there.
      let over = alike.covered c there in (
        over.0,
        over.1,
        ⊎_elim (λ (e : over.0 ≡ c). inl e)
            (λ (g : covers T over.0 c ≡ true). inr (sym (covers-on T U touched left over.0 c (old c there) (new c there)) ∙ g)) over.2,
      );
}

-- edits one after another touch what covers a touched cell, as the cell's node lives until it is touched
pub covering-along : EditsLeave → CoveringIsTouched → (T U : Table) (touched : Cell → Bool) → WellFormed T → Edits T U touched →
    (d c : Cell) → is_live T (node_of c) ≡ true → covers T d c ≡ true → touched c ≡ true → touched d ≡ true
covering-along leave covering T _ _ form none d c old over hit = absurd (false≢true hit)
covering-along leave covering T _ _ form (then U V before last edits edit) d c old over hit =
    ⊎_elim (λ (h : before c ≡ true). or_left (before d) (last d) (covering-along leave covering T U before form edits d c old over h))
    (λ (h : last c ≡ true).
    let left : Left T U before = leave T U before form edits in
    let there : WellFormed U = left.after.well_formed in
    let new : is_live U (node_of c) ≡ true = touched-live U there left.after.ways_up V last edit c h in
    or_right (before d) (last d) (covering U V last d c there edit (sym (covers-on T U before left d c old new) ∙ over) h))
    (or_cases (before c) (last c) hit)

pub same-alike : (T : Table) (cells : CellSet) → Alike T cells cells
same-alike T cells = record { part = λ c there. there; covered = λ c there. (c, there, inl refl) }

module _ (T : Table) (form : WellFormed T) (ways : HasWaysUp T) where
  pub compose-alike : (held between reads : CellSet) → Alike T held between → Alike T between reads → Alike T held reads
  compose-alike held between reads first last = record {
    part = λ c there. last.part c (first.part c there);
    covered = λ c there.
        let mid = last.covered c there in
        let top = first.covered mid.0 mid.1 in
        (top.0, top.1, joined top.0 mid.0 c top.2 mid.2);
  }
    where
      joined : (d e c : Cell) → (d ≡ e) ⊎ (covers T d e ≡ true) → (e ≡ c) ⊎ (covers T e c ≡ true) → (d ≡ c) ⊎ (covers T d c ≡ true)
      joined d e c (inl h) (inl g) = inl (h ∙ g)
      joined d e c (inl h) (inr g) = inr (subst (λ (x : Cell). covers T x c ≡ true) (sym h) g)
      joined d e c (inr h) (inl g) = inr (subst (λ (x : Cell). covers T d x ≡ true) g h)
      joined d e c (inr h) (inr g) = inr (covers-covered T form ways d e c h g)

  -- what is left of a set without cells that one of those left covers is alike to it
  left-alike : (held : CellSet) (stays : Cell → Bool) →
      ((c : Cell) → contains held c ≡ true → stays c ≡ false → (d : Cell) × (contains held d ≡ true) × (stays d ≡ true) × (covers T d c ≡ true)) →
      Alike T (retain held stays) held
  left-alike held stays cover = record {
    part = λ c there. (and_parts (contains held c) (stays c) (sym (is-left c) ∙ there)).0;
    covered = λ c there. by c there (stays c) refl;
  }
    where
      is-left : (c : Cell) → contains (retain held stays) c ≡ (contains held c && stays c)
      is-left c = in_left cell_cmp_total cell_cmp_antisymmetric stays held c

      by : (c : Cell) → contains held c ≡ true → (b : Bool) → stays c ≡ b
          → (d : Cell) × (contains (retain held stays) d ≡ true) × ((d ≡ c) ⊎ (covers T d c ≡ true))
      by c there true e = (c, is-left c ∙ and_from (contains held c) (stays c) there e, inl refl)
      by c there false e =
          let over = cover c there e in
          (over.0, is-left over.0 ∙ and_from (contains held over.0) (stays over.0) over.1 over.2, inr over.3)

  pub dropped-alike : (held reads : CellSet) (stays : Cell → Bool) → Alike T held reads →
      ((c : Cell) → contains held c ≡ true → stays c ≡ false → (d : Cell) × (contains held d ≡ true) × (stays d ≡ true) × (covers T d c ≡ true)) →
      Alike T (retain held stays) reads
  dropped-alike held reads stays alike cover = compose-alike (retain held stays) held reads (left-alike held stays cover) alike
