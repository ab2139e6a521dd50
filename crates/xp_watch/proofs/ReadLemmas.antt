-- What an expression reads without lets, as a list and as a set.
use Rattle.std.proofs.Common.{◌≡◌, ◌∙◌, Bool, true, false, ◌||◌, List, [], ◌∷◌, ◌⊎◌, inl, inr, refl, sym, ap, subst}
use Rattle.std.proofs.lemmas.Bool.{false≢true, or_cases, or_parts}
use Rattle.std.specs.Ordering.{eq_by_cmp}
use Rattle.std.specs.Cmp.{Equal-is}
use Rattle.std.specs.FinSet.{contains, contains-empty, contains-insert, insert}
use Rattle.std.specs.List.{AllByRecursion as Each, list_any}
use Rattle.doc_tree.specs.cell.Cell.{Cell}
use Rattle.doc_tree.specs.Table.{Table, is_live}
use Rattle.xp_outcome.specs.declared.names_along.NamesAlong.{NamesAlong}
use Rattle.xp_outcome.specs.Cells.{cells_of}
use Rattle.xp_outcome.specs.Evaluation.{Read, cell, names_along, variable}
use Rattle.xp_outcome.specs.Recorded.{Recorded, cell_cmp, names_cmp, node_of, note, note_all, nothing_read}
use Rattle.xp_outcome.proofs.Sets.{cell_cmp_antisymmetric, cell_cmp_total, names_cmp_antisymmetric, names_cmp_total}
use Rattle.xp_meaning_laws.specs.KnownReads.{IsLiveRead}
use Rattle.xp_locality_laws.specs.Locality.{AllKept}
use Rattle.cover_laws.specs.Covering.{AreOfLive, IsOfLive}

module _ (T U : Table) (touched : Cell → Bool) where
  -- where nothing that was read was touched, all of it was kept
  pub reads_kept : (xs : List Read) → list_any (λ r. list_any touched (cells_of T r)) xs ≡ false → AllKept T U touched [] [] xs
  reads_kept [] none = tt
  reads_kept (cell c ∷ xs) none =
      let parts = or_parts (list_any touched (c ∷ [])) (list_any (λ r. list_any touched (cells_of T r)) xs) none in
      ((or_parts (touched c) false parts.0).0, reads_kept xs parts.1)
  reads_kept (names_along axis n ∷ xs) none =
      let parts = or_parts (list_any touched (cells_of T (names_along axis n))) (list_any (λ r. list_any touched (cells_of T r)) xs) none in
      (parts.0, reads_kept xs parts.1)
  reads_kept (variable slot ∷ xs) none = ((refl, λ v is. absurd (cc)), reads_kept xs none)

module _ (T : Table) where
  one_cell : (held : Recorded) (c : Cell) → AreOfLive T held.cells → is_live T (node_of c) ≡ true → AreOfLive T (insert held.cells c)
  one_cell held c before lives d there = by
      (or_cases (eq_by_cmp cell_cmp d c) (contains held.cells d) (sym (contains-insert cell_cmp_total held.cells c d) ∙ there))
    where
      by : (eq_by_cmp cell_cmp d c ≡ true) ⊎ (contains held.cells d ≡ true) → is_live T (node_of d) ≡ true
      by (inl same) = subst (λ (x : Cell). is_live T (node_of x) ≡ true) (sym (cell_cmp_antisymmetric d c ((Equal-is (cell_cmp d c)).0 same))) lives
      by (inr earlier) = before d earlier

  one_more : (held : Recorded) (b : NamesAlong) → ((a : NamesAlong) → contains held.names a ≡ true → is_live T a.node ≡ true) →
      is_live T b.node ≡ true →
      (a : NamesAlong) → contains (insert held.names b) a ≡ true → is_live T a.node ≡ true
  one_more held b before lives a there =
      by (or_cases (eq_by_cmp names_cmp a b) (contains held.names a) (sym (contains-insert names_cmp_total held.names b a) ∙ there))
    where
      by : (eq_by_cmp names_cmp a b ≡ true) ⊎ (contains held.names a ≡ true) → is_live T a.node ≡ true
      by (inl same) =
          subst (λ (x : NamesAlong). is_live T x.node ≡ true) (sym (names_cmp_antisymmetric a b ((Equal-is (names_cmp a b)).0 same))) lives
      by (inr earlier) = before a earlier

  live_from : (held : Recorded) (xs : List Read) → IsOfLive T held → Each (IsLiveRead T) xs → IsOfLive T (note_all held xs)
  live_from held [] before each = before
  live_from held (cell c ∷ xs) before each =
      live_from (note held (cell c)) xs (record { cells = one_cell held c before.cells each.0; names = before.names }) each.1
  live_from held (names_along axis n ∷ xs) before each =
      live_from (note held (names_along axis n)) xs
      (record { cells = before.cells; names = one_more held (record { axis = axis; node = n }) before.names each.0 }) each.1
  live_from held (variable slot ∷ xs) before each =
      live_from (note held (variable slot)) xs (record { cells = before.cells; names = before.names }) each.1

  -- what was read of live nodes is so as a set
  pub live_reads : (xs : List Read) → Each (IsLiveRead T) xs → IsOfLive T (note_all nothing_read xs)
  live_reads xs each =
      live_from nothing_read xs
      (record {
        cells = λ c there. absurd (false≢true (sym (contains-empty cell_cmp c) ∙ there));
        names = λ a there. absurd (false≢true (sym (contains-empty names_cmp a) ∙ there));
      }) each
