-- What is held of what was read is touched where that is, and stays alike to it.
use Rattle.std.proofs.Common.{◌≡◌, ℕ, Bool, true, false, not, ◌&&◌, ◌||◌, cond, List, [], ◌∷◌, refl, sym, ap, ap₂, ◌∙◌, subst, inl, ⊎_elim}
use Rattle.std.specs.Prelude.{filter, map}
use Rattle.std.specs.FinSet.{contains, contains-from_list, contains-union, from_list, items, union}
use Rattle.std.specs.List.{flat_map, list_any}
use Rattle.std.specs.Ordering.{eq_by_cmp}
use Rattle.std.proofs.lemmas.Bool.{false≢true, or_cases}
use Rattle.doc_tree.specs.cell.Cell.{Cell}
use Rattle.doc_tree.specs.cell.Cell.TheVariants.{Name}
use Rattle.doc_tree.specs.Laws.{Ordered}
use Rattle.doc_tree.specs.Lists.{mem}
use Rattle.doc_tree.specs.Table.{Table, is_live, kind_of}
use Rattle.doc_tree.proofs.ListLemmas.{mem-head, mem-tail}
use Rattle.doc_axes.specs.Axes.{axis_nodes}
use Rattle.doc_axes.specs.NodeTests.{is_principal}
use Rattle.doc_axes.proofs.LiveNodes.{axis_live}
use Rattle.doc_edit_laws.specs.Along.{Left}
use Rattle.xp_outcome.specs.Cells.{cells_of}
use Rattle.xp_outcome.specs.Evaluation.{Read, cell, names_along, variable}
use Rattle.xp_outcome.specs.Recorded.{NamesSet, Recorded, cell_cmp, node_of, note, note_all, nothing_read}
use Rattle.xp_outcome.specs.declared.names_along.NamesAlong.{NamesAlong}
use Rattle.xp_outcome.proofs.Sets.{cell_cmp_antisymmetric, cell_cmp_total, names_cmp_antisymmetric, names_cmp_total}
use Rattle.cover_laws.specs.Covering.{Alike, AreOfLive, HeldAlike, IsOfLive, has_touched, has_touched_name, holds_touched, is_upward, names_at, other_names, spelled_cells, upward_cells}
use Rattle.cover_laws.proofs.AlikeLemmas.{stay-alike}
use Rattle.xp_outcome.proofs.SetTests.{Found, all_joined_alike, all_left, any_empty, any_from_list, any_insert, any_joined, any_left, any_or, any_union, found_in, none_in, tied}
use Rattle.cover_laws.proofs.UpwardLemmas.{upward-alike}

-- Cells of reads, one by one

or-false : (a : Bool) → a ≡ (a || false)
or-false true = refl
or-false false = refl

or-grouped : (a b c : Bool) → ((a || b) || c) ≡ (a || (b || c))
or-grouped true b c = refl
or-grouped false b c = refl

or-swapped : (a b c : Bool) → (a || (b || c)) ≡ ((a || c) || b)
or-swapped true b c = refl
or-swapped false true true = refl
or-swapped false true false = refl
or-swapped false false true = refl
or-swapped false false false = refl

module _ (T : Table) (touched : Cell → Bool) where
  -- one read more
  read-more : (held : Recorded) (r : Read) →
      holds_touched T touched (note held r) ≡ (holds_touched T touched held || list_any touched (cells_of T r))
  read-more held (cell c) =
      ap (λ (b : Bool). b || has_touched_name T touched held.names) (any_insert cell_cmp_total cell_cmp_antisymmetric touched held.cells c)
      ∙ or-grouped (touched c) (has_touched touched held.cells) (has_touched_name T touched held.names)
      ∙ first (touched c) (holds_touched T touched held)
    where
      first : (a b : Bool) → (a || b) ≡ (b || (a || false))
      first true true = refl
      first true false = refl
      first false true = refl
      first false false = refl
  read-more held (names_along axis n) =
      ap (λ (b : Bool). has_touched touched held.cells || b)
      (any_insert names_cmp_total names_cmp_antisymmetric (λ a. list_any touched (names_at T a)) held.names (record { axis = axis; node = n }))
      ∙ or-swapped (has_touched touched held.cells) (list_any touched (cells_of T (names_along axis n))) (has_touched_name T touched held.names)
  read-more held (variable slot) = or-false (holds_touched T touched held)

  reads-more : (held : Recorded) (rs : List Read) →
      holds_touched T touched (note_all held rs) ≡ (holds_touched T touched held || list_any (λ r. list_any touched (cells_of T r)) rs)
  reads-more held [] = or-false (holds_touched T touched held)
  reads-more held (r ∷ rs) =
      reads-more (note held r) rs
      ∙ ap (λ (b : Bool). b || list_any (λ x. list_any touched (cells_of T x)) rs) (read-more held r)
      ∙ or-grouped (holds_touched T touched held) (list_any touched (cells_of T r)) (list_any (λ x. list_any touched (cells_of T x)) rs)

  pub reads-touched : (rs : List Read) → holds_touched T touched (note_all nothing_read rs) ≡ list_any (λ r. list_any touched (cells_of T r)) rs
  reads-touched rs =
      reads-more nothing_read rs
      ∙ ap₂ (λ (a b : Bool). (a || b) || list_any (λ r. list_any touched (cells_of T r)) rs)
      (any_empty cell_cmp_total cell_cmp_antisymmetric touched)
      (any_empty names_cmp_total names_cmp_antisymmetric (λ a. list_any touched (names_at T a)))

  -- names along upward axes one by one, and those along the others
  split : (up hit : Bool) → (cond up hit false || (hit && not up)) ≡ hit
  split true true = refl
  split true false = refl
  split false true = refl
  split false false = refl

  spread : (a : NamesAlong) (up : Bool) → list_any touched (cond up (names_at T a) []) ≡ cond up (list_any touched (names_at T a)) false
  spread a true = refl
  spread a false = refl

  parted : (names : NamesSet) →
      (list_any touched (upward_cells T names) || has_touched_name T touched (other_names names)) ≡ has_touched_name T touched names
  parted names =
      ap₂ (λ (a b : Bool). a || b)
      (any_joined touched (λ a. cond (is_upward a.axis) (names_at T a) []) (items names))
      (any_left names_cmp_total names_cmp_antisymmetric (λ a. list_any touched (names_at T a)) (λ a. not (is_upward a.axis)) names)
      ∙ sym (any_or (λ a. list_any touched (cond (is_upward a.axis) (names_at T a) []))
      (λ a. list_any touched (names_at T a) && not (is_upward a.axis)) (items names))
      ∙ ap (λ (p : NamesAlong → Bool). list_any p (items names)) (λ i a. each a i)
    where
      each : (a : NamesAlong) →
          (list_any touched (cond (is_upward a.axis) (names_at T a) []) || (list_any touched (names_at T a) && not (is_upward a.axis))) ≡
          list_any touched (names_at T a)
      each a =
          ap (λ (b : Bool). b || (list_any touched (names_at T a) && not (is_upward a.axis))) (spread a (is_upward a.axis))
          ∙ split (is_upward a.axis) (list_any touched (names_at T a))

  pub held-touched : (held reads : Recorded) → HeldAlike T held reads → has_touched touched held.cells ≡ has_touched touched (spelled_cells T reads) →
      holds_touched T touched held ≡ holds_touched T touched reads
  held-touched held reads alike same =
      ap₂ (λ (a b : Bool). a || b) (same
      ∙ any_union cell_cmp_total cell_cmp_antisymmetric touched reads.cells (from_list (upward_cells T reads.names))
      ∙ ap (λ (b : Bool). has_touched touched reads.cells || b)
      (any_from_list cell_cmp_total cell_cmp_antisymmetric touched (upward_cells T reads.names)))
      (ap (has_touched_name T touched) alike.names)
      ∙ or-grouped (has_touched touched reads.cells) (list_any touched (upward_cells T reads.names))
      (has_touched_name T touched (other_names reads.names))
      ∙ ap (λ (b : Bool). has_touched touched reads.cells || b) (parted reads.names)

-- Names along axes are of live nodes

module _ (T : Table) (ord : Ordered T) where
  names-live : (p : ℕ → Bool) (ns : List ℕ) → ((m : ℕ) → mem m ns ≡ true → is_live T m ≡ true) → (c : Cell) →
      list_any (eq_by_cmp cell_cmp c) (map Name (filter p ns)) ≡ true → is_live T (node_of c) ≡ true
  names-live p [] live c h = absurd (false≢true h)
  names-live p (n ∷ ns) live c h = by (p n) h (names-live p ns (λ m there. live m (mem-tail m n ns there)) c)
    where
      by : (b : Bool) → list_any (eq_by_cmp cell_cmp c) (map Name (cond b (n ∷ filter p ns) (filter p ns))) ≡ true →
          (list_any (eq_by_cmp cell_cmp c) (map Name (filter p ns)) ≡ true → is_live T (node_of c) ≡ true) → is_live T (node_of c) ≡ true
      by true g more =
          ⊎_elim
          (λ (e : eq_by_cmp cell_cmp c (Name n) ≡ true).
          ap (λ (d : Cell). is_live T (node_of d)) (tied cell_cmp_total cell_cmp_antisymmetric c (Name n) e) ∙ live n (mem-head n ns))
          more (or_cases (eq_by_cmp cell_cmp c (Name n)) (list_any (eq_by_cmp cell_cmp c) (map Name (filter p ns))) g)
      by false g more = more g

  upward-live : (names : NamesSet) (c : Cell) → list_any (eq_by_cmp cell_cmp c) (upward_cells T names) ≡ true → is_live T (node_of c) ≡ true
  upward-live names c h = by one.item (is_upward one.item.axis) one.passes
    where
      one : Found (λ a. list_any (eq_by_cmp cell_cmp c) (cond (is_upward a.axis) (names_at T a) [])) (contains names)
      one = found_in names_cmp_total names_cmp_antisymmetric (λ a. list_any (eq_by_cmp cell_cmp c) (cond (is_upward a.axis) (names_at T a) [])) names
          (sym (any_joined (eq_by_cmp cell_cmp c) (λ a. cond (is_upward a.axis) (names_at T a) []) (items names)) ∙ h)

      by : (a : NamesAlong) (b : Bool) → list_any (eq_by_cmp cell_cmp c) (cond b (names_at T a) []) ≡ true → is_live T (node_of c) ≡ true
      by a true g =
          names-live (λ m. is_principal a.axis (kind_of T m)) (axis_nodes T a.axis a.node) (λ m there. axis_live T ord a.axis a.node m there) c g
      by a false g = absurd (false≢true g)

  pub spelled-live : (reads : Recorded) → AreOfLive T reads.cells → AreOfLive T (spelled_cells T reads)
  spelled-live reads live c there =
      ⊎_elim (λ (e : contains reads.cells c ≡ true). live c e)
      (λ (e : contains (from_list {R = cell_cmp} (upward_cells T reads.names)) c ≡ true).
      upward-live reads.names c (sym (contains-from_list cell_cmp_total (upward_cells T reads.names) c) ∙ e))
      (or_cases (contains reads.cells c) (contains (from_list {R = cell_cmp} (upward_cells T reads.names)) c)
      (sym (contains-union cell_cmp_total reads.cells (from_list (upward_cells T reads.names)) c) ∙ there))

-- What is held, over edits

pub held-stays : (T U : Table) (touched : Cell → Bool) → Left T U touched → (held reads : Recorded) → IsOfLive T reads → IsOfLive U reads →
    HeldAlike T held reads → HeldAlike U held reads
held-stays T U touched left held reads old new alike = record {
  lets = alike.lets;
  cells = subst (Alike U held.cells) spelled
      (stay-alike T U touched held.cells (spelled_cells T reads) left (spelled-live T left.before.ordered reads old.cells)
      (subst (AreOfLive U) (sym spelled) (spelled-live U left.after.ordered reads new.cells)) alike.cells);
  names = alike.names;
}
  where
    spelled : spelled_cells T reads ≡ spelled_cells U reads
    spelled = ap (λ (cs : List Cell). union reads.cells (from_list cs)) (upward-alike T U touched left reads.names old.names new.names)

-- What is held as it was read

module _ (T : Table) (names : NamesSet) (none : list_any (λ a. is_upward a.axis) (items names) ≡ false) where
  not-upward : (a : NamesAlong) → contains names a ≡ true → is_upward a.axis ≡ false
  not-upward a there = none_in names_cmp_total names_cmp_antisymmetric (λ b. is_upward b.axis) names a none there

  nothing-joined : (rest : List NamesAlong) → flat_map {A = Cell} (λ _. []) rest ≡ []
  nothing-joined [] = refl
  nothing-joined (a ∷ rest) = nothing-joined rest

  pub no-upward : upward_cells T names ≡ []
  no-upward =
      all_joined_alike names_cmp_total names_cmp_antisymmetric (λ a. cond (is_upward a.axis) (names_at T a) []) (λ _. []) names
      (λ a there. ap (λ (b : Bool). cond b (names_at T a) []) (not-upward a there))
      ∙ nothing-joined (items names)

  pub all-others : names ≡ other_names names
  all-others = all_left names_cmp_total names_cmp_antisymmetric (λ a. not (is_upward a.axis)) names (λ a there. ap not (not-upward a there))

-- nothing is spelled out where no names along upward axes were read
unspelled : (T : Table) (reads : Recorded) → upward_cells T reads.names ≡ [] → (c : Cell) →
    contains (spelled_cells T reads) c ≡ contains reads.cells c
unspelled T reads none c =
    contains-union cell_cmp_total reads.cells (from_list (upward_cells T reads.names)) c
    ∙ ap (λ (b : Bool). contains reads.cells c || b)
    (contains-from_list cell_cmp_total (upward_cells T reads.names) c ∙ ap (list_any (eq_by_cmp cell_cmp c)) none)
    ∙ sym (or-false (contains reads.cells c))

pub held-as-read : (T : Table) (reads : Recorded) → list_any (λ a. is_upward a.axis) (items reads.names) ≡ false → HeldAlike T reads reads
held-as-read T reads none = record {
  lets = refl;
  cells = record {
    part = λ c there. unspelled T reads (no-upward T reads.names none) c ∙ there;
    covered = λ c there. (c, sym (unspelled T reads (no-upward T reads.names none) c) ∙ there, inl refl);
  };
  names = all-others T reads.names none;
}
