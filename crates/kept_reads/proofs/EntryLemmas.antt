-- What is kept of units, by the cells and names along axes that an index has of them and by the lets.
use Rattle.std.proofs.Common.{◌≡◌, ◌≢◌, ◌∙◌, Bor, ℕ, zero, suc, ◌+◌, ◌<◌, ◌≤◌, ◌==◌, Bool, true, false, not, ◌||◌, ◌&&◌, List, [], ◌∷◌, ◌++◌, ◌⊎◌, length, set, Option, None, Some, is_none, cond, Result, Ok, Err, OnOk, OnErr, refl, sym, ap, subst, inl, inr, arith, add-zero, zero-add, get_or-set_other, get_or-set_same, length-set}
use Rattle.std.proofs.lemmas.Bool.{cases_eq, cases_lt, eq-eqb, eqb-true, false_from_ne_true, false≢true}
use Rattle.std.proofs.lemmas.List.{get_or_past}
use Rattle.std.proofs.lemmas.List.Sums.{sum_by-set}
use Rattle.std.specs.Bool.{OnFalse}
use Rattle.std.specs.Cmp.{Equal-is, tied_itself}
use Rattle.std.specs.FinSet.{contains, contains-from_list, from_list, same_set}
use Rattle.std.specs.List.{list_any}
use Rattle.std.specs.Option.{is_some, option_copied}
use Rattle.std.specs.Ordering.{eq_by_cmp, is_eq}
use Rattle.doc_tree.specs.cell.Cell.{Cell}
use Rattle.doc_tree.specs.declared.axes.Axis.{Axis}
use Rattle.cell_index.specs.Cells.{is_among, is_cell}
use Rattle.cell_index.proofs.CellLemmas.{is_cell-is, is_cell-self}
use Rattle.xp_outcome.proofs.Sets.{cell_cmp_antisymmetric, cell_cmp_total, names_cmp_antisymmetric, names_cmp_total}
use Rattle.xp_outcome.specs.declared.names_along.NamesAlong.{NamesAlong}
use Rattle.xp_outcome.specs.Evaluation.{Read, cell, names_along, variable}
use Rattle.xp_outcome.specs.Recorded.{CellSet, LetSet, NamesSet, Recorded, cell_cmp, names_cmp}
use Rattle.read_index.specs.declared.read_index.ReadIndex.{ReadIndex}
use Rattle.read_index.specs.Names.{is_far, is_named}
use Rattle.read_index.specs.ReadIndex.{Adds, Removes, Stays, cells_read, has_read, is_one_of, names_read}
use Rattle.kept_reads.specs.declared.lets_read.LetsRead.{LetsRead}
use Rattle.kept_reads.specs.declared.lets_read.LetsRead.TheVariants.{Stale}
use Rattle.kept_reads.specs.Reads.{has_kept, kept_count, lets_kept, lets_told, reads_at}
use Rattle.kept_reads.specs.inner.Entries.{StaleHasNone, entries_of, kept_of}
use Rattle.kept_reads.specs.inner.LetsRead.{slots_at, slots_of}
use Rattle.xp_outcome.proofs.SetTests.{same_test as one_test}

-- Sets of cells and of names along axes

-- the order of cells ties those that are one
same_test : (c d : Cell) → eq_by_cmp cell_cmp c d ≡ is_cell c d
same_test c d = one_test (eq_by_cmp cell_cmp c d) (is_cell c d)
    (λ tied. ap (is_cell c) (sym (cell_cmp_antisymmetric c d ((Equal-is (cell_cmp c d)).0 tied))) ∙ is_cell-self c)
    (λ is. ap (eq_by_cmp cell_cmp c) (sym (is_cell-is c d is)) ∙ ap is_eq (tied_itself cell_cmp_total c))

same_any : (cells : List Cell) (c : Cell) → list_any (eq_by_cmp cell_cmp c) cells ≡ is_among cells c
same_any [] c = refl
same_any (x ∷ cells) c =
    ap (λ (b : Bool). b || list_any (eq_by_cmp cell_cmp c) cells) (same_test c x) ∙ ap (λ (b : Bool). is_cell c x || b) (same_any cells c)

-- the set of a list has what is among it
set_has : (cells : List Cell) (c : Cell) → contains (from_list {R = cell_cmp} cells) c ≡ is_among cells c
set_has cells c = contains-from_list cell_cmp_total cells c ∙ same_any cells c

names_have : (names : List NamesAlong) (a : NamesAlong) → contains (from_list {R = names_cmp} names) a ≡ is_named names a
names_have names a = contains-from_list names_cmp_total names a

sets_same : (xs ys : List Cell) → ((c : Cell) → is_among xs c ≡ is_among ys c) → from_list {R = cell_cmp} xs ≡ from_list ys
sets_same xs ys same = same_set cell_cmp_total cell_cmp_antisymmetric (from_list xs) (from_list ys) (λ c. set_has xs c ∙ same c ∙ sym (set_has ys c))

names_same : (xs ys : List NamesAlong) → ((a : NamesAlong) → is_named xs a ≡ is_named ys a) → from_list {R = names_cmp} xs ≡ from_list ys
names_same xs ys same =
    same_set names_cmp_total names_cmp_antisymmetric (from_list xs) (from_list ys) (λ a. names_have xs a ∙ same a ∙ sym (names_have ys a))

-- One unit

kept_same : (xs ys : List Cell) (names more : List NamesAlong) (slots : Option (List ℕ)) → ((r : Read) → is_one_of xs names r ≡ is_one_of ys more r) →
    kept_of xs names slots ≡ kept_of ys more slots
kept_same xs ys names more None same = refl
kept_same xs ys names more (Some slots) same =
    ap (λ (cells : CellSet). Some (record { cells = cells; names = from_list names; lets = from_list slots })) (sets_same xs ys (λ c. same (cell c)))
    ∙ ap (λ (some : NamesSet). Some (record { cells = from_list ys; names = some; lets = from_list slots }))
    (names_same names more (λ a. same (names_along a.axis a.node)))

kept_none : (cells : List Cell) (names : List NamesAlong) (slots : Option (List ℕ)) → kept_of cells names slots ≡ None → slots ≡ None
kept_none cells names None none = refl
kept_none cells names (Some slots) none = absurd (cc)

pub told_kept : (cells : List Cell) (names : List NamesAlong) (slots : Option (List ℕ)) → lets_told slots ≡ lets_kept (kept_of cells names slots)
told_kept cells names None = refl
told_kept cells names (Some slots) = refl

-- a unit of which the index has something has read it
read_kept : (cells : List Cell) (names : List NamesAlong) (slots : Option (List ℕ)) (r : Read) → (slots ≡ None → is_one_of cells names r ≡ false) →
    has_kept (kept_of cells names slots) r ≡ is_one_of cells names r
read_kept cells names None r none = sym (none refl)
read_kept cells names (Some slots) (cell c) none = set_has cells c
read_kept cells names (Some slots) (names_along axis n) none = names_have names (record { axis = axis; node = n })
read_kept cells names (Some slots) (variable slot) none = refl

-- All units

pub length-entries_of : (held : ReadIndex) (unit : ℕ) (lets : List LetsRead) → length (entries_of held unit lets) ≡ length lets
length-entries_of held unit [] = refl
length-entries_of held unit (own ∷ lets) = ap suc (length-entries_of held (suc unit) lets)

entries_from : (held : ReadIndex) (unit : ℕ) (lets : List LetsRead) (k : ℕ) →
    reads_at (entries_of held unit lets) k ≡ kept_of (cells_read held (unit + k)) (names_read held (unit + k)) (slots_at lets k)
entries_from held unit [] zero = refl
entries_from held unit [] (suc k) = refl
entries_from held unit (own ∷ lets) zero = ap (λ (u : ℕ). kept_of (cells_read held u) (names_read held u) (slots_of own)) (sym (add-zero unit))
entries_from held unit (own ∷ lets) (suc k) =
    let place : suc unit + k ≡ unit + suc k = omega arith in
    entries_from held (suc unit) lets k ∙ ap (λ (u : ℕ). kept_of (cells_read held u) (names_read held u) (slots_at lets k)) place

pub entry_is : (held : ReadIndex) (lets : List LetsRead) (k : ℕ) →
    reads_at (entries_of held 0 lets) k ≡ kept_of (cells_read held k) (names_read held k) (slots_at lets k)
entry_is held lets k = entries_from held 0 lets k ∙ ap (λ (u : ℕ). kept_of (cells_read held u) (names_read held u) (slots_at lets k)) (zero-add k)

-- lists of entries that are the same at each place
entries_alike : (xs ys : List (Option Recorded)) → length xs ≡ length ys → ((k : ℕ) → reads_at xs k ≡ reads_at ys k) → xs ≡ ys
entries_alike [] [] long same = refl
entries_alike [] (y ∷ ys) long same = absurd (omega (arith, long))
entries_alike (x ∷ xs) [] long same = absurd (omega (arith, long))
entries_alike (x ∷ xs) (y ∷ ys) long same =
    ap (λ (z : Option Recorded). z ∷ xs) (same 0) ∙ ap (λ (zs : List (Option Recorded)). y ∷ zs)
    (entries_alike xs ys (omega (arith, long)) (λ k. same (suc k)))

-- where the index has the same
pub entries_stay : (old new : ReadIndex) (lets : List LetsRead) → Stays old new → entries_of new 0 lets ≡ entries_of old 0 lets
entries_stay old new lets stays =
    entries_alike (entries_of new 0 lets) (entries_of old 0 lets) (length-entries_of new 0 lets ∙ sym (length-entries_of old 0 lets))
    (λ k. entry_is new lets k ∙ kept_same (cells_read new k) (cells_read old k) (names_read new k) (names_read old k) (slots_at lets k) (stays k)
    ∙ sym (entry_is old lets k))

-- where one unit alone changes
module _ (old new : ReadIndex) (lets more : List LetsRead) (place : ℕ) (own : LetsRead) (entry : Option Recorded)
    (is : more ≡ set lets place own)
    (others : (u : ℕ) → u ≢ place → (r : Read) → has_read new u r ≡ has_read old u r)
    (put : place < length lets → kept_of (cells_read new place) (names_read new place) (slots_of own) ≡ entry) where
  as_long : length (entries_of new 0 more) ≡ length (set (entries_of old 0 lets) place entry)
  as_long =
      length-entries_of new 0 more ∙ ap length is ∙ length-set lets place own
      ∙ sym (length-set (entries_of old 0 lets) place entry ∙ length-entries_of old 0 lets)

  slots_there : (k : ℕ) → slots_at more k ≡ slots_at (set lets place own) k
  slots_there k = ap (λ (ls : List LetsRead). slots_at ls k) is

  at_place : reads_at (entries_of new 0 more) place ≡ reads_at (set (entries_of old 0 lets) place entry) place
  at_place = elim (cases_lt place (length lets)) [
    | inl below ↦
        entry_is new more place
        ∙ ap (kept_of (cells_read new place) (names_read new place)) (slots_there place
        ∙ ap slots_of (get_or-set_same lets place own Stale below))
        ∙ put below
        ∙ sym (get_or-set_same (entries_of old 0 lets) place entry None (omega (arith, below, length-entries_of old 0 lets)))
    | inr past ↦
        get_or_past (entries_of new 0 more) place None (omega (arith, past, length-entries_of new 0 more, ap length is, length-set lets place own))
        ∙ sym (get_or_past (set (entries_of old 0 lets) place entry) place None
        (omega (arith, past, length-set (entries_of old 0 lets) place entry, length-entries_of old 0 lets)))
  ]

  elsewhere : (k : ℕ) → k ≢ place → reads_at (entries_of new 0 more) k ≡ reads_at (set (entries_of old 0 lets) place entry) k
  elsewhere k differ =
      entry_is new more k ∙ ap (kept_of (cells_read new k) (names_read new k)) (slots_there k
      ∙ ap slots_of (get_or-set_other lets place k own Stale differ))
      ∙ kept_same (cells_read new k) (cells_read old k) (names_read new k) (names_read old k) (slots_at lets k) (others k differ)
      ∙ sym (entry_is old lets k)
      ∙ sym (get_or-set_other (entries_of old 0 lets) place k entry None differ)

  pub entries_set : entries_of new 0 more ≡ set (entries_of old 0 lets) place entry
  entries_set = entries_alike (entries_of new 0 more) (set (entries_of old 0 lets) place entry) as_long
      (λ k. elim (cases_eq k place) [
        | inl same ↦ subst (λ (j : ℕ). reads_at (entries_of new 0 more) j ≡ reads_at (set (entries_of old 0 lets) place entry) j) (sym same) at_place
        | inr differ ↦ elsewhere k differ
      ])

-- A unit is forgotten

apart : (u unit : ℕ) → u ≢ unit → (u == unit) ≡ false
apart u unit differ = false_from_ne_true (u == unit) (λ same. differ (eqb-true u unit same))

and_true : (a b : Bool) → b ≡ true → (a && b) ≡ a
and_true true b is = is
and_true false b is = refl

and_false : (a b : Bool) → b ≡ false → (a && b) ≡ false
and_false true b is = is
and_false false b is = refl

or_false : (a b : Bool) → b ≡ false → (a || b) ≡ a
or_false true b is = refl
or_false false b is = is

removed_others : (old new : ReadIndex) (unit : ℕ) → Removes unit old new → (u : ℕ) → u ≢ unit → (r : Read) → has_read new u r ≡ has_read old u r
removed_others old new unit removes u differ r = removes u r ∙ and_true (has_read old u r) (not (u == unit)) (ap not (apart u unit differ))

pub entries_forgot : (old new : ReadIndex) (lets more : List LetsRead) (unit : ℕ) → Removes unit old new → more ≡ set lets unit Stale →
    entries_of new 0 more ≡ set (entries_of old 0 lets) unit None
entries_forgot old new lets more unit removes is =
    entries_set old new lets more unit Stale None is (removed_others old new unit removes) (λ below. refl)

pub stale_forgot : (old new : ReadIndex) (lets more : List LetsRead) (unit : ℕ) → Removes unit old new → more ≡ set lets unit Stale →
    StaleHasNone old lets → StaleHasNone new more
stale_forgot old new lets more unit removes is stale u none r = elim (cases_eq u unit) [
  | inl same ↦ removes u r ∙ and_false (has_read old u r) (not (u == unit)) (ap not (eq-eqb u unit same))
  | inr differ ↦
      let was : slots_at lets u ≡ None =
      sym (ap (λ (ls : List LetsRead). slots_at ls u) is ∙ ap slots_of (get_or-set_other lets unit u Stale Stale differ)) ∙ none in
      removed_others old new unit removes u differ r ∙ stale u was r
]

-- the unit that is taken has read what it is taken for
pub taken_read : (held : ReadIndex) (lets : List LetsRead) (unit : ℕ) (r : Read) → StaleHasNone held lets →
    has_kept (reads_at (entries_of held 0 lets) unit) r ≡ has_read held unit r
taken_read held lets unit r stale =
    ap (λ (entry : Option Recorded). has_kept entry r) (entry_is held lets unit)
    ∙ read_kept (cells_read held unit) (names_read held unit) (slots_at lets unit) r (λ none. stale unit none r)

-- of what no unit has in the index none has read
pub never_read : (may : Bool) (held : ReadIndex) (lets : List LetsRead) (entries : List (Option Recorded)) (r : Read) → StaleHasNone held lets →
    entries_of held 0 lets ≡ entries → OnFalse may ((u : ℕ) → has_read held u r ≡ false) →
    OnFalse may ((place : ℕ) → has_kept (reads_at entries place) r ≡ false)
never_read true held lets entries r stale view none = tt
never_read false held lets entries r stale view none = λ place.
    ap (λ (es : List (Option Recorded)). has_kept (reads_at es place) r) (sym view) ∙ taken_read held lets place r stale ∙ none place

pub never_read_far : (may : Bool) (held : ReadIndex) (lets : List LetsRead) (entries : List (Option Recorded)) → StaleHasNone held lets →
    entries_of held 0 lets ≡ entries →
    OnFalse may ((u : ℕ) (axis : Axis) (n : ℕ) → is_far axis ≡ true → has_read held u (names_along axis n) ≡ false) →
    OnFalse may ((place : ℕ) (axis : Axis) (n : ℕ) → is_far axis ≡ true → has_kept (reads_at entries place) (names_along axis n) ≡ false)
never_read_far true held lets entries stale view none = tt
never_read_far false held lets entries stale view none = λ place axis n far.
    ap (λ (es : List (Option Recorded)). has_kept (reads_at es place) (names_along axis n)) (sym view)
    ∙ taken_read held lets place (names_along axis n) stale ∙ none place axis n far

is_kept : (entry : Option Recorded) (r : Read) → has_kept entry r ≡ true → is_some entry ≡ true
is_kept None r there = absurd (false≢true there)
is_kept (Some held) r there = refl

-- there is one entry less
pub fewer_kept : (entries more : List (Option Recorded)) (place : ℕ) (r : Read) → has_kept (reads_at entries place) r ≡ true →
    more ≡ set entries place None → kept_count more < kept_count entries
fewer_kept entries more place r there is =
    by (cases_lt place (length entries))
  where
    one : Option Recorded → ℕ
    one entry = cond (is_some entry) 1 0

    by : (place < length entries) ⊎ (length entries ≤ place) → kept_count more < kept_count entries
    by (inl below) =
        let counted = sum_by-set one entries place None None below in
        let was : one (reads_at entries place) ≡ 1 = ap (λ (b : Bool). cond b 1 0) (is_kept (reads_at entries place) r there) in
        let now : kept_count more ≡ kept_count (set entries place None) = ap kept_count is in
        omega (arith, counted, was, now)
    by (inr past) = absurd (false≢true (sym (ap (λ (entry : Option Recorded). has_kept entry r) (get_or_past entries place None past)) ∙ there))

-- A stale unit is kept

module _ (old new : ReadIndex) (lets more : List LetsRead) (unit : ℕ) (cells : List Cell) (names : List NamesAlong) (own : LetsRead)
    (adds : Adds unit cells names old new) (is : more ≡ set lets unit own)
    (within : unit < length lets) (was : slots_at lets unit ≡ None) (stale : StaleHasNone old lets) where
  added_others : (u : ℕ) → u ≢ unit → (r : Read) → has_read new u r ≡ has_read old u r
  added_others u differ r =
      adds u r
      ∙ or_false (has_read old u r) ((u == unit) && is_one_of cells names r) (ap (λ (b : Bool). b && is_one_of cells names r) (apart u unit differ))

  added_here : (r : Read) → has_read new unit r ≡ is_one_of cells names r
  added_here r =
      adds unit r ∙ ap (λ (b : Bool). b || ((unit == unit) && is_one_of cells names r)) (stale unit was r)
      ∙ ap (λ (b : Bool). false || (b && is_one_of cells names r)) (eq-eqb unit unit refl)

  pub entries_kept : entries_of new 0 more ≡ set (entries_of old 0 lets) unit (kept_of cells names (slots_of own))
  entries_kept =
      entries_set old new lets more unit own (kept_of cells names (slots_of own)) is added_others
      (λ below. kept_same (cells_read new unit) cells (names_read new unit) names (slots_of own) added_here)

  pub stale_kept : is_none (slots_of own) ≡ false → StaleHasNone new more
  stale_kept known u none r = elim (cases_eq u unit) [
    | inl same ↦
        let here : slots_of own ≡ None =
        sym (ap (λ (ls : List LetsRead). slots_at ls unit) is ∙ ap slots_of (get_or-set_same lets unit own Stale within))
        ∙ ap (slots_at more) (sym same) ∙ none in
        absurd (false≢true (sym known ∙ ap is_none here))
    | inr differ ↦
        let before : slots_at lets u ≡ None =
        sym (ap (λ (ls : List LetsRead). slots_at ls u) is ∙ ap slots_of (get_or-set_other lets unit u own Stale differ)) ∙ none in
        added_others u differ r ∙ stale u before r
  ]

pub stale_stays : (old new : ReadIndex) (lets : List LetsRead) → Stays old new → StaleHasNone old lets → StaleHasNone new lets
stale_stays old new lets stays stale u none r = stays u r ∙ stale u none r

pub stale_at : (held : ReadIndex) (lets : List LetsRead) (unit : ℕ) → reads_at (entries_of held 0 lets) unit ≡ None → slots_at lets unit ≡ None
stale_at held lets unit none = kept_none (cells_read held unit) (names_read held unit) (slots_at lets unit) (sym (entry_is held lets unit) ∙ none)

-- Places at the end

padded : (lets : List LetsRead) (k : ℕ) → slots_at (lets ++ Stale ∷ []) k ≡ slots_at lets k
padded [] zero = refl
padded [] (suc k) = refl
padded (own ∷ lets) zero = refl
padded (own ∷ lets) (suc k) = padded lets k

pub slots_more : (first old new : List LetsRead) → ((k : ℕ) → slots_at old k ≡ slots_at first k) → new ≡ old ++ Stale ∷ [] → (k : ℕ) →
    slots_at new k ≡ slots_at first k
slots_more first old new same is k = ap (λ (ls : List LetsRead). slots_at ls k) is ∙ padded old k ∙ same k

pub entry_same : (held : ReadIndex) (old new : List LetsRead) → ((k : ℕ) → slots_at new k ≡ slots_at old k) → (k : ℕ) →
    reads_at (entries_of held 0 new) k ≡ reads_at (entries_of held 0 old) k
entry_same held old new same k = entry_is held new k ∙ ap (kept_of (cells_read held k) (names_read held k)) (same k) ∙ sym (entry_is held old k)

-- A place that is set twice
pub set_again : {X : Type 0} (xs : List X) (k : ℕ) (x y : X) → set (set xs k x) k y ≡ set xs k y
set_again {X} [] k x y = refl
set_again {X} (z ∷ xs) zero x y = refl
set_again {X} (z ∷ xs) (suc k) x y = ap (λ (zs : List X). z ∷ zs) (set_again xs k x y)

pub put_ok : {A E : Type 0} (result : Result A E) (first mid last : List (Option Recorded)) (place : ℕ) (cells : List Cell) (names : List NamesAlong)
    (slots : List ℕ) (own : Option (List ℕ)) (held reads : Recorded) →
    mid ≡ set first place None → OnOk result (last ≡ set mid place (kept_of cells names own)) → own ≡ Some slots → from_list cells ≡ held.cells →
    from_list names ≡ held.names → from_list slots ≡ held.lets → held ≡ reads →
    OnOk result (last ≡ set first place (Some reads))
put_ok (Ok v) first mid last place cells names slots own held reads forgot kept is cells_are names_are lets_are same =
    kept ∙ ap (λ (entries : List (Option Recorded)). set entries place (kept_of cells names own)) forgot
    ∙ set_again first place None (kept_of cells names own)
    ∙ ap (set first place)
    (ap (kept_of cells names) is ∙ ap (λ (c : CellSet). Some (record { cells = c; names = from_list names; lets = from_list slots })) cells_are
    ∙ ap (λ (a : NamesSet). Some (record { cells = held.cells; names = a; lets = from_list slots })) names_are
    ∙ ap (λ (l : LetSet). Some (record { cells = held.cells; names = held.names; lets = l })) lets_are
    ∙ ap (λ (r : Recorded). Some r) same)
put_ok (Err e) first mid last place cells names slots own held reads forgot kept is cells_are names_are lets_are same = tt

-- Whether a unit is stale
pub none_where : {X : Type 0} (o : Option X) (b : Bool) → is_some o ≡ not b → b ≡ is_none o
none_where None true tells = refl
none_where None false tells = absurd (false≢true tells)
none_where (Some x) true tells = absurd (false≢true (sym tells))
none_where (Some x) false tells = refl

pub copied_none : {X : Type 0} (o : Option (Bor X)) → is_none (option_copied o) ≡ is_none o
copied_none None = refl
copied_none (Some x) = refl

pub same_none : (slots : Option (List ℕ)) (entry : Option Recorded) → lets_told slots ≡ lets_kept entry → is_none slots ≡ is_none entry
same_none None None same = refl
same_none None (Some held) same = absurd (cc)
same_none (Some slots) None same = absurd (cc)
same_none (Some slots) (Some held) same = refl

pub stale_same : (held : ReadIndex) (old new : List LetsRead) → ((k : ℕ) → slots_at new k ≡ slots_at old k) → StaleHasNone held old →
    StaleHasNone held new
stale_same held old new same stale u none r = stale u (sym (same u) ∙ none) r

-- where nothing is put in the place of what was forgotten
pub put_err : {A E : Type 0} (result : Result A E) (mid last first : List (Option Recorded)) → mid ≡ first → OnErr result (last ≡ mid) →
    OnErr result (last ≡ first)
put_err (Ok v) mid last first forgot unchanged = tt
put_err (Err e) mid last first forgot unchanged = unchanged ∙ forgot
