-- Watches over edits.
use Rattle.std.proofs.Common.{◌≡◌, ◌∙◌, ◌⊎◌, inl, inr, ℕ, zero, suc, ◌+◌, ◌<◌, ◌≤◌, Bool, true, false, cond, ◌||◌, List, [], ◌∷◌, length, get_or, Option, None, Some, is_none, Result, refl, sym, ap, ap₂, subst, arith}
use Rattle.std.specs.Prelude.{filter, slice_get, slice_index_or}
use Rattle.std.specs.Option.{option_map_or}
use Rattle.std.specs.List.{range_with_len}
use Rattle.std.proofs.lemmas.Bool.{and_parts, or_parts}
use Rattle.std.proofs.lemmas.Option.{slice_get_cases}
use Rattle.doc_tree.specs.cell.Cell.{Cell}
use Rattle.doc_tree.specs.Laws.{WellFormed}
use Rattle.doc_tree.specs.Table.{Table, is_live}
use Rattle.doc_edit_laws.specs.Along.{Edit, Edits, EditsLeave, none, then}
use Rattle.xp_typed_tree.specs.TypedTree.{TypedTree}
use Rattle.xp_outcome.specs.Evaluation.{Evaluation}
use Rattle.xp_outcome.specs.Recorded.{Recorded, note_all, nothing_read}
use Rattle.xp_values.specs.declared.values.EvalFault.{EvalFault}
use Rattle.xp_values.specs.declared.values.Value.{Value}
use Rattle.xp_meaning_laws.specs.KnownReads.{CellsReadAreLive}
use Rattle.xp_locality_laws.specs.Locality.{Changed, ExpressionsAreLocal}
use Rattle.xp_locality_laws.proofs.AxisLemmas.{root-stays}
use Rattle.cover_laws.specs.Covering.{HeldAlike, HeldIsTouchedAlike, HeldStaysAlike, IsOfLive, ReadsAreTouched}
use Rattle.kept_reads.specs.Marking.{reads_touched}
use Rattle.kept_reads.specs.Reads.{reads_at}
use Rattle.xp_watch.specs.Kept.{IsDone, is_stale}
use Rattle.xp_watch.specs.Laws.{CleanWatchesStand, DirtyAreStale, EditsKeep}
use Rattle.xp_watch.specs.Watched.{all_read, is_dirty, root_alone, watched}
use Rattle.xp_watch.proofs.ReadLemmas.{live_reads, reads_kept}

changed_by : EditsLeave → (T U : Table) (touched : Cell → Bool) → WellFormed T → Edits T U touched → Changed T U touched
changed_by leave T U touched formed edits =
    let left = leave T U touched formed edits in record { before = left.before; after = left.after; agree = left.agree }

pub clean_stands : EditsLeave → ExpressionsAreLocal → ReadsAreTouched → CleanWatchesStand
clean_stands leave local told T U touched expr formed edits clean =
    let changed = changed_by leave T U touched formed edits in
    let root = root-stays T U touched [] [] changed in
    (local T U touched [] [] expr root_alone changed (record { node = root; current = root })
    (reads_kept T U touched (watched T expr).reads (sym (told T touched (watched T expr).reads) ∙ clean))).same

-- one edit
one_edit : (T U : Table) (touched : Cell → Bool) → Edit T U touched → Edits T U touched
one_edit T U touched edit = (then) T U (λ c. false) touched none edit

-- what an expression reads is of live nodes
read_live : (T : Table) → CellsReadAreLive T → (expr : TypedTree) → is_live T 0 ≡ true → IsOfLive T (all_read T expr)
read_live T cells expr root = live_reads T (watched T expr).reads (cells [] expr root_alone (λ place v is. absurd (cc)) root root)

pub edit_keeps : CleanWatchesStand → EditsLeave → HeldIsTouchedAlike → HeldStaysAlike → EditsKeep
edit_keeps stand leave touches stay T U touched exprs old new formed edit cells cells_after right marks k expr there fresh = record {
  gave = ap (λ (values : List (Option (Result Value EvalFault))). slice_index_or values k None) marks.values ∙ was.gave
      ∙ ap (λ (m : Evaluation EvalFault Value). Some m.answer) (sym same);
  held = was.held;
  is = marks.reads k fresh ∙ was.is;
  alike = subst (λ (m : Evaluation EvalFault Value). HeldAlike U was.held (note_all nothing_read m.reads)) (sym same)
      (stay T U touched was.held (all_read T expr) formed edits (read_live T cells expr root.0)
      (subst (λ (m : Evaluation EvalFault Value). IsOfLive U (note_all nothing_read m.reads)) same (read_live U cells_after expr root.1))
      was.alike);
}
  where
    edits : Edits T U touched
    edits = one_edit T U touched edit

    root : (is_live T 0 ≡ true) × (is_live U 0 ≡ true)
    root = and_parts (is_live T 0) (is_live U 0) (root-stays T U touched [] [] (changed_by leave T U touched formed edits))

    parts : (is_stale old k ≡ false) × (reads_touched T touched (reads_at old.reads k) ≡ false)
    parts = or_parts (is_stale old k) (reads_touched T touched (reads_at old.reads k)) (sym (marks.stale k) ∙ fresh)

    was : IsDone T expr old k
    was = right k expr there parts.0

    clean : is_dirty T touched expr ≡ false
    clean = sym (touches T U touched was.held (all_read T expr) formed edit was.alike) ∙ ap (reads_touched T touched) (sym was.is) ∙ parts.1

    same : watched U expr ≡ watched T expr
    same = stand T U touched expr formed edits clean

-- tests that agree on numbers in a row let the same ones pass
filter_same : (p q : ℕ → Bool) (a n : ℕ) → ((k : ℕ) → k < a + n → p k ≡ q k) → filter p (range_with_len a n) ≡ filter q (range_with_len a n)
filter_same p q a zero same = refl
filter_same p q a (suc n) same =
    ap₂ (λ (b : Bool) (ks : List ℕ). cond b (a ∷ ks) ks) (same a (omega arith)) (filter_same p q (a + 1) n (λ k less. same k (omega (arith, less))))

pub dirty_stale : HeldIsTouchedAlike → DirtyAreStale
dirty_stale touches T U touched exprs old new formed edit fresh marks =
    filter_same (is_stale new) (λ k. option_map_or (is_dirty T touched) (slice_get exprs k) false) 0 (length exprs) each
  where
    at : (k : ℕ) (expr : TypedTree) → slice_get exprs k ≡ Some expr → is_stale new k ≡ is_dirty T touched expr
    at k expr there =
        let done : IsDone T expr old k = fresh k expr there in
        marks.stale k ∙ ap (λ (entry : Option Recorded). is_none entry || reads_touched T touched entry) done.is
        ∙ touches T U touched done.held (all_read T expr) formed edit done.alike

    each : (k : ℕ) → k < 0 + length exprs → is_stale new k ≡ option_map_or (is_dirty T touched) (slice_get exprs k) false
    each k less = by ((slice_get_cases exprs k).1)
      where
        by : ((expr : TypedTree) × (k < length exprs) × (slice_get exprs k ≡ Some expr) × (get_or exprs k expr ≡ expr))
            ⊎ ((length exprs ≤ k) × (slice_get exprs k ≡ None)) → is_stale new k ≡ option_map_or (is_dirty T touched) (slice_get exprs k) false
        by (inl found) = at k found.0 found.2 ∙ sym (ap (λ (o : Option TypedTree). option_map_or (is_dirty T touched) o false) found.2)
        by (inr past) = absurd (omega (arith, less, past.0))
