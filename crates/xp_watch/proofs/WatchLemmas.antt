-- What a watch keeps after an edit.
use Rattle.std.proofs.Common.{◌≡◌, ◌∙◌, ◌⊎◌, inl, inr, ℕ, ◌<◌, ◌≤◌, Bool, true, false, cond, ◌||◌, List, length, get_or, Option, None, Some, IfSome, is_none, Result, Bor, refl, sym, ap, subst, arith}
use Rattle.std.specs.Prelude.{◌↔◌, IsNone, slice_get}
use Rattle.std.specs.Option.{option_copied}
use Rattle.std.proofs.lemmas.Bool.{false≢true, true≢false}
use Rattle.std.proofs.lemmas.List.{get_or_past}
use Rattle.std.proofs.lemmas.Option.{slice_get_cases}
use Rattle.xp_values.specs.declared.values.EvalFault.{EvalFault}
use Rattle.xp_values.specs.declared.values.Value.{Value}
use Rattle.kept_reads.proofs.EntryLemmas.{copied_none}
use Rattle.xp_watch.specs.Watched.{watched}
use Rattle.doc_tree.specs.cell.Cell.{Cell}
use Rattle.doc_tree.specs.Laws.{WellFormed}
use Rattle.doc_tree.specs.Table.{Table}
use Rattle.doc_edit_laws.specs.Along.{Edit}
use Rattle.xp_typed_tree.specs.TypedTree.{TypedTree}
use Rattle.xp_meaning_laws.specs.KnownReads.{CellsReadAreLive}
use Rattle.xp_watch.specs.Kept.{IsDone, Kept, Marks, given_by, is_stale, value_of}
use Rattle.cover_laws.specs.Covering.{TouchingIsTold}
use Rattle.xp_outcome.specs.Recorded.{Recorded}
use Rattle.kept_reads.specs.Marking.{reads_touched}
use Rattle.kept_reads.specs.Reads.{reads_at}
use Rattle.xp_watch.specs.Laws.{EditsKeep}
use Rattle.xp_watch.specs.inner.Refreshing.{Keeps}

-- marks told by a test are those of another that tells the same
test_same : (T : Table) (touched held : Cell → Bool) (old new : Kept) → ((c : Cell) → held c ≡ touched c) → Marks T held old new →
    Marks T touched old new
test_same T touched held old new same marks = subst (λ (test : Cell → Bool). Marks T test old new) (λ i c. same c i) marks

-- and so are marks told by the tree that an edit made, by the tree before it
told_before : TouchingIsTold → (T U : Table) (touched : Cell → Bool) → WellFormed T → Edit T U touched → (entry : Option Recorded) →
    reads_touched U touched entry ≡ reads_touched T touched entry
told_before told T U touched formed edit None = refl
told_before told T U touched formed edit (Some held) = sym (told T U touched held formed edit)

pub marks_same : TouchingIsTold → (T U : Table) (touched held : Cell → Bool) (old new : Kept) → WellFormed T → Edit T U touched →
    ((c : Cell) → held c ≡ touched c) → Marks U held old new → Marks T touched old new
marks_same told T U touched held old new formed edit same marks = record {
  stale = λ k. by.stale k ∙ ap (λ (b : Bool). is_stale old k || b) (told_before told T U touched formed edit (reads_at old.reads k));
  values = by.values;
  reads = by.reads;
}
  where
    by : Marks U touched old new
    by = test_same U touched held old new same marks

-- an edit keeps the places, and what is right
pub edit_holds : EditsKeep → (T U : Table) (touched : Cell → Bool) (exprs : List TypedTree) (old new : Kept) → WellFormed T → Edit T U touched →
    CellsReadAreLive T → CellsReadAreLive U → length new.reads ≡ length old.reads → Marks T touched old new → Keeps T exprs old → Keeps U exprs new
edit_holds keep T U touched exprs old new formed edit cells cells_after places marks keeps = record {
  values = ap length marks.values ∙ keeps.values;
  reads = places ∙ keeps.reads;
  right = keep T U touched exprs old new formed edit cells cells_after keeps.right marks;
}

-- Values

none_is : {X : Type 0} (o : Option X) → is_none o ≡ true → IsNone o
none_is None is = refl
none_is (Some x) is = absurd (false≢true is)

none_of : {X : Type 0} (o : Option X) → IsNone o → is_none o ≡ true
none_of None is = refl
none_of (Some x) is = absurd (true≢false is)

module _ (T : Table) (exprs : List TypedTree) (kept : Kept) (keeps : Keeps T exprs kept) (k : ℕ) (o : Option (Bor (Result Value EvalFault)))
    (told : option_copied o ≡ value_of kept k) where
  value_stale : is_stale kept k ≡ true → value_of kept k ≡ None
  value_stale is = ap (λ (b : Bool). cond b None (given_by kept k)) is

  value_fresh : is_stale kept k ≡ false → value_of kept k ≡ given_by kept k
  value_fresh is = ap (λ (b : Bool). cond b None (given_by kept k)) is

  none_told : is_none o ≡ is_none (value_of kept k)
  none_told = sym (copied_none o) ∙ ap is_none told

  past_stale : length exprs ≤ k → is_stale kept k ≡ true
  past_stale past = ap is_none (get_or_past kept.reads k None (omega (arith, keeps.reads, past)))

  there : IsNone o → (b : Bool) → is_stale kept k ≡ b → (length exprs ≤ k) ⊎ (is_stale kept k ≡ true)
  there none true is = inr is
  there none false is = by ((slice_get_cases exprs k).1)
    where
      by : ((expr : TypedTree) × (k < length exprs) × (slice_get exprs k ≡ Some expr) × (get_or exprs k expr ≡ expr))
          ⊎ ((length exprs ≤ k) × (slice_get exprs k ≡ None)) → (length exprs ≤ k) ⊎ (is_stale kept k ≡ true)
      by (inl found) =
          let done : IsDone T found.0 kept k = keeps.right k found.0 found.2 is in
          absurd (false≢true (sym (none_told ∙ ap is_none (value_fresh is ∙ done.gave)) ∙ none_of o none))
      by (inr past) = inl past.0

  back : (length exprs ≤ k) ⊎ (is_stale kept k ≡ true) → IsNone o
  back (inl past) = none_is o (none_told ∙ ap is_none (value_stale (past_stale past)))
  back (inr stale) = none_is o (none_told ∙ ap is_none (value_stale stale))

  -- no value is told just past the last watch, and where it is stale
  pub value_none : IsNone o ↔ ((length exprs ≤ k) ⊎ (is_stale kept k ≡ true))
  value_none = (λ none. there none (is_stale kept k) refl, back)

-- a value that is told is that of the tree
pub value_watched : (T : Table) (exprs : List TypedTree) (kept : Kept) → Keeps T exprs kept → (k : ℕ) (o : Option (Bor (Result Value EvalFault))) →
    option_copied o ≡ value_of kept k → IfSome o (λ given. (expr : TypedTree) → slice_get exprs k ≡ Some expr → given.now ≡ (watched T expr).answer)
value_watched T exprs kept keeps k None told = tt
value_watched T exprs kept keeps k (Some given) told = λ expr get. by expr get (is_stale kept k) refl
  where
    by : (expr : TypedTree) → slice_get exprs k ≡ Some expr → (b : Bool) → is_stale kept k ≡ b → given.now ≡ (watched T expr).answer
    by expr get true is =
        let e : Some given.now ≡ None = told ∙ ap (λ (b : Bool). cond b None (given_by kept k)) is in absurd (cc)
    by expr get false is =
        let e : Some given.now ≡ Some (watched T expr).answer =
        told ∙ ap (λ (b : Bool). cond b None (given_by kept k)) is ∙ (keeps.right k expr get is).gave in (cc)
