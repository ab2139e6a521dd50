-- What is kept where all units are done, and after an edit.
use Rattle.std.proofs.Common.{◌≡◌, ◌∙◌, ℕ, ◌<◌, Bool, false, Option, None, Some, length, if◌then◌else◌, refl, sym, ap, subst}
use Rattle.doc_tree.specs.cell.Cell.{Cell}
use Rattle.doc_tree.specs.Laws.{Ordered, WellFormed}
use Rattle.doc_tree.specs.Table.{Table}
use Rattle.doc_edit_laws.specs.Along.{Edit, Edits, none, then}
use Rattle.cover_laws.specs.Covering.{TouchingIsTold}
use Rattle.xp_outcome.specs.Recorded.{Recorded}
use Rattle.xp_outcome.specs.Slots.{in_slot}
use Rattle.sch_compiled.specs.declared.plan.Plan.{Plan}
use Rattle.sch_compiled.specs.Findings.{outcome_at}
use Rattle.sch_compiled.specs.Soundness.{IsSound}
use Rattle.sch_units.specs.Units.{lets_of}
use Rattle.sch_units.specs.Validity.{pair_outcome}
use Rattle.kept_units.specs.Locality.{RulesTyped}
use Rattle.kept_units.specs.Dirty.{dirty_units}
use Rattle.kept_units.specs.Units.{in_force, under}
use Rattle.kept_units.specs.Outcomes.{Holds, LetsHold}
use Rattle.kept_units.specs.Kept.{Keeps, Kept}
use Rattle.kept_units.specs.KeptLaws.{DirtyUnitsAreRun, EditsKeep}
use Rattle.kept_units.specs.Running.{IsDone, IsFresh, to_run}
use Rattle.kept_units.specs.Steps.{Marks, unless_touched}
use Rattle.kept_units.specs.declared.kept_units.KeptUnits.{KeptUnits}
use Rattle.kept_units.specs.Keeping.{seen_in}

-- the slots hold the outcomes of the tree
pub lets-fresh : (plan : Plan) (T : Table) (kept : KeptUnits) → IsFresh plan T (seen_in kept) → LetsHold plan T kept.lets
lets-fresh plan T kept fresh = record {
  few = fresh.keeps.few;
  each = λ slot below.
      let done : IsDone plan T (seen_in kept) (in_force slot) = fresh.done (in_force slot) below in
      let gives : in_slot kept.lets slot ≡ in_slot (lets_of plan T) slot = done.right.gives in
      gives;
}

-- and so does the table of outcomes
pub holds-fresh : (plan : Plan) (T : Table) (kept : KeptUnits) → Ordered T → kept.found.patterns ≡ length plan.patterns → IsFresh plan T (seen_in kept) → Holds plan T kept.found
holds-fresh plan T kept ordered patterns fresh = record {
  patterns = patterns;
  outcomes = λ p n below there.
      let done : IsDone plan T (seen_in kept) (under p n) = fresh.done (under p n) (below, ordered.live_in_order n ∙ there) in
      let gives : outcome_at kept.found p n ≡ Some (pair_outcome plan T p n) = done.right.gives in
      gives;
}

-- marks told by a test are those of another that tells the same
test-same : (T : Table) (touched held : Cell → Bool) (old new : Kept) → ((c : Cell) → held c ≡ touched c) → Marks T held old new →
    Marks T touched old new
test-same T touched held old new same marks = subst (λ (test : Cell → Bool). Marks T test old new) (λ i c. same c i) marks

-- and so are marks told by the tree that an edit made, by the tree before it
told-before : TouchingIsTold → (T U : Table) (touched : Cell → Bool) → WellFormed T → Edit T U touched → (entry : Option Recorded) →
    unless_touched U touched entry ≡ unless_touched T touched entry
told-before told T U touched formed edit None = refl
told-before told T U touched formed edit (Some held) = ap (λ (b : Bool). if b then None else Some held) (sym (told T U touched held formed edit))

pub marks-same : TouchingIsTold → (T U : Table) (touched held : Cell → Bool) (old new : Kept) → WellFormed T → Edit T U touched →
    ((c : Cell) → held c ≡ touched c) → Marks U held old new → Marks T touched old new
marks-same told T U touched held old new formed edit same marks = record {
  lets = by.lets;
  outcomes = by.outcomes;
  reads = λ unit. by.reads unit ∙ told-before told T U touched formed edit (old.reads unit);
}
  where
    by : Marks U touched old new
    by = test-same U touched held old new same marks

-- one edit
one-edit : (T U : Table) (touched : Cell → Bool) → Edit T U touched → Edits T U touched
one-edit T U touched edit = (then) T U (λ c. false) touched none edit

-- an edit keeps the state
pub kept-edited : EditsKeep → (plan : Plan) (T U : Table) (touched : Cell → Bool) (old new : Kept) → WellFormed T → Edit T U touched →
    Keeps plan T old → Marks T touched old new → Keeps plan U new
kept-edited keep plan T U touched old new formed edit keeps marks = keep plan T U touched old new formed (one-edit T U touched edit) keeps marks

-- where all units were done, those are to be run then that the edit left dirty
pub dirty-edited : DirtyUnitsAreRun → (plan : Plan) (T U : Table) (touched : Cell → Bool) (old new : Kept) → IsSound plan → WellFormed T →
    Edit T U touched → Marks T touched old new →
    ((p : ℕ) → p < length plan.patterns → RulesTyped plan p) → IsFresh plan T old → to_run plan U new ≡ dirty_units plan T U touched
dirty-edited run plan T U touched old new sound formed edit marks typed fresh = run plan T U touched old new sound formed (one-edit T U touched edit) fresh marks typed
