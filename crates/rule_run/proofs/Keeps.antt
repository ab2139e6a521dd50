-- The ends of runs as what is kept of units.
use Rattle.std.proofs.Common.{◌≡◌, ℕ, ◌+◌, ◌<◌, ◌≤◌, [], refl, subst, Result, Ok, Err, arith}
use Rattle.std.specs.Prelude.{Option, Some, None, IfSome, option_map}
use Rattle.std.specs.Result.{IsErrAnd}
use Rattle.std.specs.declared.alloc.AllocError.{AllocError}
use Rattle.xp_outcome.specs.Evaluation.{Evaluation}
use Rattle.xp_outcome.specs.Recorded.{Recorded, nothing_read}
use Rattle.xp_outcome.specs.Running.{Stop, faulted, no_memory, Answered, Faulted, CutShort, Ran}
use Rattle.xp_typed_tree.specs.TypedTree.{TypedTree}
use Rattle.xp_values.specs.declared.values.EvalFault.{EvalFault}
use Rattle.sch_compiled.specs.declared.parts.LetInForce.{LetInForce}
use Rattle.sch_compiled.specs.declared.findings.Outcome.{Outcome}
use Rattle.sch_compiled.specs.declared.findings.Outcome.TheVariants.{NoRule, Fired, Fault}
use Rattle.rule_run.specs.declared.kept.Kept.{Kept}
use Rattle.rule_run.specs.Kept.{outcome_shown, pair_reads, pair_shown}
use Rattle.rule_run.specs.inner.Keeping.{GivesNoFault}

-- the count of a run doesn't fall
pub ran_later : {F A : Type 0} {m : Evaluation F A} (r : Result A (Stop F)) {held now : Recorded} {before after : ℕ} → Ran m r held now before after → before ≤ after
ran_later {m = m} (Ok v) {held} {now} {before} {after} h = let c : Answered m v held now before after = h.computes in omega (arith, c.steps)
ran_later {m = m} (Err (faulted f)) {held} {now} {before} {after} h = let c : Faulted m f held now before after = h.computes in c.later
ran_later {m = m} (Err no_memory) {held} {now} {before} {after} h = let c : CutShort m held now before after = h.computes in c.later

-- after one step the count has risen
pub risen : {F A : Type 0} {m : Evaluation F A} (r : Result A (Stop F)) {held now : Recorded} {before ticked after : ℕ} → ticked ≡ before + 1 →
    Ran m r held now ticked after → before < after
risen r is h = let e = ran_later r h in omega (arith, is, e)

-- after want of memory what was recorded may be forgotten
pub ran_forgets : {F A : Type 0} {m : Evaluation F A} {held now : Recorded} {before after : ℕ} → Ran m (Err no_memory) held now before after →
    Ran m (Err no_memory) held held before after
ran_forgets {m = m} {held} {now} {before} {after} h =
    let c : CutShort m held now before after = h.computes in
    record { computes = record { recorded = []; unread = m.reads; reads = refl; first = refl; later = c.later; steps = c.steps } }

-- so of a node under a pattern nothing is kept
pub pair_stops : {m : Evaluation EvalFault Outcome} (P : AllocError → Type 0) (r : Result Kept AllocError) {now : Recorded} {before after : ℕ} → IsErrAnd r P →
    Ran m (Err no_memory) nothing_read now before after → Ran m (pair_shown r) nothing_read (pair_reads r) before after
pair_stops P (Ok kept) h ran = absurd h
pair_stops P (Err e) h ran = ran_forgets ran

-- an answer that is kept is no fault
pub ran_outcome : {m : Evaluation EvalFault Outcome} (o : Outcome) {held now : Recorded} {before after : ℕ} → GivesNoFault m → Ran m (Ok o) held now before after →
    Ran m (outcome_shown o) held now before after
ran_outcome NoRule sound h = h
ran_outcome (Fired r findings) sound h = h
ran_outcome {m} (Fault f) {held} {now} {before} {after} sound h = let c : Answered m (Fault f) held now before after = h.computes in absurd (sound f c.answer)

-- what holds of the expression of a let that is there
pub if_there : (P : TypedTree → Type 0) (o : Option LetInForce) (e : TypedTree) → option_map (λ t. t.expr) o ≡ Some e → P e → IfSome o (λ t. P t.expr)
if_there P None e is h = absurd (cc)
if_there P (Some t) e is h = subst P (same t.expr e is) h
  where
    same : (a b : TypedTree) → Some a ≡ Some b → b ≡ a
    same a b is = cc
