-- Runs that are repeated from what was kept of them: begun with other reads and at another count.
use Rattle.std.proofs.Common.{◌≡◌, ℕ, ◌+◌, ◌<◌, ◌≤◌, List, [], refl, sym, ◌∙◌, ap, subst, append-nil, zero-add, Bool, Result, Ok, Err, Some, None, Option, arith}
use Rattle.std.specs.Prelude.{min, IfSome}
use Rattle.std.specs.Result.{IsErr}
use Rattle.std.specs.declared.alloc.AllocError.{AllocError}
use Rattle.doc_tree.specs.Lists.{mem}
use Rattle.doc_tree.specs.Table.{Table}
use Rattle.xp_typed_tree.specs.TypedTree.{TypedPathTree, TypedPatternStepTree}
use Rattle.xp_typed_tree.specs.TypedView.{pattern_step_seen}
use Rattle.xp_meaning.specs.Evaluation.{Lets}
use Rattle.xp_meaning_laws.specs.Current.{StepsNeedNoCurrent}
use Rattle.xp_outcome.specs.Evaluation.{Evaluation, done, bind}
use Rattle.xp_outcome.specs.Recorded.{Recorded, joined, nothing_read}
use Rattle.xp_outcome.specs.Running.{Stop, faulted, no_memory, Answered, Faulted, CutShort, Ran}
use Rattle.xp_outcome.proofs.Runs.{ran_alike, ran_bind, ran_stop, ran_done}
use Rattle.xp_values.specs.declared.values.EvalFault.{EvalFault}
use Rattle.xslt_match.specs.declared.kept.KeptStep.{KeptStep}
use Rattle.xslt_match.specs.declared.kept.Selected.{Selected}
use Rattle.xslt_match.specs.declared.testing.PlacedStep.{PlacedStep}
use Rattle.xslt_match.specs.inner.Keeping.{IsPlacedIn, nodes_told, reads_of, told_of}
use Rattle.xslt_match.specs.Kept.{IsOutcomeAt, told}
use Rattle.xslt_match.specs.Matching.{is_left, step_of}
use Rattle.xslt_match.proofs.JoinedReads.{joined_noted}

module _ {F A : Type 0} {m : Evaluation F A} where
  -- a run that began with nothing read, after others
  pub ran_joined : (r : Result A (Stop F)) {held reads now : Recorded} {before after : ℕ} → now ≡ joined held reads → Ran m r nothing_read reads before after → Ran m r held now before after
  ran_joined (Ok v) {held} {reads} {now} {before} {after} is h =
      let c : Answered m v nothing_read reads before after = h.computes in
      record { computes = record { answer = c.answer; reads = is ∙ ap (joined held) c.reads ∙ joined_noted held m.reads; steps = c.steps } }
  ran_joined (Err (faulted f)) {held} {reads} {now} {before} {after} is h =
      let c : Faulted m f nothing_read reads before after = h.computes in
      record { computes = record { answer = c.answer; reads = is ∙ ap (joined held) c.reads ∙ joined_noted held m.reads; later = c.later; steps = c.steps } }
  ran_joined (Err no_memory) {held} {reads} {now} {before} {after} is h =
      let c : CutShort m nothing_read reads before after = h.computes in
      record {
        computes = record {
          recorded = c.recorded;
          unread = c.unread;
          reads = c.reads;
          first = is ∙ ap (joined held) c.first ∙ joined_noted held c.recorded;
          later = c.later;
          steps = c.steps;
        };
      }

  -- a run counts upwards, and no further than the work
  pub ran_later : (r : Result A (Stop F)) {held now : Recorded} {before after : ℕ} → Ran m r held now before after → (before ≤ after) × (after ≤ before + m.work)
  ran_later (Ok v) {held} {now} {before} {after} h =
      let c : Answered m v held now before after = h.computes in
      (omega (arith, c.steps), omega (arith, c.steps))
  ran_later (Err (faulted f)) {held} {now} {before} {after} h =
      let c : Faulted m f held now before after = h.computes in
      (c.later, c.steps)
  ran_later (Err no_memory) {held} {now} {before} {after} h =
      let c : CutShort m held now before after = h.computes in
      (c.later, c.steps)

  -- a run of which nothing that it read was recorded
  pub ran_unread : (r : Result A (Stop F)) {held reads now : Recorded} {before after : ℕ} → Ran m r held reads before after → Ran m (Err no_memory) now now before after
  ran_unread r h =
      let l = ran_later r h in
      record { computes = record { recorded = []; unread = m.reads; reads = refl; first = refl; later = l.0; steps = l.1 } }

  -- a run after which memory was wanting
  pub ran_wanting : (r : Result A (Stop F)) {held now : Recorded} {before after : ℕ} → Ran m r held now before after → Ran m (Err no_memory) held now before after
  ran_wanting (Ok v) {held} {now} {before} {after} h =
      let c : Answered m v held now before after = h.computes in
      let l = ran_later (Ok v) h in
      record { computes = record { recorded = m.reads; unread = []; reads = sym (append-nil m.reads); first = c.reads; later = l.0; steps = l.1 } }
  ran_wanting (Err (faulted f)) {held} {now} {before} {after} h =
      let c : Faulted m f held now before after = h.computes in
      record { computes = record { recorded = m.reads; unread = []; reads = sym (append-nil m.reads); first = c.reads; later = c.later; steps = c.steps } }
  ran_wanting (Err no_memory) h = h

  -- a run at another count
  pub ran_counted : (r : Result A (Stop F)) {held now : Recorded} {before after start end : ℕ} (visits : ℕ) → after ≡ before + visits → end ≡ start + visits →
      Ran m r held now before after → Ran m r held now start end
  ran_counted (Ok v) {held} {now} {before} {after} {start} {end} visits rose rises h =
      let c : Answered m v held now before after = h.computes in
      record { computes = record { answer = c.answer; reads = c.reads; steps = omega (arith, c.steps) } }
  ran_counted (Err (faulted f)) {held} {now} {before} {after} {start} {end} visits rose rises h =
      let c : Faulted m f held now before after = h.computes in
      record { computes = record { answer = c.answer; reads = c.reads; later = omega arith; steps = omega (arith, c.steps) } }
  ran_counted (Err no_memory) {held} {now} {before} {after} {start} {end} visits rose rises h =
      let c : CutShort m held now before after = h.computes in
      record {
        computes = record {
          recorded = c.recorded;
          unread = c.unread;
          reads = c.reads;
          first = c.first;
          later = omega arith;
          steps = omega (arith, c.steps);
        };
      }

-- whether a node is among those that an evaluation gives
pub ran_told : {m : Evaluation EvalFault (List ℕ)} (k : ℕ) (r : Result (List ℕ) (Stop EvalFault)) {held now : Recorded} {before after : ℕ} → Ran m r held now before after →
    Ran (bind m (λ ms. done (mem k ms))) (nodes_told r k) held now before after
ran_told k (Ok ms) {held} {now} {before} {after} h = ran_bind (λ ms. done (mem k ms)) h (ran_done (mem k ms) now after)
ran_told k (Err e) h = ran_stop (λ ms. done (mem k ms)) e h

-- nothing was selected for want of memory
pub ran_unselected : {m : Evaluation EvalFault Bool} (k : ℕ) (r : Result Selected AllocError) {before after : ℕ} → IsErr r → Ran m (Err no_memory) nothing_read nothing_read before after →
    Ran m (told_of r k) nothing_read (reads_of r) before after
ran_unselected k (Ok selected) is h = absurd (cc)
ran_unselected k (Err e) is h = h

-- What is kept of a step that stands in the pattern

module _ (T : Table) (L : Lets) (ps : List TypedPathTree) (at : PlacedStep) (placed : IsPlacedIn ps at) (parent : ℕ) where
  -- it tells how a run ends
  pub outcome_there : (kept : KeptStep) → IsOutcomeAt T L ps (record { path = at.path; step = at.number; parent = parent }) kept → (n k : ℕ) →
      Ran (is_left T (step_of T L (pattern_step_seen at.step.now)) n k (Some parent)) (told kept.selected.nodes k) nothing_read kept.selected.reads 0 kept.visits
  outcome_there kept outcome n k =
      let there : (m l : ℕ) → Ran (is_left T (step_of T L (pattern_step_seen at.step.now)) m l (Some parent)) (told kept.selected.nodes l) nothing_read kept.selected.reads 0 kept.visits =
      subst (λ o. IfSome o (λ s. (m l : ℕ) → Ran (is_left T (step_of T L s) m l (Some parent)) (told kept.selected.nodes l) nothing_read kept.selected.reads 0 kept.visits)) placed.there outcome in
      there n k

  -- and it is known where a run for one node has ended, since a pattern calls no `current`
  pub outcome_kept : StepsNeedNoCurrent → (node : ℕ) (selected : Selected) (before after visits : ℕ) → after ≡ before + visits →
      ((k : ℕ) → Ran (is_left T (step_of T L (pattern_step_seen at.step.now)) node k (Some parent)) (told selected.nodes k) nothing_read selected.reads before after) →
      IsOutcomeAt T L ps (record { path = at.path; step = at.number; parent = parent }) (record { selected = selected; visits = visits })
  outcome_kept law node selected before after visits rose ran =
      let s : TypedPatternStepTree = pattern_step_seen at.step.now in
      let here : (n k : ℕ) → Ran (is_left T (step_of T L s) n k (Some parent)) (told selected.nodes k) nothing_read selected.reads 0 visits =
      λ n k. ran_alike (ap (λ m. bind m (λ ms. done (mem k ms))) (law T L s.axis s.test s.predicates n node parent placed.typed))
      (ran_counted (told selected.nodes k) visits rose (sym (zero-add visits)) (ran k)) in
      subst (λ o. IfSome o (λ t. (n k : ℕ) → Ran (is_left T (step_of T L t) n k (Some parent)) (told selected.nodes k) nothing_read selected.reads 0 visits)) (sym placed.there) here

-- the visits that two counts tell, where the later one is below the greatest
pub visits_known : (P : ℕ → Type 0) (o : Option ℕ) (start end before after : ℕ) → IfSome o (λ visits. (after ≡ before + visits) × (after < 18446744073709551615)) →
    before ≡ min start 18446744073709551615 → after ≡ min end 18446744073709551615 → start ≤ end → ((visits : ℕ) → end ≡ start + visits → P visits) → IfSome o P
visits_known P None start end before after known b a later holds = tt
visits_known P (Some visits) start end before after known b a later holds = holds visits (omega (arith, known.0, known.1, b, a, later))
