-- What is kept of a watch that was evaluated, or marked.
use Rattle.std.proofs.Common.{◌≡◌, ◌≢◌, ◌∙◌, ℕ, ◌<◌, Bool, true, false, ◌||◌, List, [], length, Option, None, Some, is_none, IfOk, OnErr, OnOk, Result, Ok, Err, refl, sym, ap, subst, arith}
use Rattle.std.specs.Prelude.{slice_index_or}
use Rattle.std.specs.declared.alloc.AllocError.{AllocError}
use Rattle.std.proofs.lemmas.Bool.{false≢true, or_right, true≢false}
use Rattle.std.proofs.lemmas.List.{get_or-set_other, get_or-set_same, length-set}
use Rattle.doc_tree.specs.cell.Cell.{Cell}
use Rattle.doc_tree.specs.Table.{Table}
use Rattle.xp_typed_tree.specs.TypedTree.{TypedTree}
use Rattle.xp_outcome.specs.Evaluation.{Evaluation}
use Rattle.xp_outcome.specs.Recorded.{Recorded, nothing_read}
use Rattle.xp_outcome.specs.Running.{Answered, CutShort, Faulted, Ran, Stop}
use Rattle.xp_values.specs.declared.values.EvalError.{EvalError}
use Rattle.xp_values.specs.declared.values.EvalError.TheVariants.{Fault, Memory}
use Rattle.xp_values.specs.declared.values.EvalFault.{EvalFault}
use Rattle.xp_values.specs.declared.values.Value.{Value}
use Rattle.xp_meaning.specs.declared.context.Context.{Context}
use Rattle.xp_meaning.specs.Evaluation.{Lets, meaning}
use Rattle.xp_meaning.specs.Results.{shown}
use Rattle.cover_laws.specs.Covering.{HeldAlike}
use Rattle.kept_reads.specs.declared.kept_reads.KeptReads.{KeptReads}
use Rattle.kept_reads.specs.Marking.{Marks as MarksReads, Thinned, entry_stays, entry_dropped, reads_touched}
use Rattle.kept_reads.specs.Reads.{reads_at}
use Rattle.xp_watch.specs.declared.kept.Given.{Given}
use Rattle.xp_watch.specs.Kept.{Kept, Marks, StaysAs, is_stale}
use Rattle.xp_watch.specs.Watched.{root_alone, watched}
use Rattle.xp_watch.specs.inner.Refreshing.{Gives, IsCut, IsGivenBy, KeepsGiven, Puts, Runs, Spent, Took}

-- Evaluations

-- a run at the root, without lets, from nothing read
pub ran_at_root : (T : Table) (expr : TypedTree) (lets : Lets) (at : Context) (held now : Recorded) (r : Result Value (Stop EvalFault))
    (before after : ℕ) → lets ≡ [] → at ≡ root_alone → held ≡ nothing_read → Ran (meaning T lets expr at) r held now before after →
    Ran (watched T expr) r nothing_read now before after
ran_at_root T expr lets at held now r before after none there nothing ran =
    subst (λ (h : Recorded). Ran (watched T expr) r h now before after) nothing
    (subst (λ (c : Context). Ran (meaning T [] expr c) r held now before after) there
    (subst (λ (L : Lets). Ran (meaning T L expr at) r held now before after) none ran))

pub ran_spent : (m : Evaluation EvalFault Value) (value : Result Value EvalError) (held now : Recorded) (before after : ℕ) →
    Ran m (shown value) held now before after → Spent m before after
ran_spent m (Ok v) held now before after ran =
    let c : Answered m v held now before after = ran.computes in record { later = omega (arith, c.steps); at_most = omega (arith, c.steps) }
ran_spent m (Err (Fault f)) held now before after ran =
    let c : Faulted m f held now before after = ran.computes in record { later = c.later; at_most = c.steps }
ran_spent m (Err Memory) held now before after ran =
    let c : CutShort m held now before after = ran.computes in record { later = c.later; at_most = c.steps }

module _ (m : Evaluation EvalFault Value) (reads : Recorded) (before after : ℕ) where
  pub ran_gives : (value : Result Value EvalError) (result : Result Given AllocError) → IsGivenBy value reads result →
      Ran m (shown value) nothing_read reads before after → IfOk result (λ given. Gives m given.value given.reads)
  ran_gives (Ok v) result is ran =
      let c : Answered m v nothing_read reads before after = ran.computes in
      subst (λ (r : Result Given AllocError). IfOk r (λ given. Gives m given.value given.reads)) (sym is)
      (record { answer_is = c.answer; reads_are = c.reads })
  ran_gives (Err (Fault f)) result is ran =
      let c : Faulted m f nothing_read reads before after = ran.computes in
      subst (λ (r : Result Given AllocError). IfOk r (λ given. Gives m given.value given.reads)) (sym is)
      (record { answer_is = c.answer; reads_are = c.reads })
  ran_gives (Err Memory) (Ok given) is ran = absurd (false≢true is)
  ran_gives (Err Memory) (Err e) is ran = tt

  pub ran_took : (value : Result Value EvalError) (result : Result Given AllocError) → IsGivenBy value reads result →
      Ran m (shown value) nothing_read reads before after → OnOk result (Took m before after)
  ran_took (Ok v) result is ran =
      let c : Answered m v nothing_read reads before after = ran.computes in
      subst (λ (r : Result Given AllocError). OnOk r (Took m before after)) (sym is)
      (record { spent = ran_spent m (Ok v) nothing_read reads before after ran; exactly = λ other ok. c.steps })
  ran_took (Err (Fault f)) result is ran =
      let c : Faulted m f nothing_read reads before after = ran.computes in
      subst (λ (r : Result Given AllocError). OnOk r (Took m before after)) (sym is)
      (record {
        spent = ran_spent m (Err (Fault f)) nothing_read reads before after ran;
        exactly = λ other ok. absurd (let e : Err f ≡ Ok other = sym c.answer ∙ ok in (cc));
      })
  ran_took (Err Memory) (Ok given) is ran = absurd (false≢true is)
  ran_took (Err Memory) (Err e) is ran = tt

-- What is kept

pub stays_self : (kept : Kept) (k : ℕ) → StaysAs kept kept k
stays_self kept k = record { given = refl; reads = refl }

pub cut_self : (kept : Kept) (k : ℕ) → is_stale kept k ≡ true → IsCut k kept kept
cut_self kept k stale = record { values = refl; reads = refl; stale = stale; others = λ j other. stays_self kept j }

-- where something is put, all else stays
pub puts_others : (given : Result Value EvalFault) (k : ℕ) (entry : Option Recorded) (old new : Kept) → Puts given k entry old new → (j : ℕ) → j ≢ k →
    StaysAs old new j
puts_others given k entry old new puts j other = record {
  given = ap (λ (values : List (Option (Result Value EvalFault))). slice_index_or values j None) puts.values
      ∙ get_or-set_other old.values k j (Some given) None other;
  reads = ap (λ (entries : List (Option Recorded)). reads_at entries j) puts.reads ∙ get_or-set_other old.reads k j entry None other;
}

pub puts_cut : (given : Result Value EvalFault) (k : ℕ) (old new : Kept) → k < length old.reads → Puts given k None old new → IsCut k old new
puts_cut given k old new within puts = record {
  values = ap length puts.values ∙ length-set old.values k (Some given);
  reads = ap length puts.reads ∙ length-set old.reads k None;
  stale = ap is_none (ap (λ (entries : List (Option Recorded)). reads_at entries k) puts.reads ∙ get_or-set_same old.reads k None None within);
  others = puts_others given k None old new puts;
}

-- what was given is that of the evaluation
pub keeps_run : (T : Table) (expr : TypedTree) (given : Given) (k : ℕ) (old new : Kept) (before after : ℕ) →
    Gives (watched T expr) given.value given.reads → Took (watched T expr) before after → KeepsGiven T given.value given.reads k old new →
    Runs T expr k old new before after
keeps_run T expr given k old new before after gives took keeps = record {
  held = keeps.held;
  alike = subst (λ (r : Recorded). HeldAlike T keeps.held r) gives.reads_are keeps.alike;
  puts = subst (λ (v : Result Value EvalFault). Puts v k (Some keeps.held) old new) (sym gives.answer_is) keeps.puts;
  took = took;
}

-- Marks

module _ (T : Table) (touched : Cell → Bool) (k : ℕ) where
  or_none : (b c : Bool) → c ≡ false → b ≡ (b || c)
  or_none true c is = refl
  or_none false c is = sym is

  marked_stale : (blocks : List Bool) (before after : Option Recorded) → Thinned T touched 1 k blocks before after →
      reads_touched T touched after ≡ false →
      is_none after ≡ (is_none before || reads_touched T touched before)
  marked_stale blocks before after (entry_stays same) clean =
      ap is_none same ∙ or_none (is_none before) (reads_touched T touched before) (ap (reads_touched T touched) (sym same) ∙ clean)
  marked_stale blocks before after (entry_dropped hit gone row) clean =
      ap is_none gone ∙ sym (or_right (is_none before) (reads_touched T touched before) hit)

  marked_reads : (blocks : List Bool) (before after : Option Recorded) → Thinned T touched 1 k blocks before after → is_none after ≡ false →
      after ≡ before
  marked_reads blocks before after (entry_stays same) fresh = same
  marked_reads blocks before after (entry_dropped hit gone row) fresh = absurd (true≢false (sym (ap is_none gone) ∙ fresh))

pub marks_kept : (T : Table) (touched : Cell → Bool) (old new : KeptReads) (before after : Kept) → before.reads ≡ old.entries →
    after.reads ≡ new.entries →
    after.values ≡ before.values → MarksReads T touched 1 old new → Marks T touched before after
marks_kept T touched old new before after was is values marks = record {
  stale = λ k.
      ap (λ (entries : List (Option Recorded)). is_none (reads_at entries k)) is
      ∙ marked_stale T touched k new.stale_blocks.items (reads_at old.entries k) (reads_at new.entries k) (marks.thins.entries k) (marks.clean k)
      ∙ sym (ap (λ (entries : List (Option Recorded)). is_none (reads_at entries k) || reads_touched T touched (reads_at entries k)) was);
  values = values;
  reads = λ k fresh.
      ap (λ (entries : List (Option Recorded)). reads_at entries k) is
      ∙ marked_reads T touched k new.stale_blocks.items (reads_at old.entries k) (reads_at new.entries k) (marks.thins.entries k)
      (sym (ap (λ (entries : List (Option Recorded)). is_none (reads_at entries k)) is) ∙ fresh)
      ∙ sym (ap (λ (entries : List (Option Recorded)). reads_at entries k) was);
}

-- what holds in any case holds of a failure
pub on_err : {A E : Type 0} (result : Result A E) (P : Type 0) → P → OnErr result P
on_err (Ok v) P holds = tt
on_err (Err e) P holds = holds

-- what follows from a value's fact and from a failure's
pub either_way : {A E P Q R : Type 0} (result : Result A E) → (P → R) → (Q → R) → OnOk result P → OnErr result Q → R
either_way (Ok v) so or_so one failed = so one
either_way (Err e) so or_so one failed = or_so failed
