-- What is left of the evaluation of a unit, by how its run ended.
use Rattle.std.proofs.Common.{◌≡◌, ◌∙◌, inl, inr, ℕ, ◌<◌, Bool, true, false, List, length, Option, None, Some, IfSome, is_none, Result, Ok, Err, OnErr, OnOk, slice_index_or, slice_set, refl, sym, ap, subst, arith}
use Rattle.std.proofs.lemmas.Bool.{cases_eq, true≢false}
use Rattle.std.proofs.lemmas.List.{get_or-set_other, get_or-set_same, length-set}
use Rattle.std.specs.declared.alloc.AllocError.{AllocError}
use Rattle.doc_tree.specs.Table.{Table}
use Rattle.xp_outcome.specs.Evaluation.{Evaluation}
use Rattle.xp_outcome.specs.Recorded.{Recorded, nothing_read}
use Rattle.xp_outcome.specs.Running.{Ran, no_memory}
use Rattle.xp_values.specs.declared.values.EvalFault.{EvalFault}
use Rattle.xp_values.specs.declared.values.Value.{Value}
use Rattle.rule_run.specs.Kept.{outcome_shown, value_shown}
use Rattle.sch_compiled.specs.declared.findings.Outcome.{Outcome}
use Rattle.sch_compiled.specs.declared.findings.Outcome.TheVariants.{NoRule, Fired, Fault}
use Rattle.sch_compiled.specs.declared.parts.LetInForce.{LetInForce}
use Rattle.sch_compiled.specs.declared.plan.Plan.{Plan}
use Rattle.sch_compiled.specs.Findings.{OutcomeTable, Puts, outcome_at}
use Rattle.sch_units.specs.Units.{unit_let, unit_pair}
use Rattle.sch_units.specs.Validity.{outcome_of}
use Rattle.xp_meaning.specs.Evaluation.{Lets}
use Rattle.edit_costs.specs.Evaluating.{Took}
use Rattle.state_run.proofs.LetLemmas.{let_answer, let_took}
use Rattle.kept_state.specs.Kept.{noted}
use Rattle.kept_reads.specs.declared.kept_reads.KeptReads.{KeptReads}
use Rattle.kept_reads.specs.KeptReads.{Empties, PutsReads}
use Rattle.kept_reads.specs.Reads.{reads_at}
use Rattle.kept_units.specs.declared.kept_units.KeptUnits.{KeptUnits}
use Rattle.kept_units.specs.Keeping.{place_of}
use Rattle.kept_units.specs.inner.Refreshing.{CutsLet, CutsPair, KeepsLet, KeepsPair, LetCut, let_unset, PairCut, PairsAlone, RunsLet, RunsPair, Spent}

-- what holds in any case holds of a failure
pub on_err : {A E : Type 0} (result : Result A E) (P : Type 0) → P → OnErr result P
on_err (Ok v) P holds = tt
on_err (Err e) P holds = holds

-- what follows from two facts of a value, and what follows from those of a value and of a failure
pub both_ok : {A E P Q R : Type 0} (result : Result A E) → (P → Q → R) → OnOk result P → OnOk result Q → OnOk result R
both_ok (Ok v) so one other = so one other
both_ok (Err e) so one other = tt

pub either_ok : {A E P Q R : Type 0} (result : Result A E) → (P → R) → (Q → R) → OnOk result P → OnErr result Q → R
either_ok (Ok v) so or_so one failed = so one
either_ok (Err e) so or_so one failed = or_so failed

pub each_way : {A E P Q S U R : Type 0} (result : Result A E) → (P → Q → R) → (S → U → R) → OnOk result P → OnErr result S → OnOk result Q →
    OnErr result U → R
each_way (Ok v) so or_so one failed other also = so one other
each_way (Err e) so or_so one failed other also = or_so failed also

-- a run that found no memory
pub cut_spent : {A : Type 0} (m : Evaluation EvalFault A) (held now : Recorded) (before after : ℕ) → Ran m (Err no_memory) held now before after →
    Spent m before after
cut_spent m held now before after ran = record { later = ran.computes.later; at_most = ran.computes.steps }

-- a count that rose for an evaluation rose at most so
pub took_spent : {A : Type 0} (m : Evaluation EvalFault A) (before after : ℕ) → Took m before after → Spent m before after
took_spent m before after took = record { later = omega (arith, took.later); at_most = took.at_most }

-- Lets

-- what a let has read that has a value or a fault
pub let_noted : (m : Evaluation EvalFault Value) (value : Result Value EvalFault) (now : Recorded) (before after : ℕ) →
    Ran m (value_shown value) nothing_read now before after → now ≡ noted m.reads
let_noted m (Ok v) now before after ran = ran.computes.reads
let_noted m (Err f) now before after ran = ran.computes.reads

-- Nodes under patterns

pub pair_answer : (m : Evaluation EvalFault Outcome) (outcome : Outcome) (held now : Recorded) (before after : ℕ) →
    Ran m (outcome_shown outcome) held now before after → outcome_of m.answer ≡ outcome
pair_answer m NoRule held now before after ran = ap outcome_of ran.computes.answer
pair_answer m (Fired rule findings) held now before after ran = ap outcome_of ran.computes.answer
pair_answer m (Fault f) held now before after ran = ap outcome_of ran.computes.answer

pub pair_took : (m : Evaluation EvalFault Outcome) (outcome : Outcome) (held now : Recorded) (before after : ℕ) → before < after →
    Ran m (outcome_shown outcome) held now before after → Took m before after
pair_took m NoRule held now before after later ran =
    record { later = later; at_most = omega (arith, ran.computes.steps); exactly = λ other is. ran.computes.steps }
pair_took m (Fired rule findings) held now before after later ran =
    record { later = later; at_most = omega (arith, ran.computes.steps); exactly = λ other is. ran.computes.steps }
pair_took m (Fault f) held now before after later ran =
    record {
      later = later;
      at_most = ran.computes.steps;
      exactly = λ other is. absurd (let e : Err f ≡ Ok other = sym ran.computes.answer ∙ is in (cc));
    }

pub pair_noted : (m : Evaluation EvalFault Outcome) (outcome : Outcome) (now : Recorded) (before after : ℕ) →
    Ran m (outcome_shown outcome) nothing_read now before after → now ≡ noted m.reads
pair_noted m NoRule now before after ran = ran.computes.reads
pair_noted m (Fired rule findings) now before after ran = ran.computes.reads
pair_noted m (Fault f) now before after ran = ran.computes.reads

-- Units that were evaluated

-- a let whose run ended so, of which so much is kept
pub let_ran_so : (o : Option LetInForce) (T : Table) (L : Lets) (value : Result Value EvalFault) (reads : Recorded) (l : ℕ) (old new : KeptUnits)
    (flags next : List Bool) (before after : ℕ) → before < after →
    IfSome o (λ t. Ran (unit_let T L t.expr) (value_shown value) nothing_read reads before after) → KeepsLet T value reads l old new flags next →
    IfSome o (λ t. RunsLet T (unit_let T L t.expr) l old new flags next before after)
let_ran_so None T L value reads l old new flags next before after later ran keeps = tt
let_ran_so (Some t) T L value reads l old new flags next before after later ran keeps = record {
  keeps =
      subst (λ (r : Recorded). KeepsLet T (unit_let T L t.expr).answer r l old new flags next)
      (let_noted (unit_let T L t.expr) value reads before after ran)
      (subst (λ (v : Result Value EvalFault). KeepsLet T v reads l old new flags next)
      (sym (let_answer (unit_let T L t.expr) value nothing_read reads before after ran)) keeps);
  took = let_took (unit_let T L t.expr) value nothing_read reads before after later ran;
}

-- of which no more could be kept
pub let_cut_so : (o : Option LetInForce) (T : Table) (L : Lets) (value : Result Value EvalFault) (reads : Recorded) (l : ℕ) (old new : KeptUnits)
    (flags next : List Bool) (before after : ℕ) → before < after →
    IfSome o (λ t. Ran (unit_let T L t.expr) (value_shown value) nothing_read reads before after) → LetCut value l old new flags next →
    IfSome o (λ t. CutsLet (unit_let T L t.expr) l old new flags next before after)
let_cut_so None T L value reads l old new flags next before after later ran cut = tt
let_cut_so (Some t) T L value reads l old new flags next before after later ran cut = record {
  cut = subst (λ (v : Result Value EvalFault). LetCut v l old new flags next)
      (sym (let_answer (unit_let T L t.expr) value nothing_read reads before after ran)) cut;
  spent = took_spent (unit_let T L t.expr) before after (let_took (unit_let T L t.expr) value nothing_read reads before after later ran);
}

-- which found no memory
pub let_unrun : (o : Option LetInForce) (T : Table) (L : Lets) (now : Recorded) (l : ℕ) (kept : KeptUnits) (flags : List Bool) (before after : ℕ) →
    IfSome o (λ t. Ran (unit_let T L t.expr) (Err no_memory) nothing_read now before after) →
    IfSome o (λ t. CutsLet (unit_let T L t.expr) l kept kept flags flags before after)
let_unrun None T L now l kept flags before after ran = tt
let_unrun (Some t) T L now l kept flags before after ran =
    record { cut = let_unset refl refl; spent = cut_spent (unit_let T L t.expr) nothing_read now before after ran }

-- the same of a node under a pattern
pub pair_ran_so : (plan : Plan) (T : Table) (outcome : Outcome) (reads : Recorded) (p n : ℕ) (old mid new : KeptUnits) (before after : ℕ) →
    before < after →
    Ran (unit_pair plan T old.lets p n) (outcome_shown outcome) nothing_read reads before after → mid.found ≡ old.found → mid.reads ≡ old.reads →
    KeepsPair plan T outcome reads p n mid new → RunsPair plan T p n old new before after
pair_ran_so plan T outcome reads p n old mid new before after later ran found read keeps = record {
  keeps =
      subst (λ (r : Recorded). KeepsPair plan T (outcome_of (unit_pair plan T old.lets p n).answer) r p n old new)
      (pair_noted (unit_pair plan T old.lets p n) outcome reads before after ran)
      (subst (λ (o : Outcome). KeepsPair plan T o reads p n old new)
      (sym (pair_answer (unit_pair plan T old.lets p n) outcome nothing_read reads before after ran)) (record {
        held = keeps.held;
        alike = keeps.alike;
        puts = record {
          found = subst (λ (table : OutcomeTable). Puts table new.found p n (Some outcome)) found keeps.puts.found;
          entries = keeps.puts.entries ∙ ap (λ (k : KeptReads). slice_set k.entries (place_of plan p n) (Some keeps.held)) read;
        };
      }));
  took = pair_took (unit_pair plan T old.lets p n) outcome nothing_read reads before after later ran;
}

pub pair_cut_so : (plan : Plan) (T : Table) (outcome : Outcome) (reads : Recorded) (p n : ℕ) (old mid new : KeptUnits) (before after : ℕ) →
    before < after →
    Ran (unit_pair plan T old.lets p n) (outcome_shown outcome) nothing_read reads before after → mid.found ≡ old.found → mid.reads ≡ old.reads →
    PairCut p n mid new → CutsPair plan T p n old new before after
pair_cut_so plan T outcome reads p n old mid new before after later ran found read cut = record {
  cut = record {
    others = λ q k apart. cut.others q k apart ∙ ap (λ (table : OutcomeTable). outcome_at table q k) found;
    entries = λ place. cut.entries place ∙ ap (λ (k : KeptReads). reads_at k.entries place) read;
  };
  spent = took_spent (unit_pair plan T old.lets p n) before after
      (pair_took (unit_pair plan T old.lets p n) outcome nothing_read reads before after later ran);
}

pub pair_unrun : (plan : Plan) (T : Table) (now : Recorded) (p n : ℕ) (old new : KeptUnits) (before after : ℕ) →
    Ran (unit_pair plan T old.lets p n) (Err no_memory) nothing_read now before after → new.found ≡ old.found → new.reads ≡ old.reads →
    CutsPair plan T p n old new before after
pair_unrun plan T now p n old new before after ran found read = record {
  cut = record {
    others = λ q k apart. ap (λ (table : OutcomeTable). outcome_at table q k) found;
    entries = λ place. ap (λ (k : KeptReads). reads_at k.entries place) read;
  };
  spent = cut_spent (unit_pair plan T old.lets p n) nothing_read now before after ran;
}

-- nothing but a stale entry changed
pub entries_stay : (entries next : List (Option Recorded)) (place : ℕ) (entry : Option Recorded) → next ≡ slice_set entries place entry →
    is_none (slice_index_or entries place None) ≡ true → (at : ℕ) →
    is_none (reads_at entries at) ≡ false → is_none (reads_at next at) ≡ false
entries_stay entries next place entry sets stale at had = elim (cases_eq at place) [
  | inl same ↦ absurd (true≢false (sym stale ∙ ap (λ (k : ℕ). is_none (reads_at entries k)) (sym same) ∙ had))
  | inr apart ↦ ap (λ (xs : List (Option Recorded)). is_none (reads_at xs at)) sets ∙ ap is_none (get_or-set_other entries place at entry None apart)
      ∙ had
]

-- a stale entry is emptied
pub entries_empty : (entries next : List (Option Recorded)) (place : ℕ) → next ≡ slice_set entries place None → place < length entries →
    is_none (slice_index_or entries place None) ≡ true → (at : ℕ) →
    reads_at next at ≡ reads_at entries at
entries_empty entries next place sets within stale at = elim (cases_eq at place) [
  | inl same ↦ subst (λ (k : ℕ). reads_at next k ≡ reads_at entries k) (sym same)
      (ap (λ (xs : List (Option Recorded)). reads_at xs place) sets ∙ get_or-set_same entries place None None within
      ∙ sym (none_is (reads_at entries place) stale))
  | inr apart ↦ ap (λ (xs : List (Option Recorded)). reads_at xs at) sets ∙ get_or-set_other entries place at None None apart
]
  where
    none_is : (entry : Option Recorded) → is_none entry ≡ true → entry ≡ None
    none_is None is = refl
    none_is (Some held) is = absurd (true≢false (sym is))

-- an entry was put, or emptied
pub entry_set : (result : Result (Unit {0}) AllocError) (place : ℕ) (reads : Recorded) (old new : KeptReads) →
    OnOk result (PutsReads place reads old new) → OnErr result (Empties place old new) →
    (entry : Option Recorded) × (new.entries ≡ slice_set old.entries place entry) × (new.stale_blocks ≡ old.stale_blocks)
entry_set (Ok done) place reads old new puts empties = (Some reads, puts.entries, puts.blocks)
entry_set (Err e) place reads old new puts empties = (None, empties.entries, empties.blocks)

pub alone_set : (place : ℕ) (old : KeptUnits) (found : OutcomeTable) (reads : KeptReads) → found.patterns ≡ old.found.patterns →
    (entry : Option Recorded) × (reads.entries ≡ slice_set old.reads.entries place entry) × (reads.stale_blocks ≡ old.reads.stale_blocks) →
    is_none (reads_at old.reads.entries place) ≡ true →
    PairsAlone old (record { lets = old.lets; let_reads = old.let_reads; found = found; reads = reads })
alone_set place old found reads patterns set stale = record {
  lets = refl;
  let_reads = refl;
  patterns = patterns;
  places = ap length set.1 ∙ length-set old.reads.entries place set.0;
  blocks = set.2;
  stays = entries_stay old.reads.entries reads.entries place set.0 set.1 stale;
}
