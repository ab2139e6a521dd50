-- Edits: a unit that stood and read nothing that was touched stands in the tree that they make.
use Rattle.std.proofs.Common.{◌≡◌, ◌∙◌, ℕ, ◌<◌, ◌≤◌, Bool, true, false, cond, length, Option, None, Some, refl, sym, ap, subst, ⊎_elim, arith}
use Rattle.std.specs.FinSet.{contains}
use Rattle.std.proofs.lemmas.Bool.{cases_lt}
use Rattle.doc_tree.specs.cell.Cell.{Cell}
use Rattle.doc_tree.specs.Laws.{WellFormed}
use Rattle.doc_tree.specs.Table.{Table, is_live}
use Rattle.doc_edit_laws.specs.Along.{Edits, none}
use Rattle.xp_outcome.specs.Recorded.{LetSet, Recorded}
use Rattle.xp_outcome.specs.Slots.{in_slot}
use Rattle.xp_meaning.specs.Conversions.{nodes_of}
use Rattle.xp_meaning.specs.Evaluation.{Lets}
use Rattle.xp_locality_laws.specs.Locality.{Changed}
use Rattle.sch_compiled.specs.declared.plan.Plan.{Plan}
use Rattle.edit_costs.specs.Edits.{EditsChange}
use Rattle.edit_costs.specs.Locality.{GivenLetsAreLocal}
use Rattle.edit_costs.specs.Units.{ValidationUnit, in_force, under}
use Rattle.cover_laws.specs.Covering.{EditsTouchHeldAlike, HeldAlike, HeldStaysAlike, IsOfLive, holds_touched}
use Rattle.kept_state.specs.Kept.{IsTyped, IsUnit, Keeps, Kept, LetsLive, LetsPass, noted, reads_under}
use Rattle.kept_state.specs.Laws.{EditsKeep}
use Rattle.unit_live_laws.specs.LiveReads.{UnitsReadLiveCells}
use Rattle.kept_state.specs.Steps.{SameGiven, unless_touched}
use Rattle.kept_state.proofs.LiveLemmas.{nothing, read_live}
use Rattle.kept_state.proofs.UnitLemmas.{SameUnit, each_both, let_kept, same_gave, same_reads, unit_same}

-- Nodes

-- a live node was made
pub live_made : (T U : Table) (touched : Cell → Bool) → Changed T U touched → (n : ℕ) → is_live T n ≡ true → n < length T
live_made T U touched changed n live = changed.before.ordered.made n (sym (changed.before.ordered.live_in_order n) ∙ live)

-- a unit of the later tree whose node was made in the earlier one is one of that too
pub unit_before : (plan : Plan) (T U : Table) (touched : Cell → Bool) → Changed T U touched → (unit : ValidationUnit) → IsUnit plan U unit →
    ((p n : ℕ) → unit ≡ under p n → n < length T) → IsUnit plan T unit
unit_before plan T U touched changed (in_force slot) is made = is
unit_before plan T U touched changed (under p n) is made = (is.0, changed.agree.no_return n (made p n refl) is.1)

-- the nodes of lets that live in the later tree lived in the earlier one, where they were made there
pub lets_before : (T U : Table) (touched : Cell → Bool) → Changed T U touched → (L : Lets) (lets : LetSet) → ((slot : ℕ) → contains lets slot ≡ true → LetsPass (λ n. n < length T) L slot) →
    LetsLive U L lets → LetsLive T L lets
lets_before T U touched changed L lets made live slot there v is =
    each_both (λ n. n < length T) (λ n. is_live U n ≡ true) (λ n. is_live T n ≡ true) (λ n was lives. changed.agree.no_return n was lives)
    (nodes_of v) (made slot there v is) (live slot there v is)

-- a node of which something is kept was made
pub node_made : (plan : Plan) (T : Table) (kept : Kept) → Keeps plan T kept → (held : Recorded) (p n : ℕ) → kept.reads (under p n) ≡ Some held → n < length T
node_made plan T kept keeps held p n is =
    ⊎_elim (λ (below : n < length T). below) (λ (past : length T ≤ n). absurd (let e : None ≡ Some held = sym (keeps.new p n past) ∙ is in (cc))) (cases_lt n (length T))

-- What is kept of a unit that is marked

pub record Unmarked (T : Table) (touched : Cell → Bool) (entry : Option Recorded) (held : Recorded) : Type 0 where
  pub was : entry ≡ Some held
  pub untouched : holds_touched T touched held ≡ false

-- what is still kept was kept, and nothing of it was touched
pub unmarked : (T : Table) (touched : Cell → Bool) (entry : Option Recorded) (held : Recorded) → unless_touched T touched entry ≡ Some held →
    Unmarked T touched entry held
unmarked T touched None held is = absurd (cc)
unmarked T touched (Some reads) held is = by (holds_touched T touched reads) refl is
  where
    by : (b : Bool) → holds_touched T touched reads ≡ b → cond b None (Some reads) ≡ Some held → Unmarked T touched (Some reads) held
    by true e is = absurd (cc)
    by false e is =
        let same : reads ≡ held = cc in
        record { was = is; untouched = subst (λ (r : Recorded). holds_touched T touched r ≡ false) same e }

-- Units over edits

-- what edits leave of a unit that read nothing that they touched
pub record Left (plan : Plan) (T U : Table) (touched : Cell → Bool) (L : Lets) (unit : ValidationUnit) (held : Recorded) : Type 0 where
  pub untouched : holds_touched T touched (noted (reads_under plan T L unit)) ≡ false
  pub same : SameUnit plan T U L L unit
  pub alike : HeldAlike U held (noted (reads_under plan U L unit))

module _ (local : GivenLetsAreLocal) (change : EditsChange) (touches : EditsTouchHeldAlike) (stay : HeldStaysAlike) (cells : UnitsReadLiveCells)
    (plan : Plan) (L : Lets)
    (few : length L ≤ length plan.lets) (unit : ValidationUnit) (typed : IsTyped plan unit) (held : Recorded) where
  pub all_edits : (T U : Table) (touched : Cell → Bool) → WellFormed T → Edits T U touched → IsUnit plan T unit → IsUnit plan U unit → LetsLive T L held.lets → LetsLive U L held.lets →
      HeldAlike T held (noted (reads_under plan T L unit)) → holds_touched T touched held ≡ false → Left plan T U touched L unit held
  all_edits T U touched formed edits old new before after alike clean = record { untouched = untouched; same = same; alike = now }
    where
      changed : Changed T U touched
      changed = change T U touched formed edits

      of_held : (slot : ℕ) → contains (noted (reads_under plan T L unit)).lets slot ≡ true → contains held.lets slot ≡ true
      of_held slot there = ap (λ (s : LetSet). contains s slot) alike.lets ∙ there

      live : IsOfLive T (noted (reads_under plan T L unit))
      live = read_live local cells plan T (change T T nothing formed none) L unit few old typed (λ slot there. before slot (of_held slot there))

      untouched : holds_touched T touched (noted (reads_under plan T L unit)) ≡ false
      untouched = sym (touches T U touched held (noted (reads_under plan T L unit)) formed edits live alike) ∙ clean

      same : SameUnit plan T U L L unit
      same = unit_same local plan T U touched changed L L unit few few old new typed untouched
          (λ slot there. let_kept T U touched L L slot refl (before slot (of_held slot there)) (after slot (of_held slot there)))

      reads : noted (reads_under plan U L unit) ≡ noted (reads_under plan T L unit)
      reads = ap noted (same_reads plan T U L L unit same)

      live_after : IsOfLive U (noted (reads_under plan U L unit))
      live_after = read_live local cells plan U (change U U nothing changed.after.well_formed none) L unit few new typed
          (λ slot there. after slot (of_held slot (ap (λ (r : Recorded). contains r.lets slot) (sym reads) ∙ there)))

      now : HeldAlike U held (noted (reads_under plan U L unit))
      now = subst (HeldAlike U held) (sym reads)
          (stay T U touched held (noted (reads_under plan T L unit)) formed edits live (subst (IsOfLive U) reads live_after) alike)

pub edits_keep : GivenLetsAreLocal → EditsChange → EditsTouchHeldAlike → HeldStaysAlike → UnitsReadLiveCells → EditsKeep
edits_keep local change touches stay cells plan T U touched old new formed edits keeps marks = record {
  few = subst (λ (L : Lets). length L ≤ length plan.lets) (sym marks.lets) keeps.few;
  made = λ slot. subst (λ (L : Lets). LetsPass (λ n. n < length U) L slot) (sym marks.lets)
      (λ v is. each_both (λ n. n < length T) (λ n. n < length T) (λ n. n < length U) (λ n below _. omega (arith, below, changed.agree.numbers)) (nodes_of v)
      (keeps.made slot v is) (keeps.made slot v is));
  new = λ p n past. marks.reads (under p n) ∙ ap (unless_touched T touched) (keeps.new p n (omega (arith, past, changed.agree.numbers)));
  before = λ slot other held is there. keeps.before slot other held (was (in_force slot) held is).was there;
  stands = λ unit held is typed kept live.
      let entry = was unit held kept in
      let old_is = unit_before plan T U touched changed unit is (λ p n e. node_made plan T old keeps held p n (subst (λ (u : ValidationUnit). old.reads u ≡ Some held) e entry.was)) in
      let after : LetsLive U old.lets held.lets = subst (λ (L : Lets). LetsLive U L held.lets) marks.lets live in
      let before = lets_before T U touched changed old.lets held.lets (λ slot there. keeps.made slot) after in
      let stood = keeps.stands unit held old_is typed entry.was before in
      let left = all_edits local change touches stay cells plan old.lets keeps.few unit typed held T U touched formed edits old_is is before after stood.read entry.untouched in
      let same : SameUnit plan T U old.lets new.lets unit = subst (λ (L : Lets). SameUnit plan T U old.lets L unit) (sym marks.lets) left.same in
      record {
        gave = same_gave plan T U old new unit same (given unit) stood.gave;
        read = subst (λ (L : Lets). HeldAlike U held (noted (reads_under plan U L unit))) (sym marks.lets) left.alike;
      };
}
  where
    changed : Changed T U touched
    changed = change T U touched formed edits

    was : (unit : ValidationUnit) (held : Recorded) → new.reads unit ≡ Some held → Unmarked T touched (old.reads unit) held
    was unit held is = unmarked T touched (old.reads unit) held (sym (marks.reads unit) ∙ is)

    given : (unit : ValidationUnit) → SameGiven old new unit
    given (in_force slot) = ap (λ (L : Lets). in_slot L slot) marks.lets
    given (under p n) = marks.outcomes p n
