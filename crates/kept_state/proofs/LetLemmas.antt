-- The run of a let in force keeps the state, and the nodes of its value live.
use Rattle.std.proofs.Common.{◌≡◌, ◌≢◌, ◌∙◌, ℕ, ◌<◌, Bool, true, false, cond, List, [], ◌∷◌, length, Option, None, Some, Ok, refl, sym, ap, subst, ⊎_elim, arith}
use Rattle.std.specs.Prelude.{slice_get}
use Rattle.std.specs.Cmp.{nat_cmp_total}
use Rattle.std.specs.FinMap.{nat_cmp-IsAntisymmetric}
use Rattle.std.specs.FinSet.{contains, items}
use Rattle.std.specs.List.{list_any, AllByRecursion as Each}
use Rattle.std.proofs.lemmas.Bool.{and_parts, cases_eq, false_from_ne_true, false≢true, not-false}
use Rattle.doc_tree.specs.Laws.{WellFormed}
use Rattle.doc_tree.specs.Table.{Table, is_live}
use Rattle.doc_edit_laws.specs.Agreement.{AllStay}
use Rattle.xp_outcome.specs.Evaluation.{Evaluation, Read, variable}
use Rattle.xp_outcome.specs.Recorded.{LetSet, Recorded}
use Rattle.xp_outcome.specs.Slots.{in_slot}
use Rattle.xp_values.specs.declared.values.EvalFault.{EvalFault}
use Rattle.xp_values.specs.declared.values.Value.{Value}
use Rattle.xp_meaning.specs.Conversions.{nodes_of}
use Rattle.xp_meaning.specs.Evaluation.{Lets}
use Rattle.xp_locality_laws.specs.Locality.{AllKept, Changed}
use Rattle.sch_compiled.specs.declared.parts.LetInForce.{LetInForce}
use Rattle.sch_compiled.specs.declared.plan.Plan.{Plan}
use Rattle.sch_compiled.specs.Soundness.{IsSound}
use Rattle.edit_costs.specs.Locality.{GivenLetsAreLocal}
use Rattle.edit_costs.specs.Laws.{IsBefore, LetsNeedThoseBefore, SameOutcomesAreEqual}
use Rattle.edit_costs.specs.SameOutcome.{same_outcome}
use Rattle.edit_costs.specs.Units.{ValidationUnit, in_force, under, let_reads}
use Rattle.cover_laws.specs.Covering.{HeldAlike}
use Rattle.xp_outcome.proofs.SetTests.{held_in}
use Rattle.kept_state.specs.Kept.{IsTyped, IsUnit, LetsLive, LetsPass, Stands, let_gives, noted, reads_under}
use Rattle.kept_state.specs.Laws.{LetsKeep}
use Rattle.kept_state.specs.Steps.{LiveBelow, SameGiven, differs, unless_changed}
use Rattle.kept_state.proofs.EditLemmas.{live_made}
use Rattle.kept_state.proofs.LiveLemmas.{nothing, nothing_touched}
use Rattle.kept_state.proofs.PairLemmas.{cases_unit}
use Rattle.kept_state.proofs.ReadLemmas.{each_of_list}
use Rattle.kept_state.proofs.UnitLemmas.{each_both, let_kept, reads_kept, same_gave, same_reads, unit_same}

live_all : (T : Table) (ns : List ℕ) → AllStay T T ns → Each (λ n. is_live T n ≡ true) ns
live_all T [] stay = tt
live_all T (n ∷ ns) stay = ((and_parts (is_live T n) (is_live T n) stay.0).0, live_all T ns stay.1)

-- Lets in order

module _ (need : LetsNeedThoseBefore) (plan : Plan) (T : Table) (l : ℕ) (sound : IsSound plan) where
  let_before : (L : Lets) (o : Option LetInForce) → slice_get plan.lets l ≡ o → Each (IsBefore l) (let_reads T L o)
  let_before L None there = tt
  let_before L (Some t) there = need.reads plan T L l t sound there

  -- a let reads none but those before it
  pub reads_before : (L : Lets) (slot : ℕ) → contains (noted (reads_under plan T L (in_force l))).lets slot ≡ true → slot < l
  reads_before L slot there = each_of_list (IsBefore l) (reads_under plan T L (in_force l)) (let_before L (slice_get plan.lets l) refl) (variable slot) there

  let_alike : (L M : Lets) → ((slot : ℕ) → slot < l → in_slot L slot ≡ in_slot M slot) → (o : Option LetInForce) → slice_get plan.lets l ≡ o →
      (let_gives T L o ≡ let_gives T M o) × (let_reads T L o ≡ let_reads T M o)
  let_alike L M same None there = (refl, refl)
  let_alike L M same (Some t) there =
      let is = need.same plan T L M l t sound there same in
      (ap (λ (m : Evaluation EvalFault Value). Some m.answer) is, ap (λ (m : Evaluation EvalFault Value). m.reads) is)

  -- and gives and reads the same where these are the same
  pub same_before : (L M : Lets) → ((slot : ℕ) → slot < l → in_slot L slot ≡ in_slot M slot) →
      (let_gives T L (slice_get plan.lets l) ≡ let_gives T M (slice_get plan.lets l)) × (reads_under plan T L (in_force l) ≡ reads_under plan T M (in_force l))
  same_before L M same = let_alike L M same (slice_get plan.lets l) refl

  module _ (local : GivenLetsAreLocal) (changed : Changed T T nothing) (L : Lets) (live : LiveBelow T L l) where
    gives_live : (o : Option LetInForce) → AllKept T T nothing L L (let_reads T L o) → (v : Value) → let_gives T L o ≡ Some (Ok v) →
        Each (λ n. is_live T n ≡ true) (nodes_of v)
    gives_live None kept v is = absurd (cc)
    gives_live (Some t) kept v is = live_all T (nodes_of v) ((local.lets T T nothing L L t.expr changed kept).stay v (cc))

    -- the nodes of its value live where those of the lets before it do
    pub given_live : (v : Value) → let_gives T L (slice_get plan.lets l) ≡ Some (Ok v) → Each (λ n. is_live T n ≡ true) (nodes_of v)
    given_live v is = gives_live (slice_get plan.lets l)
        (reads_kept T T nothing L L (reads_under plan T L (in_force l)) (nothing_touched T (noted (reads_under plan T L (in_force l))))
        (λ slot there. let below = reads_before L slot there in let_kept T T nothing L L slot refl (live slot below) (live slot below))) v is

-- What is kept of a unit once lets have changed

pub record Unchanged (L M : Lets) (entry : Option Recorded) (held : Recorded) : Type 0 where
  pub was : entry ≡ Some held
  pub same : (slot : ℕ) → contains held.lets slot ≡ true → in_slot L slot ≡ in_slot M slot

-- what is still kept was kept, and the lets among it have the same outcomes
pub unchanged : SameOutcomesAreEqual → (L M : Lets) (entry : Option Recorded) (held : Recorded) → unless_changed (differs L M) entry ≡ Some held → Unchanged L M entry held
unchanged equal L M None held is = absurd (cc)
unchanged equal L M (Some reads) held is = by (list_any (differs L M) (items reads.lets)) refl is
  where
    by : (b : Bool) → list_any (differs L M) (items reads.lets) ≡ b → cond b None (Some reads) ≡ Some held → Unchanged L M (Some reads) held
    by true e is = absurd (cc)
    by false e is = record {
      was = is;
      same = λ slot there.
          let here : reads ≡ held = cc in
          (equal (in_slot L slot) (in_slot M slot)).0
          (not-false (same_outcome (in_slot L slot) (in_slot M slot))
          (false_from_ne_true (differs L M slot) (λ hit. false≢true (sym e ∙ held_in nat_cmp_total nat_cmp-IsAntisymmetric (differs L M) reads.lets slot
          (ap (λ (r : Recorded). contains r.lets slot) here ∙ there) hit))));
    }

pub lets_live_along : (T : Table) (L M : Lets) (lets : LetSet) → ((slot : ℕ) → contains lets slot ≡ true → in_slot L slot ≡ in_slot M slot) → LetsLive T M lets → LetsLive T L lets
lets_live_along T L M lets same live slot there v is = live slot there v (sym (same slot there) ∙ is)

module _ (local : GivenLetsAreLocal) (changed_of : (T : Table) → WellFormed T → Changed T T nothing) (need : LetsNeedThoseBefore) (equal : SameOutcomesAreEqual) where
  pub lets_keep : LetsKeep
  lets_keep plan T l old new sound formed live keeps runs = (
    record {
      few = runs.few;
      made = λ slot.
          ⊎_elim (λ (same : slot ≡ l). subst (λ (k : ℕ). LetsPass (λ n. n < length T) new.lets k) (sym same) (λ v is. each_both (λ n. is_live T n ≡ true) (λ n. is_live T n ≡ true) (λ n. n < length T)
          (λ n lives _. live_made T T nothing changed n lives) (nodes_of v) (live_here v is) (live_here v is)))
          (λ (differ : slot ≢ l). λ v is. keeps.made slot v (sym (runs.others slot differ) ∙ is)) (cases_eq slot l);
      new = λ p n past. runs.reads (under p n) (λ e. cc) ∙ ap (unless_changed (differs old.lets new.lets)) (keeps.new p n past);
      before = λ slot other held is there.
          ⊎_elim (λ (same : slot ≡ l). subst (λ (k : ℕ). other < k) (sym same)
          (let alike = runs.read held (subst (λ (k : ℕ). new.reads (in_force k) ≡ Some held) same is) in
          reads_before need plan T l sound old.lets other (ap (λ (s : LetSet). contains s other) (sym alike.lets) ∙ there)))
          (λ (differ : slot ≢ l). keeps.before slot other held (was (in_force slot) held (λ e. differ (cc)) is).was there) (cases_eq slot l);
      stands = λ unit held is typed kept lives.
          ⊎_elim (λ (same : unit ≡ in_force l). subst (λ (u : ValidationUnit). Stands plan T new u held) (sym same)
          (here held (subst (λ (u : ValidationUnit). new.reads u ≡ Some held) same kept)))
          (λ (differ : unit ≢ in_force l). other unit held differ is typed kept lives) (cases_unit unit (in_force l));
    },
    λ slot below.
        ⊎_elim (λ (same : slot ≡ l). subst (λ (k : ℕ). LetsPass (λ n. is_live T n ≡ true) new.lets k) (sym same) live_here)
        (λ (differ : slot ≢ l). λ v is. live slot (omega (arith, below, differ)) v (sym (runs.others slot differ) ∙ is)) (cases_eq slot l),
  )
    where
      changed : Changed T T nothing
      changed = changed_of T formed

      live_here : LetsPass (λ n. is_live T n ≡ true) new.lets l
      live_here v is = given_live need plan T l sound local changed old.lets live v (sym runs.outcome ∙ is)

      was : (unit : ValidationUnit) (held : Recorded) → unit ≢ in_force l → new.reads unit ≡ Some held → Unchanged old.lets new.lets (old.reads unit) held
      was unit held differ is = unchanged equal old.lets new.lets (old.reads unit) held (sym (runs.reads unit differ) ∙ is)

      agree : (slot : ℕ) → slot < l → in_slot old.lets slot ≡ in_slot new.lets slot
      agree slot below = sym (runs.others slot (λ e. omega (arith, e, below)))

      here : (held : Recorded) → new.reads (in_force l) ≡ Some held → Stands plan T new (in_force l) held
      here held kept =
          let same = same_before need plan T l sound old.lets new.lets agree in
          record { gave = runs.outcome ∙ same.0; read = subst (λ (xs : List Read). HeldAlike T held (noted xs)) same.1 (runs.read held kept) }

      given : (unit : ValidationUnit) → unit ≢ in_force l → SameGiven old new unit
      given (in_force slot) differ = runs.others slot (λ e. differ (ap in_force e))
      given (under p n) differ = runs.outcomes p n

      other : (unit : ValidationUnit) (held : Recorded) → unit ≢ in_force l → IsUnit plan T unit → IsTyped plan unit → new.reads unit ≡ Some held → LetsLive T new.lets held.lets →
          Stands plan T new unit held
      other unit held differ is typed kept lives =
          let entry = was unit held differ kept in
          let before : LetsLive T old.lets held.lets = lets_live_along T old.lets new.lets held.lets entry.same lives in
          let stood = keeps.stands unit held is typed entry.was before in
          let same = unit_same local plan T T nothing changed old.lets new.lets unit keeps.few runs.few is is typed
          (nothing_touched T (noted (reads_under plan T old.lets unit)))
          (λ slot there. let held_there : contains held.lets slot ≡ true = ap (λ (s : LetSet). contains s slot) stood.read.lets ∙ there in
          let_kept T T nothing old.lets new.lets slot (entry.same slot held_there) (before slot held_there) (before slot held_there)) in
          record {
            gave = same_gave plan T T old new unit same (given unit differ) stood.gave;
            read = subst (λ (xs : List Read). HeldAlike T held (noted xs)) (sym (same_reads plan T T old.lets new.lets unit same)) stood.read;
          }
