-- A refresh goes from a let in force to the next.
use Rattle.std.proofs.Common.{◌≡◌, ◌≢◌, ◌∙◌, ℕ, ◌+◌, ◌<◌, ◌≤◌, ◌⊎◌, true, false, not, ◌||◌, length, refl, sym, ap, subst, inl, inr, ⊎_elim, arith}
use Rattle.std.proofs.lemmas.Bool.{cases_Bool, cases_eq, cases_lt, false≢true}
use Rattle.std.proofs.Math.Bool.{or-false}
use Rattle.doc_tree.specs.Laws.{WellFormed}
use Rattle.doc_tree.specs.Table.{Table}
use Rattle.xp_outcome.specs.Slots.{in_slot}
use Rattle.xp_locality_laws.specs.Locality.{Changed}
use Rattle.sch_compiled.specs.declared.plan.Plan.{Plan}
use Rattle.sch_compiled.specs.Soundness.{IsSound}
use Rattle.sch_units.specs.Laws.{LetsStandInOrder}
use Rattle.sch_units.specs.Units.{lets_of}
use Rattle.edit_costs.specs.Locality.{GivenLetsAreLocal}
use Rattle.edit_costs.specs.Laws.{LetsNeedThoseBefore, SameOutcomesAreEqual}
use Rattle.edit_costs.specs.SameOutcome.{same_outcome}
use Rattle.edit_costs.specs.Units.{ValidationUnit, in_force, under}
use Rattle.kept_state.specs.Kept.{IsUnit, Keeps, Kept}
use Rattle.kept_state.specs.Refreshing.{ComesBefore, LetsGoOn, Reached}
use Rattle.kept_state.specs.Running.{GivesHere, GoesOn, IsDone, is_run, is_stale}
use Rattle.kept_state.specs.Steps.{LiveBelow, RunsLet, SameGiven, StaysAs, differs, unless_changed}
use Rattle.kept_state.proofs.LetLemmas.{lets_keep, same_before}
use Rattle.kept_state.proofs.LiveLemmas.{nothing}
use Rattle.kept_state.proofs.PairLemmas.{cases_unit}
use Rattle.kept_state.proofs.ReachedLemmas.{cases_before, differs_here, kept_before, let_here, not_stale_stays, same_differ, still_kept, told, unless_both, unless_none, unless_same}
use Rattle.kept_state.proofs.RightLemmas.{let_right, no_let, not_stale, own_let, own_live}

pub given_on : (old now new : Kept) (unit : ValidationUnit) → SameGiven old now unit → SameGiven now new unit → SameGiven old new unit
given_on old now new (in_force slot) first next = next ∙ first
given_on old now new (under p n) first next = next ∙ first

pub stays_on : (old now new : Kept) (unit : ValidationUnit) → StaysAs old now unit → StaysAs now new unit → StaysAs old new unit
stays_on old now new unit first next = record { given = given_on old now new unit first.given next.given; reads = next.reads ∙ first.reads }

-- a unit of which all is as it was is done as it was
pub done_on : (plan : Plan) (T : Table) (old new : Kept) (unit : ValidationUnit) → StaysAs old new unit → IsDone plan T old unit → IsDone plan T new unit
done_on plan T old new unit stays done = record {
  held = done.held;
  is = stays.reads ∙ done.is;
  right = record { gives = gives unit stays.given done.right.gives; read = done.right.read };
}
  where
    gives : (unit : ValidationUnit) → SameGiven old new unit → GivesHere plan T old unit → GivesHere plan T new unit
    gives (in_force slot) same is = same ∙ is
    gives (under p n) same is = same ∙ is

module _ (local : GivenLetsAreLocal) (changed_of : (T : Table) → WellFormed T → Changed T T nothing) (need : LetsNeedThoseBefore) (equal : SameOutcomesAreEqual)
    (order : LetsStandInOrder) (plan : Plan) (T : Table) (sound : IsSound plan) (formed : WellFormed T) where
  begins : (old : Kept) → Keeps plan T old → Reached plan T (in_force 0) old old
  begins old keeps = record {
    kept = keeps;
    keeps = keeps;
    done = λ unit _ before. absurd (none unit before);
    stays = λ unit _ before _. absurd (none unit before);
    given = λ unit _. given unit;
    reads = λ unit _. sym (unless_none (differs old.lets old.lets) (old.reads unit) (λ held _ slot _. same_differ equal old.lets old.lets slot refl));
  }
    where
      none : (unit : ValidationUnit) → ComesBefore unit (in_force 0) → ⊥
      none (in_force slot) before = omega (arith, before)
      none (under p n) before = before

      given : (unit : ValidationUnit) → SameGiven old old unit
      given (in_force slot) = refl
      given (under p n) = refl

  module _ (l : ℕ) (old now : Kept) (reached : Reached plan T (in_force l) old now) where
    ahead_here : ComesBefore (in_force l) (in_force l) → ⊥
    ahead_here before = omega (arith, before)

    tells : is_run plan T old (in_force l) ≡ is_stale now (in_force l)
    tells = told equal order plan T (in_force l) old now reached (in_force l) ahead_here (λ held is slot there. reached.kept.before l slot held is there)

    over : length plan.lets ≤ l → Reached plan T (under 0 0) old now
    over past = record {
      kept = reached.kept;
      keeps = reached.keeps;
      done = λ unit is before. reached.done unit is (earlier unit is before);
      stays = λ unit is before. reached.stays unit is (earlier unit is before);
      given = λ unit ahead. reached.given unit (later unit ahead);
      reads = λ unit ahead. reached.reads unit (later unit ahead);
    }
      where
        earlier : (unit : ValidationUnit) → IsUnit plan T unit → ComesBefore unit (under 0 0) → ComesBefore unit (in_force l)
        earlier (in_force slot) is before = omega (arith, is, past)
        earlier (under q m) is before = ⊎_elim (λ (below : q < 0). omega (arith, below)) (λ (both : (q ≡ 0) × (m < 0)). omega (arith, both.1)) before

        later : (unit : ValidationUnit) → (ComesBefore unit (under 0 0) → ⊥) → ComesBefore unit (in_force l) → ⊥
        later (in_force slot) ahead before = ahead tt
        later (under q m) ahead before = before

    -- the let is not the last one before the next
    ahead_of : (unit : ValidationUnit) → (ComesBefore unit (in_force (l + 1)) → ⊥) → ComesBefore unit (in_force l) → ⊥
    ahead_of (in_force slot) ahead before = ahead (omega (arith, before))
    ahead_of (under q m) ahead before = before

    -- of what comes before the next all comes before but the let itself
    before_of : (P : ValidationUnit → Type 0) → ((unit : ValidationUnit) → IsUnit plan T unit → ComesBefore unit (in_force l) → P unit) → (l < length plan.lets → P (in_force l)) →
        (unit : ValidationUnit) → IsUnit plan T unit → ComesBefore unit (in_force (l + 1)) → P unit
    before_of P earlier here (in_force slot) is before =
        ⊎_elim (λ (same : slot ≡ l). subst (λ (k : ℕ). P (in_force k)) (sym same) (here (subst (λ (k : ℕ). k < length plan.lets) same is)))
        (λ (differ : slot ≢ l). earlier (in_force slot) is (omega (arith, before, differ))) (cases_eq slot l)
    before_of P earlier here (under q m) is before = absurd before

    left : is_stale now (in_force l) ≡ false → Reached plan T (in_force (l + 1)) old now
    left fresh = record {
      kept = reached.kept;
      keeps = reached.keeps;
      done = before_of (λ unit. IsDone plan T now unit) reached.done (λ within.
          let entry = not_stale now (in_force l) fresh in
          record {
            held = entry.0;
            is = entry.1;
            right = let_right need order plan T sound local (changed_of T formed) now reached.keeps l within (λ slot below. let_here equal order plan T (in_force l) old now reached slot below)
                entry.0 entry.1;
          });
      stays = before_of (λ unit. is_run plan T old unit ≡ false → StaysAs old now unit) reached.stays
          (λ _ _. not_stale_stays equal order plan T (in_force l) old now reached (in_force l) ahead_here fresh);
      given = λ unit ahead. reached.given unit (ahead_of unit ahead);
      reads = λ unit ahead. reached.reads unit (ahead_of unit ahead);
    }

    module _ (new : Kept) (stale : is_stale now (in_force l) ≡ true) (runs : RunsLet plan T l now new) where
      keeps_new : Keeps plan T new
      keeps_new = (lets_keep local changed_of need equal plan T l now new sound formed live reached.keeps runs).0
        where
          live : LiveBelow T now.lets l
          live slot below v is = own_live need order plan T sound local (changed_of T formed) slot v (sym (let_here equal order plan T (in_force l) old now reached slot below) ∙ is)

      -- only the outcome of the let itself may differ
      differs_but : (slot : ℕ) → slot ≢ l → differs now.lets new.lets slot ≡ false
      differs_but slot differ = same_differ equal now.lets new.lets slot (sym (runs.others slot differ))

      given_new : (unit : ValidationUnit) → unit ≢ in_force l → SameGiven now new unit
      given_new (in_force slot) differ = runs.others slot (λ e. differ (ap in_force e))
      given_new (under p n) differ = runs.outcomes p n

      -- of the lets before it all is as it was
      earlier_stays : (unit : ValidationUnit) → ComesBefore unit (in_force l) → StaysAs now new unit
      earlier_stays (in_force slot) below = record {
        given = runs.others slot (λ e. omega (arith, e, below));
        reads = runs.reads (in_force slot) apart
            ∙ unless_none (differs now.lets new.lets) (now.reads (in_force slot)) (λ held is other there.
            let earlier = reached.keeps.before slot other held is there in
            differs_but other (λ e. omega (arith, e, earlier, below)));
      }
        where
          apart : in_force slot ≢ in_force l
          apart e = let same : slot ≡ l = cc in omega (arith, same, below)
      earlier_stays (under q m) below = absurd below

      -- a unit that is still ahead lost what it read where a let has changed
      reads_new : (unit : ValidationUnit) → unit ≢ in_force l → (ComesBefore unit (in_force l) → ⊥) → new.reads unit ≡ unless_changed (differs old.lets new.lets) (old.reads unit)
      reads_new unit differ ahead =
          runs.reads unit differ ∙ ap (unless_changed (differs now.lets new.lets)) (reached.reads unit ahead)
          ∙ unless_both (differs old.lets now.lets) (differs now.lets new.lets) (old.reads unit)
          ∙ unless_same (λ slot. differs old.lets now.lets slot || differs now.lets new.lets slot) (differs old.lets new.lets) (old.reads unit) (λ _ _ slot _. both slot)
        where
          both : (slot : ℕ) → (differs old.lets now.lets slot || differs now.lets new.lets slot) ≡ differs old.lets new.lets slot
          both slot =
              ⊎_elim
              (λ (same : slot ≡ l).
              let was : in_slot now.lets slot ≡ in_slot old.lets slot = reached.given (in_force slot) (λ before. omega (arith, same, before)) in
              ap (λ b. b || differs now.lets new.lets slot) (same_differ equal old.lets now.lets slot (sym was))
              ∙ ap (λ o. not (same_outcome o (in_slot new.lets slot))) was)
              (λ (other : slot ≢ l).
              ap (λ b. differs old.lets now.lets slot || b) (differs_but slot other)
              ∙ or-false (differs old.lets now.lets slot)
              ∙ ap (λ o. not (same_outcome (in_slot old.lets slot) o)) (sym (runs.others slot other)))
              (cases_eq slot l)

      not_here : (unit : ValidationUnit) → (ComesBefore unit (in_force (l + 1)) → ⊥) → unit ≢ in_force l
      not_here unit ahead e = ahead (subst (λ (u : ValidationUnit). ComesBefore u (in_force (l + 1))) (sym e) (omega arith))

      agree_new : (slot : ℕ) → slot < l → in_slot new.lets slot ≡ in_slot (lets_of plan T) slot
      agree_new slot below = runs.others slot (λ e. omega (arith, e, below)) ∙ let_here equal order plan T (in_force l) old now reached slot below

      done_here : is_stale new (in_force l) ≡ false → l < length plan.lets → IsDone plan T new (in_force l)
      done_here fresh within =
          let entry = not_stale new (in_force l) fresh in
          record {
            held = entry.0;
            is = entry.1;
            right = let_right need order plan T sound local (changed_of T formed) new keeps_new l within agree_new entry.0 entry.1;
          }

      not_to_run : is_run plan T old (in_force l) ≡ false → ⊥
      not_to_run not_run = false≢true (sym not_run ∙ tells ∙ stale)

      ran : is_stale new (in_force l) ≡ false → Reached plan T (in_force (l + 1)) old new
      ran fresh = record {
        kept = reached.kept;
        keeps = keeps_new;
        done = before_of (λ unit. IsDone plan T new unit) (λ unit is before. done_on plan T now new unit (earlier_stays unit before) (reached.done unit is before)) (done_here fresh);
        stays = before_of (λ unit. is_run plan T old unit ≡ false → StaysAs old new unit)
            (λ unit is before not_run. stays_on old now new unit (reached.stays unit is before not_run) (earlier_stays unit before))
            (λ _ not_run. absurd (not_to_run not_run));
        given = λ unit ahead. given_on old now new unit (reached.given unit (ahead_of unit ahead)) (given_new unit (not_here unit ahead));
        reads = λ unit ahead. reads_new unit (not_here unit ahead) (ahead_of unit ahead);
      }

      -- the let has the outcome that it has in the tree
      outcome_here : in_slot new.lets l ≡ in_slot (lets_of plan T) l
      outcome_here =
          ⊎_elim
          (λ (within : l < length plan.lets). runs.outcome
          ∙ (same_before need plan T l sound now.lets (lets_of plan T) (λ slot below. let_here equal order plan T (in_force l) old now reached slot below)).0
          ∙ sym (own_let need order plan T sound l within))
          (λ (past : length plan.lets ≤ l). no_let new.lets l (omega (arith, past, runs.few))
          ∙ sym (no_let (lets_of plan T) l (let e = order.count plan T in omega (arith, e, past)))) (cases_lt l (length plan.lets))

      stops : GoesOn plan T old new
      stops = record { keeps = keeps_new; some = some; others = others }
        where
          differs_new : (slot : ℕ) → differs old.lets (lets_of plan T) slot ≡ false → differs old.lets new.lets slot ≡ false
          differs_new slot same =
              ⊎_elim
              (λ (here : slot ≡ l). ap (λ o. not (same_outcome (in_slot old.lets slot) o)) (ap (in_slot new.lets) here ∙ outcome_here ∙ ap (in_slot (lets_of plan T)) (sym here)) ∙ same)
              (λ (other : slot ≢ l). ap (λ o. not (same_outcome (in_slot old.lets slot) o)) (runs.others slot other)
              ∙ differs_here equal order plan T (in_force l) old now reached slot same)
              (cases_eq slot l)

          ahead_stays : (unit : ValidationUnit) → unit ≢ in_force l → (ComesBefore unit (in_force l) → ⊥) → new.reads unit ≡ old.reads unit → StaysAs old new unit
          ahead_stays unit differ ahead same = record { given = given_on old now new unit (reached.given unit ahead) (given_new unit differ); reads = same }

          others : (unit : ValidationUnit) → IsUnit plan T unit → is_run plan T old unit ≡ false → StaysAs old new unit
          others unit is not_run =
              ⊎_elim (λ (before : ComesBefore unit (in_force l)). stays_on old now new unit (reached.stays unit is before not_run) (earlier_stays unit before))
              (λ (ahead : ComesBefore unit (in_force l) → ⊥).
              let differ : unit ≢ in_force l = (λ e. not_to_run (subst (λ (u : ValidationUnit). is_run plan T old u ≡ false) e not_run)) in
              ahead_stays unit differ ahead
              (reads_new unit differ ahead ∙ still_kept old.lets (lets_of plan T) new.lets (old.reads unit) differs_new not_run))
              (cases_before unit (in_force l))

          some : (unit : ValidationUnit) → IsUnit plan T unit → is_run plan T old unit ≡ true → IsDone plan T new unit ⊎ ((is_stale new unit ≡ true) ⊎ StaysAs old new unit)
          some unit is run =
              ⊎_elim (λ (before : ComesBefore unit (in_force l)). inl (done_on plan T now new unit (earlier_stays unit before) (reached.done unit is before)))
              (λ (ahead : ComesBefore unit (in_force l) → ⊥).
              ⊎_elim (λ (stale_now : is_stale new unit ≡ true). inr (inl stale_now))
              (λ (fresh : is_stale new unit ≡ false).
              ⊎_elim
              (λ (same : unit ≡ in_force l).
              inl (subst (λ (u : ValidationUnit). IsDone plan T new u) (sym same)
              (done_here (subst (λ (u : ValidationUnit). is_stale new u ≡ false) same fresh) (subst (IsUnit plan T) same is))))
              (λ (differ : unit ≢ in_force l).
              inr (inr (ahead_stays unit differ ahead (kept_before equal old.lets new.lets (old.reads unit) (new.reads unit) (reads_new unit differ ahead) fresh))))
              (cases_unit unit (in_force l)))
              (cases_Bool (is_stale new unit)))
              (cases_before unit (in_force l))

  pub lets_go_on : LetsGoOn plan T
  lets_go_on = record {
    begins = begins;
    tells = tells;
    left = left;
    ran = λ l old now new reached stale runs fresh. ran l old now reached new stale runs fresh;
    stops = λ l old now new reached stale runs. stops l old now reached new stale runs;
    over = over;
  }
