-- Where no let is stale, the kept lets are those of the tree, and so is what is kept of all else.
use Rattle.std.proofs.Common.{◌≡◌, ◌≢◌, ◌∙◌, ℕ, zero, suc, ◌<◌, ◌≤◌, true, false, List, length, take, is_none, Option, None, Some, Result, Ok, refl, sym, ap, subst, inl, inr, ⊎_elim, arith, get_or-take}
use Rattle.std.specs.Prelude.{slice_get}
use Rattle.std.proofs.lemmas.Bool.{cases_eq, cases_lt, false≢true}
use Rattle.std.proofs.lemmas.List.{ext_get_or, get_or_past}
use Rattle.std.proofs.lemmas.Option.{slice_get_cases}
use Rattle.doc_tree.specs.Laws.{WellFormed}
use Rattle.doc_tree.specs.Table.{Table, is_live}
use Rattle.xp_outcome.specs.Evaluation.{Evaluation, Read}
use Rattle.xp_outcome.specs.Recorded.{Recorded}
use Rattle.xp_outcome.specs.Slots.{in_slot}
use Rattle.xp_values.specs.declared.values.EvalFault.{EvalFault}
use Rattle.xp_values.specs.declared.values.Value.{Value}
use Rattle.xp_meaning.specs.Evaluation.{Lets}
use Rattle.xp_locality_laws.specs.Locality.{Changed}
use Rattle.sch_compiled.specs.declared.parts.LetInForce.{LetInForce}
use Rattle.sch_compiled.specs.declared.plan.Plan.{Plan}
use Rattle.sch_compiled.specs.Soundness.{IsSound}
use Rattle.sch_units.specs.Laws.{LetsStandInOrder}
use Rattle.sch_units.specs.Units.{lets_of, unit_let, unit_pair}
use Rattle.sch_units.specs.Validity.{outcome_of}
use Rattle.edit_costs.specs.Locality.{GivenLetsAreLocal}
use Rattle.edit_costs.specs.Laws.{LetsNeedThoseBefore}
use Rattle.edit_costs.specs.Units.{ValidationUnit, in_force, under, reads_of}
use Rattle.cover_laws.specs.Covering.{HeldAlike}
use Rattle.kept_state.specs.Kept.{Gave, IsTyped, IsUnit, Keeps, Kept, LetsLive, LetsPass, Stands, let_gives, noted, reads_under}
use Rattle.kept_state.specs.Laws.{KeptIsRight}
use Rattle.kept_state.specs.Running.{GivesHere, IsRight, NoLetIsStale, is_stale}
use Rattle.kept_state.specs.Steps.{LiveBelow}
use Rattle.kept_state.proofs.LetLemmas.{given_live, same_before}
use Rattle.kept_state.proofs.LiveLemmas.{nothing}

-- past its end a table holds no let
pub no_let : (L : Lets) (slot : ℕ) → length L ≤ slot → in_slot L slot ≡ None
no_let L slot past = get_or_past L slot None past

-- slots that are all filled, and others with the same values and no more, are the same
pub same_slots : (L M : Lets) → length L ≤ length M → ((slot : ℕ) → slot < length M → (v : Result Value EvalFault) × (in_slot M slot ≡ Some v)) →
    ((slot : ℕ) → slot < length M → in_slot L slot ≡ in_slot M slot) → L ≡ M
same_slots L M few filled same = ext_get_or None L M long (λ slot below. same slot (omega (arith, below, few)))
  where
    short : length L < length M → ⊥
    short below =
        let value = filled (length L) below in
        let nothing_there : in_slot L (length L) ≡ None = no_let L (length L) (omega arith) in
        let something : in_slot L (length L) ≡ Some value.0 = same (length L) below ∙ value.1 in
        (cc)

    long : length L ≡ length M
    long = ⊎_elim (λ (below : length L < length M). absurd (short below)) (λ (past : length M ≤ length L). omega (arith, past, few)) (cases_lt (length L) (length M))

-- what is kept of a unit that isn't stale
pub not_stale : (kept : Kept) (unit : ValidationUnit) → is_stale kept unit ≡ false → (held : Recorded) × (kept.reads unit ≡ Some held)
not_stale kept unit is = by (kept.reads unit) refl is
  where
    by : (o : Option Recorded) → kept.reads unit ≡ o → is_none o ≡ false → (held : Recorded) × (kept.reads unit ≡ Some held)
    by None e is = absurd (false≢true (sym is))
    by (Some held) e is = (held, e)

-- the let in force in a slot
let_there : (plan : Plan) (l : ℕ) → l < length plan.lets → (t : LetInForce) × (slice_get plan.lets l ≡ Some t)
let_there plan l within = elim (slice_get_cases plan.lets l).1 [
  | inl at ↦ (at.0, at.2)
  | inr past ↦ absurd (omega (arith, within, past.0))
]

module _ (need : LetsNeedThoseBefore) (order : LetsStandInOrder) (plan : Plan) (T : Table) (sound : IsSound plan) where
  -- the outcome of each let is what it gives under all
  pub own_let : (slot : ℕ) → slot < length plan.lets → in_slot (lets_of plan T) slot ≡ let_gives T (lets_of plan T) (slice_get plan.lets slot)
  own_let slot within =
      let t = let_there plan slot within in
      order.under plan T slot t.0 t.1
      ∙ ap (λ (m : Evaluation EvalFault Value). Some m.answer) (need.same plan T (take slot (lets_of plan T)) (lets_of plan T) slot t.0 sound t.1 (λ before below. get_or-take slot (lets_of plan T) before None below))
      ∙ ap (let_gives T (lets_of plan T)) (sym t.1)

  -- and it reads what it does under all
  pub own_reads : (unit : ValidationUnit) → reads_under plan T (lets_of plan T) unit ≡ reads_of plan T unit
  own_reads (in_force slot) = (same_before need plan T slot sound (lets_of plan T) (take slot (lets_of plan T)) (λ before below. sym (get_or-take slot (lets_of plan T) before None below))).1
  own_reads (under p n) = refl

  -- what stands under the lets of the tree is right
  pub stands_right : (kept : Kept) (unit : ValidationUnit) (held : Recorded) → kept.lets ≡ lets_of plan T → Stands plan T kept unit held → IsRight plan T kept unit held
  stands_right kept unit held lets stood = record {
    gives = gives unit stood.gave;
    read = subst (λ (xs : List Read). HeldAlike T held (noted xs)) (ap (λ (L : Lets). reads_under plan T L unit) lets ∙ own_reads unit) stood.read;
  }
    where
      gives : (unit : ValidationUnit) → Gave plan T kept unit → GivesHere plan T kept unit
      gives (in_force slot) gave = ap (λ (L : Lets). in_slot L slot) lets
      gives (under p n) gave = gave ∙ ap (λ (L : Lets). Some (outcome_of (unit_pair plan T L p n).answer)) lets

  few_own : length (lets_of plan T) ≡ length plan.lets
  few_own = order.count plan T

  module _ (local : GivenLetsAreLocal) (changed : Changed T T nothing) where
    own_live_below : (l : ℕ) → l ≤ length plan.lets → LiveBelow T (lets_of plan T) l
    own_live_below zero within slot below = absurd (omega (arith, below))
    own_live_below (suc l) within slot below =
        let earlier : LiveBelow T (lets_of plan T) l = own_live_below l (omega (arith, within)) in
        ⊎_elim
        (λ (same : slot ≡ l). subst (λ (k : ℕ). LetsPass (λ n. is_live T n ≡ true) (lets_of plan T) k) (sym same)
        (λ v is. given_live need plan T l sound local changed (lets_of plan T) earlier v (sym (own_let l (omega (arith, within))) ∙ is)))
        (λ (differ : slot ≢ l). earlier slot (omega (arith, below, differ))) (cases_eq slot l)

    -- the nodes of the lets of a tree live in it
    pub own_live : (slot : ℕ) → LetsPass (λ n. is_live T n ≡ true) (lets_of plan T) slot
    own_live slot =
        ⊎_elim (λ (below : slot < length plan.lets). own_live_below (length plan.lets) (omega arith) slot below)
        (λ (past : length plan.lets ≤ slot). λ v is.
        absurd (let out = no_let (lets_of plan T) slot (let e = few_own in omega (arith, e, past)) in (let e : None ≡ Some (Ok v) = sym out ∙ is in (cc))))
        (cases_lt slot (length plan.lets))

    module _ (kept : Kept) (keeps : Keeps plan T kept) where
      -- a let that isn't stale is that of the tree, where those before it are
      pub let_right : (l : ℕ) → l < length plan.lets → ((slot : ℕ) → slot < l → in_slot kept.lets slot ≡ in_slot (lets_of plan T) slot) → (held : Recorded) →
          kept.reads (in_force l) ≡ Some held → IsRight plan T kept (in_force l) held
      let_right l within agree held is =
          let live : LetsLive T kept.lets held.lets = (λ slot there v e.
          let below = keeps.before l slot held is there in own_live slot v (sym (agree slot below) ∙ e)) in
          let stood = keeps.stands (in_force l) held within tt is live in
          let same = same_before need plan T l sound kept.lets (lets_of plan T) agree in
          record {
            gives = stood.gave ∙ same.0 ∙ sym (own_let l within);
            read = subst (λ (xs : List Read). HeldAlike T held (noted xs)) (same.1 ∙ own_reads (in_force l)) stood.read;
          }

      -- the kept lets are those of the tree where each is
      pub lets_right : ((slot : ℕ) → slot < length plan.lets → in_slot kept.lets slot ≡ in_slot (lets_of plan T) slot) → kept.lets ≡ lets_of plan T
      lets_right agree = same_slots kept.lets (lets_of plan T) (let e = few_own in omega (arith, e, keeps.few))
          (λ slot below. filled slot (let e = few_own in omega (arith, e, below))) (λ slot below. agree slot (let e = few_own in omega (arith, e, below)))
        where
          filled : (slot : ℕ) → slot < length plan.lets → (v : Result Value EvalFault) × (in_slot (lets_of plan T) slot ≡ Some v)
          filled slot within = let t = let_there plan slot within in ((unit_let T (take slot (lets_of plan T)) t.0.expr).answer, order.under plan T slot t.0 t.1)

      -- then so is what is kept of each unit that isn't stale
      pub unit_right : kept.lets ≡ lets_of plan T → (unit : ValidationUnit) (held : Recorded) → IsUnit plan T unit → IsTyped plan unit → kept.reads unit ≡ Some held →
          IsRight plan T kept unit held
      unit_right lets unit held is typed there = stands_right kept unit held lets (keeps.stands unit held is typed there live)
        where
          live : LetsLive T kept.lets held.lets
          live = subst (λ (L : Lets). LetsLive T L held.lets) (sym lets) (λ slot _. own_live slot)

      agree_below : NoLetIsStale plan kept → (l : ℕ) → l ≤ length plan.lets → (slot : ℕ) → slot < l → in_slot kept.lets slot ≡ in_slot (lets_of plan T) slot
      agree_below fresh zero within slot below = absurd (omega (arith, below))
      agree_below fresh (suc l) within slot below =
          let earlier : (k : ℕ) → k < l → in_slot kept.lets k ≡ in_slot (lets_of plan T) k = agree_below fresh l (omega (arith, within)) in
          ⊎_elim
          (λ (same : slot ≡ l). subst (λ (k : ℕ). in_slot kept.lets k ≡ in_slot (lets_of plan T) k) (sym same)
          (let there : l < length plan.lets = omega (arith, within) in
          let entry = not_stale kept (in_force l) (fresh l there) in
          (let_right l there earlier entry.0 entry.1).gives))
          (λ (differ : slot ≢ l). earlier slot (omega (arith, below, differ))) (cases_eq slot l)

      pub fresh_right : NoLetIsStale plan kept → (unit : ValidationUnit) (held : Recorded) → IsUnit plan T unit → IsTyped plan unit → kept.reads unit ≡ Some held →
          IsRight plan T kept unit held
      fresh_right fresh = unit_right (lets_right (agree_below fresh (length plan.lets) (omega arith)))

pub kept_is_right : GivenLetsAreLocal → ((T : Table) → WellFormed T → Changed T T nothing) → LetsNeedThoseBefore → LetsStandInOrder → KeptIsRight
kept_is_right local changed need order plan T kept sound formed keeps fresh = fresh_right need order plan T sound local (changed T formed) kept keeps fresh
