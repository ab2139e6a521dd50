-- The run of a node under a pattern keeps the state.
use Rattle.std.proofs.Common.{◌≡◌, ◌≢◌, ◌∙◌, ◌<◌, ◌≤◌, ◌⊎◌, length, Some, sym, ap, subst, inl, inr, ⊎_elim, arith}
use Rattle.std.proofs.lemmas.Bool.{cases_eq}
use Rattle.doc_tree.specs.Table.{Table}
use Rattle.xp_outcome.specs.Recorded.{Recorded}
use Rattle.xp_meaning.specs.Evaluation.{Lets}
use Rattle.sch_compiled.specs.declared.plan.Plan.{Plan}
use Rattle.edit_costs.specs.Units.{ValidationUnit, in_force, under}
use Rattle.cover_laws.specs.Covering.{HeldAlike}
use Rattle.kept_state.specs.Kept.{Kept, LetsLive, LetsPass, Stands, noted, reads_under}
use Rattle.kept_state.specs.Laws.{PairsKeep}
use Rattle.kept_state.specs.Steps.{StaysAs}
use Rattle.kept_state.proofs.UnitLemmas.{SameUnit, same_gave, same_self}

-- two units are the same, or they aren't
pub cases_unit : (unit other : ValidationUnit) → (unit ≡ other) ⊎ (unit ≢ other)
cases_unit (in_force slot) (in_force l) =
    ⊎_elim (λ (same : slot ≡ l). inl (ap in_force same)) (λ (differ : slot ≢ l). inr (λ e. differ (cc))) (cases_eq slot l)
cases_unit (in_force slot) (under p n) = inr (λ e. cc)
cases_unit (under p n) (in_force l) = inr (λ e. cc)
cases_unit (under p n) (under q m) =
    ⊎_elim (λ (same : p ≡ q).
    ⊎_elim (λ (also : n ≡ m). inl (ap (λ k. under k n) same ∙ ap (under q) also)) (λ (differ : n ≢ m). inr (λ e. differ (cc))) (cases_eq n m))
    (λ (differ : p ≢ q). inr (λ e. differ (cc))) (cases_eq p q)

-- a unit of which all is as it was stands as it did, under the same lets
pub stays_stands : (plan : Plan) (T : Table) (old new : Kept) (unit : ValidationUnit) (held : Recorded) → new.lets ≡ old.lets → StaysAs old new unit → Stands plan T old unit held →
    Stands plan T new unit held
stays_stands plan T old new unit held lets stays stood = record {
  gave = same_gave plan T T old new unit (subst (λ (L : Lets). SameUnit plan T T old.lets L unit) (sym lets) (same_self plan T old.lets unit)) stays.given stood.gave;
  read = subst (λ (L : Lets). HeldAlike T held (noted (reads_under plan T L unit))) (sym lets) stood.read;
}

pub pairs_keep : PairsKeep
pairs_keep plan T p n old new made keeps runs = record {
  few = subst (λ (L : Lets). length L ≤ length plan.lets) (sym runs.lets) keeps.few;
  made = λ slot. subst (λ (L : Lets). LetsPass (λ m. m < length T) L slot) (sym runs.lets) (keeps.made slot);
  new = λ q m past. (runs.others (under q m) (λ e. let same : m ≡ n = cc in omega (arith, same, made, past))).reads ∙ keeps.new q m past;
  before = λ slot other held is there. keeps.before slot other held (sym (runs.others (in_force slot) (λ e. cc)).reads ∙ is) there;
  stands = λ unit held is typed kept live.
      ⊎_elim
      (λ (same : unit ≡ under p n).
      subst (λ (u : ValidationUnit). Stands plan T new u held) (sym same)
      (runs.stands held (subst (λ (u : ValidationUnit). new.reads u ≡ Some held) same kept)))
      (λ (differ : unit ≢ under p n).
      let stays = runs.others unit differ in
      stays_stands plan T old new unit held runs.lets stays
      (keeps.stands unit held is typed (sym stays.reads ∙ kept) (subst (λ (L : Lets). LetsLive T L held.lets) runs.lets live)))
      (cases_unit unit (under p n));
}
