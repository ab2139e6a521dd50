-- A refresh goes over all units in order, the lets in force by slot and then the nodes pattern by pattern, and runs those that are
-- stale when it comes to them: how far it has come, and that it goes on to the end.
use Rattle.std.specs.Prelude.{◌≡◌, ℕ, ◌+◌, ◌⊎◌, ◌<◌, ◌≤◌, true, false, length}
use Rattle.doc_tree.specs.Laws.{WellFormed}
use Rattle.doc_tree.specs.Table.{Table, is_live}
use Rattle.sch_compiled.specs.declared.plan.Plan.{Plan}
use Rattle.sch_compiled.specs.Soundness.{IsSound}
use Rattle.edit_costs.specs.Locality.{RulesTyped}
use Rattle.edit_costs.specs.Units.{ValidationUnit, in_force, under}
use Rattle.kept_state.specs.Kept.{IsUnit, Keeps, Kept}
use Rattle.kept_state.specs.Running.{GoesOn, IsDone, IsFresh, is_run, is_stale}
use Rattle.kept_state.specs.Steps.{RunsLet, RunsPair, SameGiven, StaysAs, differs, unless_changed}

-- a unit comes before another
abbrev pub ComesBefore : ValidationUnit → ValidationUnit → Type 0
ComesBefore (in_force slot) (in_force l) = slot < l
ComesBefore (in_force slot) (under p n) = Unit {0}
ComesBefore (under q m) (in_force l) = ⊥
ComesBefore (under q m) (under p n) = (q < p) ⊎ ((q ≡ p) × (m < n))

-- a refresh of what was kept has come to a unit
pub record Reached (plan : Plan) (T : Table) (at : ValidationUnit) (old now : Kept) : Type 0 where
  pub kept : Keeps plan T old
  pub keeps : Keeps plan T now
  -- the units before it are done, and of these all is as it was that were not to be run
  pub done : (unit : ValidationUnit) → IsUnit plan T unit → ComesBefore unit at → IsDone plan T now unit
  pub stays : (unit : ValidationUnit) → IsUnit plan T unit → ComesBefore unit at → is_run plan T old unit ≡ false → StaysAs old now unit
  -- the others have the outcomes that they had, and those of them are stale that read a let whose outcome has changed
  pub given : (unit : ValidationUnit) → (ComesBefore unit at → ⊥) → SameGiven old now unit
  pub reads : (unit : ValidationUnit) → (ComesBefore unit at → ⊥) → now.reads unit ≡ unless_changed (differs old.lets now.lets) (old.reads unit)

-- from a let in force to the next
pub record LetsGoOn (plan : Plan) (T : Table) : Type 0 where
  pub begins : (old : Kept) → Keeps plan T old → Reached plan T (in_force 0) old old
  -- a let is to be run exactly where it is stale when it is come to
  pub tells : (l : ℕ) (old now : Kept) → Reached plan T (in_force l) old now → is_run plan T old (in_force l) ≡ is_stale now (in_force l)
  pub left : (l : ℕ) (old now : Kept) → Reached plan T (in_force l) old now → is_stale now (in_force l) ≡ false → Reached plan T (in_force (l + 1)) old now
  pub ran : (l : ℕ) (old now new : Kept) → Reached plan T (in_force l) old now → is_stale now (in_force l) ≡ true → RunsLet plan T l now new →
      is_stale new (in_force l) ≡ false → Reached plan T (in_force (l + 1)) old new
  -- a let was run, whether or not what it read was kept, and the refresh stops
  pub stops : (l : ℕ) (old now new : Kept) → Reached plan T (in_force l) old now → is_stale now (in_force l) ≡ true → RunsLet plan T l now new → GoesOn plan T old new
  pub over : (l : ℕ) (old now : Kept) → Reached plan T (in_force l) old now → length plan.lets ≤ l → Reached plan T (under 0 0) old now

-- from a node under a pattern to the next
pub record PairsGoOn (plan : Plan) (T : Table) : Type 0 where
  pub tells : (p n q m : ℕ) (old now : Kept) → Reached plan T (under p n) old now → (ComesBefore (under q m) (under p n) → ⊥) →
      is_run plan T old (under q m) ≡ is_stale now (under q m)
  -- nodes none of which is stale are passed over
  pub left : (p n next : ℕ) (old now : Kept) → Reached plan T (under p n) old now → RulesTyped plan p → n ≤ next →
      ((m : ℕ) → n ≤ m → m < next → is_live T m ≡ true → is_stale now (under p m) ≡ false) → Reached plan T (under p next) old now
  pub ran : (p n : ℕ) (old now new : Kept) → Reached plan T (under p n) old now → n < length T → is_stale now (under p n) ≡ true → RunsPair plan T p n now new →
      is_stale new (under p n) ≡ false → Reached plan T (under p (n + 1)) old new
  pub stops : (p n : ℕ) (old now new : Kept) → Reached plan T (under p n) old now → n < length T → is_stale now (under p n) ≡ true → RunsPair plan T p n now new →
      GoesOn plan T old new
  pub next : (p n : ℕ) (old now : Kept) → Reached plan T (under p n) old now → length T ≤ n → Reached plan T (under (p + 1) 0) old now
  pub over : (p n : ℕ) (old now : Kept) → Reached plan T (under p n) old now → length plan.patterns ≤ p → IsFresh plan T now

-- a refresh may stop between any two units, and goes on to the end
pub record RefreshesGoOn (plan : Plan) (T : Table) : Type 0 where
  pub stops : (at : ValidationUnit) (old now : Kept) → Reached plan T at old now → GoesOn plan T old now
  pub lets : LetsGoOn plan T
  pub pairs : PairsGoOn plan T

abbrev pub RefreshesKeep : Type 0
RefreshesKeep = (plan : Plan) (T : Table) → IsSound plan → WellFormed T → RefreshesGoOn plan T
