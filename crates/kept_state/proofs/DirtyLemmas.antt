-- After edits of a tree whose units were all done, those are to be run that the edits left dirty.
use Rattle.std.proofs.Common.{◌≡◌, ◌∙◌, ℕ, Bool, true, false, cond, is_none, ◌||◌, List, [], ◌∷◌, Option, None, Some, refl, sym, ap, subst, arith}
use Rattle.std.specs.Cmp.{nat_cmp_total}
use Rattle.std.specs.FinMap.{nat_cmp-IsAntisymmetric}
use Rattle.std.specs.FinSet.{contains, items}
use Rattle.std.specs.List.{list_any, AllByRecursion as Each}
use Rattle.std.proofs.lemmas.Bool.{false_from_ne_true, false≢true, not-false, not_from_true, or_from, or_parts}
use Rattle.doc_tree.specs.Table.{Table, is_live}
use Rattle.doc_edit_laws.specs.Along.{none}
use Rattle.xp_outcome.specs.Evaluation.{Read, cell, names_along, variable}
use Rattle.xp_outcome.specs.Recorded.{LetSet, Recorded, has_read}
use Rattle.xp_outcome.specs.Slots.{in_slot}
use Rattle.xp_meaning.specs.Evaluation.{Lets}
use Rattle.xp_locality_laws.specs.Locality.{Changed}
use Rattle.sch_compiled.specs.declared.plan.Plan.{Plan}
use Rattle.sch_units.specs.Laws.{LetsStandInOrder}
use Rattle.sch_units.specs.Units.{lets_of}
use Rattle.edit_costs.specs.Edits.{EditsChange}
use Rattle.edit_costs.specs.Locality.{GivenLetsAreLocal}
use Rattle.edit_costs.specs.Dirty.{is_changed, is_dirty, is_new, is_touched}
use Rattle.edit_costs.specs.Laws.{LetsNeedThoseBefore, SameOutcomesAreEqual}
use Rattle.edit_costs.specs.SameOutcome.{same_outcome}
use Rattle.edit_costs.specs.Units.{ValidationUnit, in_force, under, reads_of}
use Rattle.cover_laws.specs.Covering.{EditsTouchHeldAlike, HeldAlike, HeldStaysAlike, IsOfLive, ReadsAreTouched, holds_touched}
use Rattle.xp_outcome.proofs.SetTests.{any_or, found_in}
use Rattle.kept_state.specs.Kept.{IsUnit, LetsLive, noted, reads_under}
use Rattle.kept_state.specs.Laws.{DirtyAreRun}
use Rattle.unit_live_laws.specs.LiveReads.{UnitsReadLiveCells}
use Rattle.kept_state.specs.Running.{IsDone, is_run}
use Rattle.kept_state.specs.Steps.{differs, unless_changed, unless_touched}
use Rattle.kept_state.proofs.EditLemmas.{Unmarked, all_edits, node_made, unit_before, unmarked}
use Rattle.kept_state.proofs.LiveLemmas.{nothing, read_live}
use Rattle.kept_state.proofs.LetLemmas.{Unchanged, lets_live_along, unchanged}
use Rattle.kept_state.proofs.ReadLemmas.{each_of_list, each_of_set}
use Rattle.kept_state.proofs.RightLemmas.{lets_right, own_live, own_reads}

same_false : (a b : Bool) → (a ≡ false → b ≡ false) → (b ≡ false → a ≡ false) → a ≡ b
same_false false b there back = sym (there refl)
same_false true false there back = back refl
same_false true true there back = refl

-- no item of a list passes a test, exactly where each fails it
none_each : {X : Type 0} (p : X → Bool) (xs : List X) → list_any p xs ≡ false → Each (λ x. p x ≡ false) xs
none_each p [] fails = tt
none_each p (x ∷ xs) fails = let parts = or_parts (p x) (list_any p xs) fails in (parts.0, none_each p xs parts.1)

each_none : {X : Type 0} (p : X → Bool) (xs : List X) → Each (λ x. p x ≡ false) xs → list_any p xs ≡ false
each_none p [] each = refl
each_none p (x ∷ xs) each = or_from (p x) (list_any p xs) each.0 (each_none p xs each.1)

old_unit : (plan : Plan) (T U : Table) (unit : ValidationUnit) → is_new T unit ≡ false → IsUnit plan U unit → IsUnit plan T unit
old_unit plan T U (in_force slot) old is = is
old_unit plan T U (under p n) old is = (is.0, not-false (is_live T n) old)

unit_old : (plan : Plan) (T : Table) (unit : ValidationUnit) → IsUnit plan T unit → is_new T unit ≡ false
unit_old plan T (in_force slot) is = refl
unit_old plan T (under p n) is = not_from_true (is_live T n) is.1

-- what would be kept of a unit, once lets have changed
some_kept : (changed : ℕ → Bool) (entry : Option Recorded) → is_none (unless_changed changed entry) ≡ false → (held : Recorded) × (unless_changed changed entry ≡ Some held)
some_kept changed entry is = by (unless_changed changed entry) refl is
  where
    by : (o : Option Recorded) → unless_changed changed entry ≡ o → is_none o ≡ false → (held : Recorded) × (unless_changed changed entry ≡ Some held)
    by None e is = absurd (false≢true (sym is))
    by (Some held) e is = (held, e)

unless_kept : (changed : ℕ → Bool) (held : Recorded) → list_any changed (items held.lets) ≡ false → is_none (unless_changed changed (Some held)) ≡ false
unless_kept changed held same = ap (λ b. is_none (cond b None (Some held))) same

module _ (local : GivenLetsAreLocal) (change : EditsChange) (touches : EditsTouchHeldAlike) (stay : HeldStaysAlike) (touch : ReadsAreTouched)
    (cells : UnitsReadLiveCells) (need : LetsNeedThoseBefore)
    (equal : SameOutcomesAreEqual) (order : LetsStandInOrder) where
  pub dirty_are_run : DirtyAreRun
  dirty_are_run plan T U touched old new sound formed edits fresh marks unit is typed =
      same_false (is_run plan U new unit) (is_dirty plan T U touched unit) clean runs_not
    where
      changed : Changed T U touched
      changed = change T U touched formed edits

      own_old : old.lets ≡ lets_of plan T
      own_old = lets_right need order plan T sound local (change T T nothing formed none) old fresh.keeps (λ slot within. (fresh.done (in_force slot) within).right.gives)

      own : new.lets ≡ lets_of plan T
      own = marks.lets ∙ own_old

      runs_not : is_dirty plan T U touched unit ≡ false → is_run plan U new unit ≡ false
      runs_not not_dirty = ap (λ (o : Option Recorded). is_none (unless_changed (differs new.lets (lets_of plan U)) o)) kept
          ∙ unless_kept (differs new.lets (lets_of plan U)) done.held lets
        where
          parts : (is_new T unit ≡ false) × (list_any (λ r. is_touched T touched r || is_changed plan T U r) (reads_of plan T unit) ≡ false)
          parts = or_parts (is_new T unit) (list_any (λ r. is_touched T touched r || is_changed plan T U r) (reads_of plan T unit)) not_dirty

          done : IsDone plan T old unit
          done = fresh.done unit (old_unit plan T U unit parts.0 is)

          each : (r : Read) → has_read (noted (reads_of plan T unit)) r ≡ true → (is_touched T touched r || is_changed plan T U r) ≡ false
          each = each_of_list (λ r. (is_touched T touched r || is_changed plan T U r) ≡ false) (reads_of plan T unit)
              (none_each (λ r. is_touched T touched r || is_changed plan T U r) (reads_of plan T unit) parts.1)

          live : IsOfLive T (noted (reads_of plan T unit))
          live = subst (λ (xs : List Read). IsOfLive T (noted xs)) (own_reads need order plan T sound unit)
              (read_live local cells plan T (change T T nothing formed none) (lets_of plan T) unit (let e = order.count plan T in omega (arith, e))
              (old_unit plan T U unit parts.0 is) typed
              (λ slot _. own_live need order plan T sound local (change T T nothing formed none) slot))

          untouched : holds_touched T touched done.held ≡ false
          untouched =
              touches T U touched done.held (noted (reads_of plan T unit)) formed edits live done.right.read
              ∙ touch T touched (reads_of plan T unit)
              ∙ (or_parts (list_any (is_touched T touched) (reads_of plan T unit)) (list_any (is_changed plan T U) (reads_of plan T unit))
              (sym (any_or (is_touched T touched) (is_changed plan T U) (reads_of plan T unit)) ∙ parts.1)).0

          kept : new.reads unit ≡ Some done.held
          kept = marks.reads unit ∙ ap (unless_touched T touched) done.is ∙ ap (λ b. cond b None (Some done.held)) untouched

          lets : list_any (differs new.lets (lets_of plan U)) (items done.held.lets) ≡ false
          lets = false_from_ne_true (list_any (differs new.lets (lets_of plan U)) (items done.held.lets)) (λ hit.
              let one = found_in nat_cmp_total nat_cmp-IsAntisymmetric (differs new.lets (lets_of plan U)) done.held.lets hit in
              false≢true (sym (each (variable one.item) (ap (λ (s : LetSet). contains s one.item) (sym done.right.read.lets) ∙ one.there))
              ∙ ap (λ (M : Lets). differs M (lets_of plan U) one.item) (sym own) ∙ one.passes))

      clean : is_run plan U new unit ≡ false → is_dirty plan T U touched unit ≡ false
      clean not_run =
          or_from (is_new T unit) (list_any (λ r. is_touched T touched r || is_changed plan T U r) (reads_of plan T unit)) (unit_old plan T unit was)
          (any_or (is_touched T touched) (is_changed plan T U) (reads_of plan T unit)
          ∙ or_from (list_any (is_touched T touched) (reads_of plan T unit)) (list_any (is_changed plan T U) (reads_of plan T unit))
          (sym (touch T touched (reads_of plan T unit)) ∙ left)
          (each_none (is_changed plan T U) (reads_of plan T unit) (each_of_set (λ r. is_changed plan T U r ≡ false) (reads_of plan T unit) each)))
        where
          some : (held : Recorded) × (unless_changed (differs new.lets (lets_of plan U)) (new.reads unit) ≡ Some held)
          some = some_kept (differs new.lets (lets_of plan U)) (new.reads unit) not_run

          same : Unchanged new.lets (lets_of plan U) (new.reads unit) some.0
          same = unchanged equal new.lets (lets_of plan U) (new.reads unit) some.0 some.1

          entry : Unmarked T touched (old.reads unit) some.0
          entry = unmarked T touched (old.reads unit) some.0 (sym (marks.reads unit) ∙ same.was)

          was : IsUnit plan T unit
          was = unit_before plan T U touched changed unit is (λ p n e.
              node_made plan T old fresh.keeps some.0 p n (subst (λ (u : ValidationUnit). old.reads u ≡ Some some.0) e entry.was))

          read : HeldAlike T some.0 (noted (reads_under plan T (lets_of plan T) unit))
          read =
              let done = fresh.done unit was in
              let here : done.held ≡ some.0 = (let e : Some done.held ≡ Some some.0 = sym done.is ∙ entry.was in (cc)) in
              subst (λ (h : Recorded). HeldAlike T h (noted (reads_under plan T (lets_of plan T) unit))) here
              (subst (λ (xs : List Read). HeldAlike T done.held (noted xs)) (sym (own_reads need order plan T sound unit)) done.right.read)

          agree : (slot : ℕ) → contains some.0.lets slot ≡ true → in_slot (lets_of plan T) slot ≡ in_slot (lets_of plan U) slot
          agree slot there = ap (λ (M : Lets). in_slot M slot) (sym own) ∙ same.same slot there

          before : LetsLive T (lets_of plan T) some.0.lets
          before = λ slot _. own_live need order plan T sound local (change T T nothing formed none) slot

          after : LetsLive U (lets_of plan T) some.0.lets
          after = lets_live_along U (lets_of plan T) (lets_of plan U) some.0.lets agree
              (λ slot _. own_live need order plan U sound local (change U U nothing changed.after.well_formed none) slot)

          left : holds_touched T touched (noted (reads_of plan T unit)) ≡ false
          left = subst (λ (xs : List Read). holds_touched T touched (noted xs) ≡ false) (own_reads need order plan T sound unit)
              (all_edits local change touches stay cells plan (lets_of plan T) (let e = order.count plan T in omega (arith, e)) unit typed some.0 T U touched formed edits was is before after
              read entry.untouched).untouched

          each : (r : Read) → has_read (noted (reads_of plan T unit)) r ≡ true → is_changed plan T U r ≡ false
          each (cell c) there = refl
          each (names_along axis n) there = refl
          each (variable slot) there =
              let held_there : contains some.0.lets slot ≡ true = ap (λ (s : LetSet). contains s slot)
              (read.lets ∙ ap (λ (xs : List Read). (noted xs).lets) (own_reads need order plan T sound unit)) ∙ there in
              not_from_true (same_outcome (in_slot (lets_of plan T) slot) (in_slot (lets_of plan U) slot))
              ((equal (in_slot (lets_of plan T) slot) (in_slot (lets_of plan U) slot)).1 (agree slot held_there))
