-- How far a refresh has come: which lets are those of the tree, and which units are to be run.
use Rattle.std.proofs.Common.{◌≡◌, ◌≢◌, ◌∙◌, ℕ, ◌<◌, ◌≤◌, ◌⊎◌, Bool, true, false, cond, not, is_none, ◌||◌, List, [], ◌∷◌, length, Option, None, Some, refl, sym, ap, inl, inr, ⊎_elim, arith}
use Rattle.std.specs.Cmp.{nat_cmp_total}
use Rattle.std.specs.FinMap.{nat_cmp-IsAntisymmetric}
use Rattle.std.specs.FinSet.{contains, items}
use Rattle.std.specs.List.{list_any}
use Rattle.std.proofs.lemmas.Bool.{cases_Bool, cases_eq, cases_lt, false_from_ne_true, false≢true, not_from_true}
use Rattle.doc_tree.specs.Table.{Table}
use Rattle.xp_outcome.specs.Recorded.{Recorded}
use Rattle.xp_outcome.specs.Slots.{in_slot}
use Rattle.xp_meaning.specs.Evaluation.{Lets}
use Rattle.sch_compiled.specs.declared.plan.Plan.{Plan}
use Rattle.sch_units.specs.Laws.{LetsStandInOrder}
use Rattle.sch_units.specs.Units.{lets_of}
use Rattle.edit_costs.specs.Laws.{SameOutcomesAreEqual}
use Rattle.edit_costs.specs.SameOutcome.{same_outcome}
use Rattle.edit_costs.specs.Units.{ValidationUnit, in_force, under}
use Rattle.kept_state.specs.Kept.{IsUnit, Kept}
use Rattle.kept_state.specs.Refreshing.{ComesBefore, Reached}
use Rattle.kept_state.specs.Running.{GoesOn, IsDone, is_run, is_stale}
use Rattle.kept_state.specs.Steps.{StaysAs, differs, unless_changed}
use Rattle.kept_state.proofs.LetLemmas.{unchanged}
use Rattle.kept_state.proofs.RightLemmas.{no_let}
use Rattle.xp_outcome.proofs.SetTests.{any_or, found_in, held_in, same_test}

-- Units in order

pub cases_before : (unit at : ValidationUnit) → ComesBefore unit at ⊎ (ComesBefore unit at → ⊥)
cases_before (in_force slot) (in_force l) =
    ⊎_elim (λ (below : slot < l). inl below) (λ (past : l ≤ slot). inr (λ below. omega (arith, below, past))) (cases_lt slot l)
cases_before (in_force slot) (under p n) = inl tt
cases_before (under q m) (in_force l) = inr (λ is. is)
cases_before (under q m) (under p n) =
    ⊎_elim (λ (below : q < p). inl (inl below))
    (λ (past : p ≤ q).
    ⊎_elim (λ (same : q ≡ p).
    ⊎_elim (λ (less : m < n). inl (inr (same, less)))
    (λ (more : n ≤ m). inr (λ is. ⊎_elim (λ (below : q < p). omega (arith, below, past)) (λ (both : (q ≡ p) × (m < n)). omega (arith, both.1, more)) is)) (cases_lt m n))
    (λ (differ : q ≢ p). inr (λ is. ⊎_elim (λ (below : q < p). omega (arith, below, past)) (λ (both : (q ≡ p) × (m < n)). differ both.0) is)) (cases_eq q p))
    (cases_lt q p)

-- What is kept once lets have changed

-- lets that changed for one reason and then for another changed for one of both
pub unless_both : (p q : ℕ → Bool) (entry : Option Recorded) → unless_changed q (unless_changed p entry) ≡ unless_changed (λ slot. p slot || q slot) entry
unless_both p q None = refl
unless_both p q (Some held) =
    by (list_any p (items held.lets)) refl ∙ ap (λ b. cond b None (Some held)) (sym (any_or p q (items held.lets)))
  where
    by : (b : Bool) → list_any p (items held.lets) ≡ b →
        unless_changed q (cond b None (Some held)) ≡ cond (b || list_any q (items held.lets)) None (Some held)
    by true e = refl
    by false e = refl

-- two tests that are the same of the lets that were read
pub unless_same : (p q : ℕ → Bool) (entry : Option Recorded) → ((held : Recorded) → entry ≡ Some held → (slot : ℕ) → contains held.lets slot ≡ true → p slot ≡ q slot) →
    unless_changed p entry ≡ unless_changed q entry
unless_same p q None same = refl
unless_same p q (Some held) same = ap (λ b. cond b None (Some held)) (same_test (list_any p (items held.lets)) (list_any q (items held.lets))
    (λ hit. let one = found_in nat_cmp_total nat_cmp-IsAntisymmetric p held.lets hit in
    held_in nat_cmp_total nat_cmp-IsAntisymmetric q held.lets one.item one.there (sym (same held refl one.item one.there) ∙ one.passes))
    (λ hit. let one = found_in nat_cmp_total nat_cmp-IsAntisymmetric q held.lets hit in
    held_in nat_cmp_total nat_cmp-IsAntisymmetric p held.lets one.item one.there (same held refl one.item one.there ∙ one.passes)))

none_changed : (xs : List ℕ) → list_any (λ slot. false) xs ≡ false
none_changed [] = refl
none_changed (x ∷ xs) = none_changed xs

pub unless_none : (p : ℕ → Bool) (entry : Option Recorded) → ((held : Recorded) → entry ≡ Some held → (slot : ℕ) → contains held.lets slot ≡ true → p slot ≡ false) →
    unless_changed p entry ≡ entry
unless_none p entry none = unless_same p (λ slot. false) entry none ∙ by entry
  where
    by : (entry : Option Recorded) → unless_changed (λ slot. false) entry ≡ entry
    by None = refl
    by (Some held) = ap (λ b. cond b None (Some held)) (none_changed (items held.lets))

-- what is kept though lets differ from others is kept where they differ from no more
pub still_kept : (L N M : Lets) (entry : Option Recorded) → ((slot : ℕ) → differs L N slot ≡ false → differs L M slot ≡ false) →
    is_none (unless_changed (differs L N) entry) ≡ false → unless_changed (differs L M) entry ≡ entry
still_kept L N M None fewer some = refl
still_kept L N M (Some held) fewer some = by (list_any (differs L N) (items held.lets)) refl some
  where
    by : (b : Bool) → list_any (differs L N) (items held.lets) ≡ b → is_none (cond b None (Some held)) ≡ false → unless_changed (differs L M) (Some held) ≡ Some held
    by true e some = absurd (false≢true (sym some))
    by false e some = unless_none (differs L M) (Some held) (λ other is slot there.
        let same : held ≡ other = cc in
        fewer slot (false_from_ne_true (differs L N slot) (λ hit.
        false≢true (sym e ∙ held_in nat_cmp_total nat_cmp-IsAntisymmetric (differs L N) held.lets slot (ap (λ (r : Recorded). contains r.lets slot) same ∙ there) hit))))

module _ (equal : SameOutcomesAreEqual) where
  -- an outcome that is the same doesn't differ
  pub same_differ : (L M : Lets) (slot : ℕ) → in_slot L slot ≡ in_slot M slot → differs L M slot ≡ false
  same_differ L M slot same = not_from_true (same_outcome (in_slot L slot) (in_slot M slot)) ((equal (in_slot L slot) (in_slot M slot)).1 same)

  -- what is kept though lets have changed was kept before
  pub kept_before : (L M : Lets) (entry now : Option Recorded) → now ≡ unless_changed (differs L M) entry → is_none now ≡ false → now ≡ entry
  kept_before L M entry None is some = absurd (false≢true (sym some))
  kept_before L M entry (Some held) is some = sym (unchanged equal L M entry held (sym is)).was

  module _ (order : LetsStandInOrder) (plan : Plan) (T : Table) (at : ValidationUnit) (old now : Kept) (reached : Reached plan T at old now) where
    -- a let that comes before is that of the tree
    pub let_here : (slot : ℕ) → ComesBefore (in_force slot) at → in_slot now.lets slot ≡ in_slot (lets_of plan T) slot
    let_here slot before =
        ⊎_elim (λ (below : slot < length plan.lets). (reached.done (in_force slot) below before).right.gives)
        (λ (past : length plan.lets ≤ slot). no_let now.lets slot (omega (arith, past, reached.keeps.few))
        ∙ sym (no_let (lets_of plan T) slot (let e = order.count plan T in omega (arith, e, past)))) (cases_lt slot (length plan.lets))

    -- a let that has changed has another outcome than that of the tree
    pub differs_here : (slot : ℕ) → differs old.lets (lets_of plan T) slot ≡ false → differs old.lets now.lets slot ≡ false
    differs_here slot same =
        ⊎_elim (λ (before : ComesBefore (in_force slot) at). ap (λ o. not (same_outcome (in_slot old.lets slot) o)) (let_here slot before) ∙ same)
        (λ (ahead : ComesBefore (in_force slot) at → ⊥). same_differ old.lets now.lets slot (sym (reached.given (in_force slot) ahead))) (cases_before (in_force slot) at)

    -- of a unit that is not to be run all is as it was
    pub not_run_stays : (unit : ValidationUnit) → IsUnit plan T unit → is_run plan T old unit ≡ false → StaysAs old now unit
    not_run_stays unit is not_run =
        ⊎_elim (λ (before : ComesBefore unit at). reached.stays unit is before not_run)
        (λ (ahead : ComesBefore unit at → ⊥). record { given = reached.given unit ahead; reads = reached.reads unit ahead ∙ still_kept old.lets (lets_of plan T) now.lets (old.reads unit) differs_here not_run })
        (cases_before unit at)

    -- a unit that is come to and isn't stale is as it was
    pub not_stale_stays : (unit : ValidationUnit) → (ComesBefore unit at → ⊥) → is_stale now unit ≡ false → StaysAs old now unit
    not_stale_stays unit ahead not_stale = record {
      given = reached.given unit ahead;
      reads = kept_before old.lets now.lets (old.reads unit) (now.reads unit) (reached.reads unit ahead) not_stale;
    }

    -- a unit that is come to is to be run exactly where it is stale, if the lets come before that it read
    pub told : (unit : ValidationUnit) → (ComesBefore unit at → ⊥) →
        ((held : Recorded) → old.reads unit ≡ Some held → (slot : ℕ) → contains held.lets slot ≡ true → ComesBefore (in_force slot) at) →
        is_run plan T old unit ≡ is_stale now unit
    told unit ahead before = ap is_none (unless_same (differs old.lets (lets_of plan T)) (differs old.lets now.lets) (old.reads unit)
        (λ held is slot there. ap (λ o. not (same_outcome (in_slot old.lets slot) o)) (sym (let_here slot (before held is slot there))))
        ∙ sym (reached.reads unit ahead))

    -- wherever a refresh stops, the units that were to be run are done, or stale, or as they were
    pub stops_at : GoesOn plan T old now
    stops_at = record { keeps = reached.keeps; some = some; others = not_run_stays }
      where
        some : (unit : ValidationUnit) → IsUnit plan T unit → is_run plan T old unit ≡ true → IsDone plan T now unit ⊎ ((is_stale now unit ≡ true) ⊎ StaysAs old now unit)
        some unit is run =
            ⊎_elim (λ (before : ComesBefore unit at). inl (reached.done unit is before))
            (λ (ahead : ComesBefore unit at → ⊥).
            ⊎_elim (λ (stale : is_stale now unit ≡ true). inr (inl stale)) (λ (not_stale : is_stale now unit ≡ false). inr (inr (not_stale_stays unit ahead not_stale)))
            (cases_Bool (is_stale now unit)))
            (cases_before unit at)
