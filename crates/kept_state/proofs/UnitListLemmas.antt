-- The list of all units.
use Rattle.std.proofs.Common.{◌≡◌, ◌∙◌, ℕ, zero, suc, ◌+◌, ◌<◌, ◌≤◌, Bool, true, false, cond, is_none, List, [], ◌∷◌, ◌++◌, length, map, Option, None, Some, refl, sym, ap, subst, arith}
use Rattle.std.specs.Prelude.{filter}
use Rattle.std.specs.List.{flat_map, range_with_len, AllByRecursion as Each}
use Rattle.xp_outcome.specs.Recorded.{Recorded}
use Rattle.xp_meaning.specs.Evaluation.{Lets}
use Rattle.doc_tree.specs.Table.{Table, is_live}
use Rattle.sch_compiled.specs.declared.plan.Plan.{Plan}
use Rattle.sch_units.specs.Units.{lets_of}
use Rattle.sch_units.specs.Validity.{pattern_numbers}
use Rattle.edit_costs.specs.Dirty.{is_dirty}
use Rattle.edit_costs.specs.Units.{ValidationUnit, in_force, under, live_numbers, node_units, units_of}
use Rattle.kept_state.specs.Kept.{IsTyped, IsUnit, LetsPass}
use Rattle.kept_state.specs.Laws.{DirtyAreRun, DirtyUnitsAreRun, NothingKeeps}
use Rattle.kept_state.specs.Running.{is_run}
use Rattle.kept_state.specs.Steps.{differs, unless_changed}

-- Lists

each_range : (P : ℕ → Type 0) (from count : ℕ) → ((k : ℕ) → from ≤ k → k < from + count → P k) → Each P (range_with_len from count)
each_range P from zero each = tt
each_range P from (suc count) each =
    (each from (omega arith) (omega arith), each_range P (from + 1) count (λ k past below. each k (omega (arith, past)) (omega (arith, below))))

module _ {X : Type 0} where
  each_append : (P : X → Type 0) (xs ys : List X) → Each P xs → Each P ys → Each P (xs ++ ys)
  each_append P [] ys left right = right
  each_append P (x ∷ xs) ys left right = (left.0, each_append P xs ys left.1 right)

  each_map : {A : Type 0} (P : X → Type 0) (f : A → X) (xs : List A) → Each (λ a. P (f a)) xs → Each P (map f xs)
  each_map P f [] each = tt
  each_map P f (a ∷ xs) each = (each.0, each_map P f xs each.1)

  each_flat : {A : Type 0} (P : X → Type 0) (f : A → List X) (xs : List A) → Each (λ a. Each P (f a)) xs → Each P (flat_map f xs)
  each_flat P f [] each = tt
  each_flat P f (a ∷ xs) each = each_append P (f a) (flat_map f xs) each.0 (each_flat P f xs each.1)

  each_filter : (P : X → Type 0) (p : X → Bool) (xs : List X) → Each (λ x. p x ≡ true → P x) xs → Each P (filter p xs)
  each_filter P p [] each = tt
  each_filter P p (x ∷ xs) each = by (p x) refl (each_filter P p xs each.1)
    where
      by : (b : Bool) → p x ≡ b → Each P (filter p xs) → Each P (cond b (x ∷ filter p xs) (filter p xs))
      by true e rest = (each.0 e, rest)
      by false e rest = rest

  filter_same : (p q : X → Bool) (xs : List X) → Each (λ x. p x ≡ q x) xs → filter p xs ≡ filter q xs
  filter_same p q [] each = refl
  filter_same p q (x ∷ xs) each =
      ap (λ b. cond b (x ∷ filter p xs) (filter p xs)) each.0 ∙ ap (λ ys. cond (q x) (x ∷ ys) ys) (filter_same p q xs each.1)

  filter_all : (p : X → Bool) (xs : List X) → ((x : X) → p x ≡ true) → filter p xs ≡ xs
  filter_all p [] each = refl
  filter_all p (x ∷ xs) each = ap (λ b. cond b (x ∷ filter p xs) (filter p xs)) (each x) ∙ ap (λ ys. x ∷ ys) (filter_all p xs each)

-- Units

-- each of the units is one of the plan over the tree
each_unit : (plan : Plan) (T : Table) (P : ValidationUnit → Type 0) → ((unit : ValidationUnit) → IsUnit plan T unit → P unit) → Each P (units_of plan T)
each_unit plan T P each = each_append P (map in_force (range_with_len 0 (length plan.lets))) (flat_map (node_units T) (pattern_numbers plan))
    (each_map P in_force (range_with_len 0 (length plan.lets)) (each_range (λ slot. P (in_force slot)) 0 (length plan.lets) (λ slot _ below. each (in_force slot) (omega (arith, below)))))
    (each_flat P (node_units T) (pattern_numbers plan)
    (each_range (λ p. Each P (node_units T p)) 0 (length plan.patterns) (λ p _ below.
    each_map P (under p) (live_numbers T) (each_filter (λ n. P (under p n)) (is_live T) (range_with_len 0 (length T))
    (each_range (λ n. is_live T n ≡ true → P (under p n)) 0 (length T) (λ n _ _ live. each (under p n) (omega (arith, below), live)))))))

pub dirty_units_are_run : DirtyAreRun → DirtyUnitsAreRun
dirty_units_are_run dirty plan T U touched old new sound formed edits fresh marks typed =
    filter_same (is_run plan U new) (is_dirty plan T U touched) (units_of plan U)
    (each_unit plan U (λ unit. is_run plan U new unit ≡ is_dirty plan T U touched unit)
    (λ unit is. dirty plan T U touched old new sound formed edits fresh marks unit is (of_unit unit is)))
  where
    of_unit : (unit : ValidationUnit) → IsUnit plan U unit → IsTyped plan unit
    of_unit (in_force slot) is = tt
    of_unit (under p n) is = typed p is.0

pub nothing_keeps : NothingKeeps
nothing_keeps plan T kept no_lets none = (
  record {
    few = let e = ap length no_lets in omega (arith, e);
    made = λ slot. subst (λ (L : Lets). LetsPass (λ n. n < length T) L slot) (sym no_lets) (λ v is. absurd (cc));
    new = λ p n _. none (under p n);
    before = λ slot other held is there. absurd (no_reads (in_force slot) held is);
    stands = λ unit held _ _ is _. absurd (no_reads unit held is);
  },
  filter_all (is_run plan T kept) (units_of plan T) (λ unit. ap (λ (o : Option Recorded). is_none (unless_changed (differs kept.lets (lets_of plan T)) o)) (none unit)),
)
  where
    no_reads : (unit : ValidationUnit) (held : Recorded) → kept.reads unit ≡ Some held → ⊥
    no_reads unit held is = let e : None ≡ Some held = sym (none unit) ∙ is in cc
