use Rattle.std.proofs.Common.{◌≡◌, refl, ap, not}
use Rattle.xp_typed_tree.specs.WellTyped.{result_type}
use Rattle.xp_typed_tree.specs.declared.function.Function.{Function}
use Rattle.xp_typed_tree.specs.declared.function.Function.TheVariants as functions
use Rattle.xp_typed_tree.specs.declared.value_type.ValueType.TheVariants as types
use Rattle.xp_outcome.proofs.Runs.{ran_done}
use Rattle.xp_meaning.proofs.Exits.{ran_done_at}
use Rattle.xp_values.specs.declared.values.Value.TheVariants.{Truth}
use Rattle.xp_calls.proofs.caller.Caller.truth_given.Goals as goal

-- the functions that give a boolean
no_other : (f : Function) → result_type f ≡ types.Truth → ¬ (f ≡ functions.Boolean) → ¬ (f ≡ functions.Not) → ¬ (f ≡ functions.True) → ¬ (f ≡ functions.False) → ¬ (f ≡ functions.StartsWith) → ¬ (f ≡ functions.Contains) → ¬ (f ≡ functions.Lang) → ⊥
no_other functions.Boolean e other _ _ _ _ _ _ = other refl
no_other functions.Not e _ other _ _ _ _ _ = other refl
no_other functions.True e _ _ other _ _ _ _ = other refl
no_other functions.False e _ _ _ other _ _ _ = other refl
no_other functions.StartsWith e _ _ _ _ other _ _ = other refl
no_other functions.Contains e _ _ _ _ _ other _ = other refl
no_other functions.Lang e _ _ _ _ _ _ other = other refl
no_other _ e _ _ _ _ _ _ _ = cc

pub unreachable-requires : goal.unreachable-requires
unreachable-requires c =
    let d = c.in_default in
    absurd (no_other c.args.function c.requires d.not-Boolean d.not-Not d.not-True d.not-False d.not-StartsWith d.not-Contains d.not-Lang)

pub returns-in-Boolean : goal.returns-in-Boolean
returns-in-Boolean c = λ count. rw c.in-Boolean.is (ran_done_at _ _ _ (ap Truth c.truth_at.ensures))

pub returns-in-Not : goal.returns-in-Not
returns-in-Not c = λ count. rw c.in-Not.is (ran_done_at _ _ _ (ap (λ b. Truth (not b)) c.truth_at-in-Not.ensures))

pub returns-in-True : goal.returns-in-True
returns-in-True c = λ count. rw c.in-True.is (ran_done _ _ _)

pub returns-in-False : goal.returns-in-False
returns-in-False c = λ count. rw c.in-False.is (ran_done _ _ _)

pub returns-in-StartsWith : goal.returns-in-StartsWith
returns-in-StartsWith c = λ count. rw c.in-StartsWith.is (ran_done_at _ _ _ c.starts_with.ensures)

pub returns-in-Contains : goal.returns-in-Contains
returns-in-Contains c = λ count. rw c.in-Contains.is (ran_done_at _ _ _ c.contains.ensures)

pub returns-in-Lang : goal.returns-in-Lang
returns-in-Lang c = λ count. rw c.in-Lang.is (c.is_in_language.ensures count)
