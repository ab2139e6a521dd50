use Rattle.std.proofs.Common.{◌≡◌, ◌⊎◌, inl, inr, refl, ap, List}
use Rattle.doc_tree.specs.Table.{Table}
use Rattle.xp_typed_tree.specs.WellTyped.{result_type}
use Rattle.xp_typed_tree.specs.declared.function.Function.{Function}
use Rattle.xp_typed_tree.specs.declared.function.Function.TheVariants as functions
use Rattle.xp_typed_tree.specs.declared.value_type.ValueType.TheVariants as types
use Rattle.xp_outcome.specs.Evaluation.{done}
use Rattle.xp_outcome.proofs.Runs.{ran_alike}
use Rattle.xp_meaning.proofs.Exits.{ran_done_at}
use Rattle.xp_values.specs.declared.values.Value.{Value}
use Rattle.xp_values.specs.declared.values.Value.TheVariants.{Number}
use Rattle.xp_meaning.specs.declared.context.Context.{Context}
use Rattle.xp_meaning.specs.Functions.{applied, number_at}
use Rattle.xp_calls.proofs.caller.Caller.number_given.Goals as goal

-- numbers are whole
kept_whole : (T : Table) (at : Context) (vs : List Value) (f : Function) → (f ≡ functions.Floor) ⊎ ((f ≡ functions.Ceiling) ⊎ (f ≡ functions.Round)) → applied T f at vs ≡ done (Number (number_at vs 0))
kept_whole T at vs f (inl is) = ap (λ g. applied T g at vs) is
kept_whole T at vs f (inr (inl is)) = ap (λ g. applied T g at vs) is
kept_whole T at vs f (inr (inr is)) = ap (λ g. applied T g at vs) is

-- the functions that give a number
no_other : (f : Function) → result_type f ≡ types.Number → ¬ (f ≡ functions.Last) → ¬ (f ≡ functions.Position) → ¬ (f ≡ functions.Count) → ¬ (f ≡ functions.Sum) → ¬ (f ≡ functions.Number) → ¬ (f ≡ functions.StringLength) → ¬ (f ≡ functions.Floor) → ¬ (f ≡ functions.Ceiling) → ¬ (f ≡ functions.Round) → ⊥
no_other functions.Last e other _ _ _ _ _ _ _ _ = other refl
no_other functions.Position e _ other _ _ _ _ _ _ _ = other refl
no_other functions.Count e _ _ other _ _ _ _ _ _ = other refl
no_other functions.Sum e _ _ _ other _ _ _ _ _ = other refl
no_other functions.Number e _ _ _ _ other _ _ _ _ = other refl
no_other functions.StringLength e _ _ _ _ _ other _ _ _ = other refl
no_other functions.Floor e _ _ _ _ _ _ other _ _ = other refl
no_other functions.Ceiling e _ _ _ _ _ _ _ other _ = other refl
no_other functions.Round e _ _ _ _ _ _ _ _ other = other refl
no_other _ e _ _ _ _ _ _ _ _ _ = cc

pub unreachable-requires : goal.unreachable-requires
unreachable-requires g c =
    let d = c.in_default in
    absurd (no_other c.args.function c.requires d.not-Last d.not-Position d.not-Count d.not-Sum d.not-Number d.not-StringLength d.not-Floor d.not-Ceiling d.not-Round)

pub returns-in-Last : goal.returns-in-Last
returns-in-Last g c = rw c.in-Last.is (ran_done_at _ _ _ c.counted.ensures)

pub returns-in-Position : goal.returns-in-Position
returns-in-Position g c = rw c.in-Position.is (ran_done_at _ _ _ c.counted-in-Position.ensures)

pub returns-in-Count : goal.returns-in-Count
returns-in-Count g c = rw c.in-Count.is (ran_done_at _ _ _ c.count.ensures)

pub returns-in-Sum : goal.returns-in-Sum
returns-in-Sum g c = rw c.in-Sum.is c.sum.ensures

pub returns-in-Number : goal.returns-in-Number
returns-in-Number g c = rw c.in-Number.is c.number.ensures

pub returns-in-StringLength : goal.returns-in-StringLength
returns-in-StringLength g c = rw c.in-StringLength.is c.length_of.ensures

pub returns-in-Floor : goal.returns-in-Floor
returns-in-Floor g c =
    ran_alike (kept_whole c.args.self.now.tree.now.nodes c.args.at.now c.args.args.now c.args.function c.in-Floor.is) (ran_done_at _ _ _ (ap Number c.number_at.ensures))
