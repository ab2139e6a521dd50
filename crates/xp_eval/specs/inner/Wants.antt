-- What operands are converted to.
use Rattle.std.specs.Prelude.{ℕ, List, [], ◌∷◌, Option, None, Some}
use Rattle.xp_typed_tree.specs.declared.function.Function.{Function}
use Rattle.xp_meaning.specs.declared.want.Want.{Want}
use Rattle.xp_meaning.specs.declared.want.Want.TheVariants.{AsItIs}
use Rattle.xp_outcome.specs.Evaluation.{Evaluation, done, bind, visit, reading, variable}
use Rattle.xp_outcome.specs.Slots.{in_slot}
use Rattle.xp_values.specs.declared.values.Value.{Value}
use Rattle.xp_values.specs.declared.values.EvalFault.{EvalFault}
use Rattle.xp_meaning.specs.Functions.{wanted}
use Rattle.xp_meaning.specs.Evaluation.{Lets, slot_value}

-- the arguments of a function are converted as it wants them, the operands of a union stay as they are
abbrev pub wanted_by : Option Function → ℕ → Want
wanted_by None i = AsItIs
wanted_by (Some f) i = wanted f i

-- the arguments of a function whose lone argument is a variable that stays as it is
abbrev pub lone_let : Lets → ℕ → Evaluation EvalFault (List Value)
lone_let L place = visit (reading (variable place) (bind (slot_value (in_slot L place)) (λ v. done (v ∷ []))))
