use Rattle.std.proofs.Common.{◌∙◌, Ok, ap, sym, subst}
use Rattle.xp_values.specs.declared.values.Value.{Value}
use Rattle.xp_values.specs.declared.values.Value.TheVariants.{NodeSet}
use Rattle.xp_values.specs.Outcomes.{Gives}
use Rattle.xp_eval.proofs.Handing.{gives_as}
use Rattle.xp_eval.proofs.variables.copy_value.Goals as goal

pub returns-in-NodeSet : goal.returns-in-NodeSet
returns-in-NodeSet c =
    subst (λ (v : Value). Gives c.set_value.result (Ok v)) (ap NodeSet c.as_slice.ensures ∙ sym c.in-NodeSet.is)
    (gives_as NodeSet c.allocated.result c.as_slice.result.now c.set_value.ensures (c.allocated.ensures _ c.copy_of.ensures))
