use Rattle.std.proofs.Common.{◌∙◌, ap, sym, option_copied}
use Rattle.xp_outcome.specs.Evaluation.{done}
use Rattle.xp_values.specs.declared.values.EvalFault.{EvalFault}
use Rattle.xp_outcome.proofs.Runs.{ran_alike}
use Rattle.xp_meaning.proofs.Exits.{ran_given}
use Rattle.xp_calls.proofs.FirstArgument.{text_first}
use Rattle.xp_calls.proofs.caller.Caller.text_or_own.Goals as goal

pub returns-in-Some : goal.returns-in-Some
returns-in-Some g c =
    ran_alike (text_first c.args.self.now.tree.now.nodes c.args.at.now c.args.args.now c.in-Some.value.now (sym c.first.ensures.value ∙ ap option_copied c.in-Some.is))
    (ran_alike (ap (λ s. done {F = EvalFault} s) (sym c.text_of.ensures)) (ran_given _ _ _ _ (c.allocated.ensures _ c.copy.ensures)))
