use Rattle.std.proofs.Common.{◌∙◌, ap, refl, sym, option_copied}
use Rattle.xp_outcome.specs.Evaluation.{reading, variable}
use Rattle.xp_outcome.proofs.Runs.{ran_alike, ran_moved, ran_reading}
use Rattle.xp_meaning.proofs.Exits.{ran_done_at, ran_given}
use Rattle.xp_values.specs.declared.values.Value.TheVariants.{NodeSet}
use Rattle.xp_meaning.specs.Evaluation.{slot_value}
use Rattle.xp_eval.proofs.Views.{slot_given}
use Rattle.xp_eval.proofs.evaluator.Evaluator.variable.Goals as goal

pub returns-in-Some : goal.returns-in-Some
returns-in-Some c = λ count.
    ran_alike
    (ap (λ s. reading (variable c.args.slot) (slot_value s)) (sym c.get.ensures ∙ ap option_copied c.in-Some.is)
    ∙ ap (reading (variable c.args.slot)) (slot_given c.in-Some.held.now))
    (ran_reading (variable c.args.slot) (ran_moved refl c.in_ok-add_let.ensures.noted refl refl (ran_given _ _ _ _ c.held_in.ensures)))

pub returns-in-None : goal.returns-in-None
returns-in-None c = λ count.
    ran_alike (ap (λ s. reading (variable c.args.slot) (slot_value s)) (sym c.get.ensures ∙ ap option_copied c.in-None.is))
    (ran_reading (variable c.args.slot) (ran_moved refl c.in_ok-add_let.ensures.noted refl refl (ran_done_at _ _ _ (ap NodeSet c.new.ensures))))
