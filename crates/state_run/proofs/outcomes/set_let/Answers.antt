-- The let has its outcome in its slot.
use Rattle.std.proofs.Common.{◌∙◌}
use Rattle.std.proofs.lemmas.Result.{on_ok_weaker}
use Rattle.xp_outcome.specs.Recorded.{nothing_read}
use Rattle.edit_costs.proofs.RaisedLemmas.{spent_raised}
use Rattle.state_run.proofs.LetLemmas.{let_raised, let_set}
use Rattle.state_run.proofs.outcomes.set_let.Goals as goal

pub returns-clause-lets : goal.returns-clause-lets
returns-clause-lets g c =
    on_ok_weaker c.set.result
    (λ set. set
    ∙ let_set c.lets_stand_in_order.ensures c.args.run.now.plan.now c.args.run.now.caller.tree.now.nodes c.args.slot c.requires.in_force
    c.args.lets.now c.requires.before c.in_ok-kept.kept.value nothing_read c.in_ok-kept.kept.reads c.args.steps.now c.run_let.new.steps
    c.in_ok-kept.ensures.ran)
    c.set.ensures.set

pub returns-clause-raised : goal.returns-clause-raised
returns-clause-raised g c =
    on_ok_weaker c.set.result
    (λ set. let_raised c.lets_stand_in_order.ensures c.args.run.now.plan.now c.args.run.now.caller.tree.now.nodes c.args.slot c.requires.in_force
    c.args.lets.now c.requires.before c.in_ok-kept.kept.value nothing_read c.in_ok-kept.kept.reads c.args.steps.now c.run_let.new.steps
    c.in_ok-kept.ensures.counted c.in_ok-kept.ensures.ran)
    c.set.ensures.set

pub returns-clause-spent : goal.returns-clause-spent
returns-clause-spent g c =
    spent_raised c.args.run.now.plan.now c.args.run.now.caller.tree.now.nodes _ c.args.steps.now c.run_let.new.steps
    (let_raised c.lets_stand_in_order.ensures c.args.run.now.plan.now c.args.run.now.caller.tree.now.nodes c.args.slot c.requires.in_force
    c.args.lets.now c.requires.before c.in_ok-kept.kept.value nothing_read c.in_ok-kept.kept.reads c.args.steps.now c.run_let.new.steps
    c.in_ok-kept.ensures.counted c.in_ok-kept.ensures.ran)
