use Rattle.std.proofs.Common.{ap, sym}
use Rattle.xp_outcome.proofs.Runs.{ran_alike, ran_bind, ran_stop}
use Rattle.xp_meaning.proofs.Exits.{exit_same, ran_done_at}
use Rattle.xp_typed_tree.specs.declared.function.Function.TheVariants.{Name}
use Rattle.xp_meaning.specs.Functions.{applied, named_node}
use Rattle.sch_units.specs.Messages.{alone}
use Rattle.rule_run.proofs.Texts.{name_taken}
use Rattle.rule_run.proofs.validator.Validator.name_for.Goals as goal

pub returns-in_err-name : goal.returns-in_err-name
returns-in_err-name g c =
    exit_same _ _ c.from_residual.ensures.1
    (ran_alike (name_taken c.args.self.now.caller.tree.now.nodes (named_node (alone c.args.self.now.node) c.args.args.now))
    (ran_stop _ _ (ran_alike (ap (λ at. applied c.args.self.now.caller.tree.now.nodes Name at c.args.args.now) (sym c.alone-at.ensures)) c.in_err-name.ensures)))

pub returns : goal.returns
returns g c =
    ran_alike (name_taken c.args.self.now.caller.tree.now.nodes (named_node (alone c.args.self.now.node) c.args.args.now))
    (ran_bind _ (ran_alike (ap (λ at. applied c.args.self.now.caller.tree.now.nodes Name at c.args.args.now) (sym c.alone-at.ensures)) c.in_ok-name.ensures)
    (ran_done_at _ _ _ c.text_of.ensures))
