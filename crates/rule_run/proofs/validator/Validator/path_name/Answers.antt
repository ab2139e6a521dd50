use Rattle.std.proofs.Common.{ap, sym}
use Rattle.xp_outcome.proofs.Runs.{ran_alike, ran_bind, ran_stop}
use Rattle.xp_meaning.proofs.Exits.{exit_same}
use Rattle.xp_meaning.specs.Functions.{named_node}
use Rattle.sch_units.specs.Messages.{alone, written_name}
use Rattle.rule_run.proofs.validator.Validator.path_name.Goals as goal

pub returns-in_err-value : goal.returns-in_err-value
returns-in_err-value g c = exit_same _ _ c.from_residual.ensures.1 (ran_stop _ _ c.in_err-value.ensures)

pub returns : goal.returns
returns g c =
    ran_bind _ c.in_ok-value.ensures
    (ran_alike
    (ap (λ vs. written_name c.args.self.now.caller.tree.now.nodes (named_node (alone c.args.self.now.node) vs)) (sym c.from_ref.ensures.value))
    c.name_for-name.ensures)
