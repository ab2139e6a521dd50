-- The place, then the texts one after another.
use Rattle.std.proofs.Common.{ap, sym}
use Rattle.xp_outcome.proofs.Runs.{ran_alike, ran_bind, ran_done, ran_stop}
use Rattle.xp_meaning.proofs.Exits.{exit_same}
use Rattle.sch_units.specs.Firing.{placed_at}
use Rattle.sch_units.specs.Messages.{diagnostic_texts, message}
use Rattle.rule_run.proofs.validator.Validator.found.Goals as goal

pub returns-in_err-place : goal.returns-in_err-place
returns-in_err-place g c =
    exit_same _ _ c.from_residual.ensures.1
    (ran_stop _ _ (ran_alike (ap (placed_at c.args.self.now.caller.tree.now.nodes c.args.lets.now c.args.self.now.node) (sym c.own_or-own.ensures)) c.in_err-place.ensures))

pub returns-in_err-diagnostics : goal.returns-in_err-diagnostics
returns-in_err-diagnostics g c =
    exit_same _ _ c.from_residual-in_err-diagnostics.ensures.1
    (ran_bind _ (ran_alike (ap (placed_at c.args.self.now.caller.tree.now.nodes c.args.lets.now c.args.self.now.node) (sym c.own_or-own.ensures)) c.in_ok-place.ensures)
    (ran_stop _ _ (ran_alike (ap (diagnostic_texts c.args.self.now.caller.tree.now.nodes c.args.lets.now c.args.self.now.node) (sym c.as_slice-named.ensures)) c.in_err-diagnostics.ensures)))

pub returns-in_err-properties : goal.returns-in_err-properties
returns-in_err-properties g c =
    exit_same _ _ c.from_residual-in_err-properties.ensures.1
    (ran_bind _ (ran_alike (ap (placed_at c.args.self.now.caller.tree.now.nodes c.args.lets.now c.args.self.now.node) (sym c.own_or-own.ensures)) c.in_ok-place.ensures)
    (ran_bind _ (ran_alike (ap (diagnostic_texts c.args.self.now.caller.tree.now.nodes c.args.lets.now c.args.self.now.node) (sym c.as_slice-named.ensures)) c.in_ok-diagnostics.ensures)
    (ran_stop _ _ (ran_alike (ap (diagnostic_texts c.args.self.now.caller.tree.now.nodes c.args.lets.now c.args.self.now.node) (sym c.as_slice-named-2.ensures)) c.in_err-properties.ensures))))

pub returns-in_err-message : goal.returns-in_err-message
returns-in_err-message g c =
    exit_same _ _ c.from_residual-in_err-message.ensures.1
    (ran_bind _ (ran_alike (ap (placed_at c.args.self.now.caller.tree.now.nodes c.args.lets.now c.args.self.now.node) (sym c.own_or-own.ensures)) c.in_ok-place.ensures)
    (ran_bind _ (ran_alike (ap (diagnostic_texts c.args.self.now.caller.tree.now.nodes c.args.lets.now c.args.self.now.node) (sym c.as_slice-named.ensures)) c.in_ok-diagnostics.ensures)
    (ran_bind _ (ran_alike (ap (diagnostic_texts c.args.self.now.caller.tree.now.nodes c.args.lets.now c.args.self.now.node) (sym c.as_slice-named-2.ensures)) c.in_ok-properties.ensures)
    (ran_stop _ _ (ran_alike (ap (message c.args.self.now.caller.tree.now.nodes c.args.lets.now c.args.self.now.node) (sym c.as_slice.ensures)) c.in_err-message.ensures)))))

pub returns : goal.returns
returns g c =
    ran_bind _ (ran_alike (ap (placed_at c.args.self.now.caller.tree.now.nodes c.args.lets.now c.args.self.now.node) (sym c.own_or-own.ensures)) c.in_ok-place.ensures)
    (ran_bind _ (ran_alike (ap (diagnostic_texts c.args.self.now.caller.tree.now.nodes c.args.lets.now c.args.self.now.node) (sym c.as_slice-named.ensures)) c.in_ok-diagnostics.ensures)
    (ran_bind _ (ran_alike (ap (diagnostic_texts c.args.self.now.caller.tree.now.nodes c.args.lets.now c.args.self.now.node) (sym c.as_slice-named-2.ensures)) c.in_ok-properties.ensures)
    (ran_bind _ (ran_alike (ap (message c.args.self.now.caller.tree.now.nodes c.args.lets.now c.args.self.now.node) (sym c.as_slice.ensures)) c.in_ok-message.ensures)
    (ran_done _ _ _))))
