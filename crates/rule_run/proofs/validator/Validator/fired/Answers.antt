use Rattle.std.proofs.Common.{ap, sym, subst, length, ◌<◌, ◌^◌, ◌+◌}
use Rattle.xp_outcome.specs.Evaluation.{bind, done}
use Rattle.xp_outcome.proofs.Runs.{ran_alike, ran_bind, ran_done, ran_stop, onto_end}
use Rattle.xp_meaning.proofs.Exits.{exit_same}
use Rattle.sch_compiled.specs.declared.findings.Outcome.TheVariants.{Fired}
use Rattle.sch_units.specs.Firing.{all_asserted, fired_by}
use Rattle.rule_run.proofs.validator.Validator.fired.Goals as goal

pub set_lets-requires : goal.set_lets-requires
set_lets-requires g c = subst (λ ts. c.args.self.now.count + length ts < 2 ^ 32) (sym c.as_slice.ensures) c.requires.slots_few

pub all_asserted-requires : goal.all_asserted-requires
all_asserted-requires g c = subst (λ xs. length xs < 2 ^ 32) (sym c.as_slice-assertions.ensures) c.requires.asserts_few

pub returns-in_err-set_lets-clause-ran : goal.returns-in_err-set_lets-clause-ran
returns-in_err-set_lets-clause-ran g c =
    let T = c.args.self.now.caller.tree.now.nodes in
    exit_same _ _ c.from_residual.ensures.1
    (ran_alike (ap (λ ts. bind (fired_by T c.args.lets.now c.args.self.now.node c.args.self.now.count c.args.rule.now.subject ts c.args.rule.now.assertions) (λ findings. done (Fired c.args.r findings))) (sym c.as_slice.ensures))
    (ran_stop _ _ (c.in_err-set_lets.ensures.ran c.args.rule.now.subject c.args.rule.now.assertions)))

pub returns-in_err-findings-clause-ran : goal.returns-in_err-findings-clause-ran
returns-in_err-findings-clause-ran g c =
    let T = c.args.self.now.caller.tree.now.nodes in
    exit_same _ _ c.from_residual-in_err-findings.ensures.1
    (ran_alike (ap (λ ts. bind (fired_by T c.args.lets.now c.args.self.now.node c.args.self.now.count c.args.rule.now.subject ts c.args.rule.now.assertions) (λ findings. done (Fired c.args.r findings))) (sym c.as_slice.ensures))
    (ran_stop _ _ (onto_end (c.in_ok-set_lets.ensures.ran c.args.rule.now.subject c.args.rule.now.assertions)
    (ran_alike (ap (all_asserted T c.set_lets.new.lets c.args.self.now.node c.args.rule.now.subject) (sym c.as_slice-assertions.ensures)) c.in_err-findings.ensures))))

pub returns-clause-ran : goal.returns-clause-ran
returns-clause-ran g c =
    let T = c.args.self.now.caller.tree.now.nodes in
    ran_alike (ap (λ ts. bind (fired_by T c.args.lets.now c.args.self.now.node c.args.self.now.count c.args.rule.now.subject ts c.args.rule.now.assertions) (λ findings. done (Fired c.args.r findings))) (sym c.as_slice.ensures))
    (ran_bind _ (onto_end (c.in_ok-set_lets.ensures.ran c.args.rule.now.subject c.args.rule.now.assertions)
    (ran_alike (ap (all_asserted T c.set_lets.new.lets c.args.self.now.node c.args.rule.now.subject) (sym c.as_slice-assertions.ensures)) c.in_ok-findings.ensures))
    (ran_done _ _ _))
