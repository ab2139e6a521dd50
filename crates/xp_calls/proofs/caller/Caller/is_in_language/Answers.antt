use Rattle.std.proofs.Common.{ap, sym}
use Rattle.xp_outcome.proofs.Runs.{ran_alike, ran_bind, ran_done, ran_stop}
use Rattle.xp_meaning.specs.Functions.{as_truth}
use Rattle.xp_meaning.specs.Language.{in_language}
use Rattle.xp_calls.proofs.caller.Caller.is_in_language.Goals as goal

pub returns-in-Err : goal.returns-in-Err
returns-in-Err c = λ count.
    ran_alike (ap (λ w. as_truth (in_language c.args.self.now.tree.now.nodes c.args.at.now.node w)) (sym c.text_at.ensures))
    (ran_stop _ _ (c.in-Err.ensures count))

pub returns-in-Ok : goal.returns-in-Ok
returns-in-Ok c = λ count.
    ran_alike (ap (λ w. as_truth (in_language c.args.self.now.tree.now.nodes c.args.at.now.node w)) (sym c.text_at.ensures))
    (ran_bind _ (c.in-Ok.ensures count) (ran_done _ _ _))
