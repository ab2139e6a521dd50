use Rattle.xp_eval.proofs.OwnNode.{own_path}
use Rattle.xp_eval.proofs.own_node.is_lone_self.Goals as goal

pub returns-in-Some : goal.returns-in-Some
returns-in-Some c = λ own T L current n cells live.
    own_path T L cells n live current c.in-Some.step.now c.args.steps.now c.in-Some.ensures (c.is_self.ensures own T L)
