use Rattle.xp_grammar.specs.inner.PatternMachine.{behind_step}
use Rattle.xp_parse.specs.inner.PatternReading.{closed_step}
use Rattle.xp_parse.proofs.PathSteps.{steps_of_more}
use Rattle.xp_parse.proofs.parser.Parser.step_patterns.Goals as goal

pub returns : goal.returns
returns c =
    let r = c.in_ok-first.ensures in
    steps_of_more _ _ _ _ _ _ _ _ r c.new-found.ensures.items c.in_ok-push.ensures.items (c.more_step_patterns.ensures behind_step (closed_step _ r.closed))
