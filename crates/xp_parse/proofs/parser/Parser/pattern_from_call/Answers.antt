use Rattle.xp_grammar.specs.inner.PatternMachine.{behind_call}
use Rattle.xp_parse.specs.inner.PatternReading.{closed_call}
use Rattle.xp_parse.proofs.PathPatterns.{call_fails, call_path_found}
use Rattle.xp_parse.proofs.parser.Parser.pattern_from_call.Goals as goal

pub returns-in-Ok : goal.returns-in-Ok
returns-in-Ok c = call_path_found _ _ _ _ _ c.in_ok-start.ensures c.offset-offset.ensures c.new.ensures.items (c.in-Ok.ensures behind_call (closed_call _))

pub returns-in-Err : goal.returns-in-Err
returns-in-Err c = call_fails _ _ _ _ _ c.in_ok-start.ensures (c.in-Err.ensures behind_call (closed_call _))
