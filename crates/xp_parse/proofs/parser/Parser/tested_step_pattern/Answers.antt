use Rattle.xp_parse.proofs.Exits.{exits}
use Rattle.xp_parse.proofs.PathSteps.{test_fails, behind_test_fails}
use Rattle.xp_parse.proofs.parser.Parser.tested_step_pattern.Goals as goal

pub returns-in_err-test : goal.returns-in_err-test
returns-in_err-test c = exits _ _ _ c.in_err-test.field-0.0 c.from_residual.ensures.1 (test_fails _ _ _ c.in_err-test.ensures)

pub returns-in-Err : goal.returns-in-Err
returns-in-Err c = behind_test_fails _ _ _ _ _ c.in_ok-test.ensures.tests c.in-Err.ensures
