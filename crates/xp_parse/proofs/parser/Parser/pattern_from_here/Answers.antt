use Rattle.std.proofs.Common.{refl}
use Rattle.sch_base.specs.declared.limits.TheConstants.{MAX_NESTING}
use Rattle.xp_parse.proofs.Exits.{exits}
use Rattle.xp_grammar.specs.inner.PatternMachine.{want_path}
use Rattle.xp_parse.proofs.PlaceFails.{step_fails}
use Rattle.xp_parse.proofs.PathPatterns.{here_found}
use Rattle.xp_parse.proofs.parser.Parser.pattern_from_here.Goals as goal

pub returns-in_err-steps : goal.returns-in_err-steps
returns-in_err-steps c =
    exits _ _ _ c.in_err-steps.field-0.0 c.from_residual.ensures.1
    (step_fails MAX_NESTING want_path _ _ _ c.requires c.in_err-steps.ensures)

pub returns : goal.returns
returns c = here_found _ _ _ c.offset-offset.ensures refl c.in_ok-steps.ensures
