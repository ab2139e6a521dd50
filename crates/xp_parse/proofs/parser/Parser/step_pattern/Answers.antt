use Rattle.sch_base.specs.declared.limits.TheConstants.{MAX_NESTING}
use Rattle.xp_parse.proofs.Failing.{took_of, first_same}
use Rattle.xp_parse.proofs.PlaceFails.{end_at}
use Rattle.xp_parse.proofs.PathSteps.{at_step, child_step}
use Rattle.xp_parse.proofs.parser.Parser.step_pattern.Goals as goal

pub returns-in_default : goal.returns-in_default
returns-in_default c = end_at MAX_NESTING _ _ c.in_default.ensures tt

pub returns-in-At : goal.returns-in-At
returns-in-At c =
    let f = first_same _ _ _ c.in-At.is c.in-Some.ensures in
    at_step _ _ _ _ _ _ (took_of _ _ _ f (c.advance.ensures f.placed f.rest f.is)) c.offset-offset.ensures c.tested_step_pattern.ensures

pub returns-in_default-first : goal.returns-in_default-first
returns-in_default-first c =
    child_step _ _ _ _ c.in-Some.first.now _ c.in-Some.ensures c.in_default-first.not-At c.in_default-first.not-Axis c.offset-offset-in_default-first.ensures c.tested_step_pattern-in_default-first.ensures
