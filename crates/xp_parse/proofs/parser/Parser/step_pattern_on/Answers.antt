use Rattle.std.proofs.Common.{sym}
use Rattle.xp_parse.proofs.Exits.{exits}
use Rattle.xp_parse.proofs.Failing.{took_of}
use Rattle.xp_parse.proofs.PathSteps.{axis_refused, axis_no_colons, axis_step}
use Rattle.xp_parse.proofs.parser.Parser.step_pattern_on.Goals as goal

pub returns-in_default : goal.returns-in_default
returns-in_default c = axis_refused _ _ c.requires c.in_default.ensures

pub returns-in_err-take : goal.returns-in_err-take
returns-in_err-take c =
    let f = c.requires in
    exits _ _ _ c.in_err-take.field-0.0 c.from_residual.ensures.1
    (axis_no_colons _ _ _ _ _ _ (took_of _ _ _ f (c.advance.ensures f.placed f.rest f.is)) (sym c.in-Some.ensures) c.in_err-take.ensures)

pub returns : goal.returns
returns c =
    let f = c.requires in
    axis_step _ _ _ _ _ _ _ _ _ (took_of _ _ _ f (c.advance.ensures f.placed f.rest f.is)) (sym c.in-Some.ensures) c.in_ok-take.ensures c.offset-offset.ensures c.tested_step_pattern.ensures
