use Rattle.std.proofs.Common.{refl, sym, ◌∙◌}
use Rattle.xp_parse.proofs.Exits.{exits}
use Rattle.xp_parse.proofs.Failing.{took_of}
use Rattle.xp_parse.proofs.PathPatterns.{root_found, root_fails, root_steps_found}
use Rattle.xp_parse.proofs.parser.Parser.pattern_from_root.Goals as goal

pub returns-then-not-at_step : goal.returns-then-not-at_step
returns-then-not-at_step c =
    let f = c.requires in
    root_found _ _ _ (took_of _ _ _ f (c.advance.ensures f.placed f.rest f.is)) (sym c.at_step.ensures ∙ c.if-not-at_step.true) c.offset-offset.ensures refl c.new.ensures.items

pub returns-in_err-steps : goal.returns-in_err-steps
returns-in_err-steps c =
    let f = c.requires in
    exits _ _ _ c.in_err-steps.field-0.0 c.from_residual.ensures.1
    (root_fails _ _ _ _ (took_of _ _ _ f (c.advance.ensures f.placed f.rest f.is)) (sym c.at_step.ensures ∙ c.if-not-at_step.false) c.in_err-steps.ensures)

pub returns : goal.returns
returns c =
    let f = c.requires in
    root_steps_found _ _ _ _ (took_of _ _ _ f (c.advance.ensures f.placed f.rest f.is)) c.offset-offset.ensures refl c.in_ok-steps.ensures
