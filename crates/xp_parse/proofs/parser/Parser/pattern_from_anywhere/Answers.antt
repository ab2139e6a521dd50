use Rattle.std.proofs.Common.{refl}
use Rattle.xp_parse.proofs.Exits.{exits}
use Rattle.xp_parse.proofs.Failing.{took_of}
use Rattle.xp_parse.proofs.PathPatterns.{anywhere_fails, anywhere_found}
use Rattle.xp_parse.proofs.parser.Parser.pattern_from_anywhere.Goals as goal

pub returns-in_err-steps : goal.returns-in_err-steps
returns-in_err-steps c =
    let f = c.requires in
    exits _ _ _ c.in_err-steps.field-0.0 c.from_residual.ensures.1
    (anywhere_fails _ _ _ _ (took_of _ _ _ f (c.advance.ensures f.placed f.rest f.is)) c.in_err-steps.ensures)

pub returns : goal.returns
returns c =
    let f = c.requires in
    anywhere_found _ _ _ _ (took_of _ _ _ f (c.advance.ensures f.placed f.rest f.is)) c.offset-offset.ensures refl c.in_ok-steps.ensures
