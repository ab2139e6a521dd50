use Rattle.xp_parse.proofs.Exits.{exits}
use Rattle.xp_parse.proofs.Failing.{took_of}
use Rattle.xp_parse.proofs.IdKeys.{id_unopened, id_fails, id_found}
use Rattle.xp_parse.proofs.parser.Parser.id_pattern.Goals as goal

pub returns-in_err-take : goal.returns-in_err-take
returns-in_err-take c =
    let f = c.requires in
    exits _ _ _ c.in_err-take.field-0.0 c.from_residual.ensures.1
    (id_unopened _ _ _ _ (took_of _ _ _ f (c.advance.ensures f.placed f.rest f.is)) c.in_err-take.ensures)

pub returns-in_err-value : goal.returns-in_err-value
returns-in_err-value c =
    let f = c.requires in
    exits _ _ _ c.in_err-value.field-0.0 c.from_residual-in_err-value.ensures.1
    (id_fails _ _ _ _ _ (took_of _ _ _ f (c.advance.ensures f.placed f.rest f.is)) c.in_ok-take.ensures c.in_err-value.ensures)

pub returns : goal.returns
returns c =
    let f = c.requires in
    id_found _ _ _ _ _ (took_of _ _ _ f (c.advance.ensures f.placed f.rest f.is)) c.in_ok-take.ensures c.in_ok-value.ensures
