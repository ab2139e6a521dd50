use Rattle.xp_parse.proofs.Exits.{exits}
use Rattle.xp_parse.proofs.Failing.{took_of}
use Rattle.xp_parse.proofs.IdKeys.{key_unopened, key_name_fails, key_value_fails, key_found}
use Rattle.xp_parse.proofs.parser.Parser.key_pattern.Goals as goal

pub returns-in_err-take : goal.returns-in_err-take
returns-in_err-take c =
    let f = c.requires in
    exits _ _ _ c.in_err-take.field-0.0 c.from_residual.ensures.1
    (key_unopened _ _ _ _ (took_of _ _ _ f (c.advance.ensures f.placed f.rest f.is)) c.in_err-take.ensures)

pub returns-in_err-name : goal.returns-in_err-name
returns-in_err-name c =
    let f = c.requires in
    exits _ _ _ c.in_err-name.field-0.0 c.from_residual-in_err-name.ensures.1
    (key_name_fails _ _ _ _ _ (took_of _ _ _ f (c.advance.ensures f.placed f.rest f.is)) c.in_ok-take.ensures c.in_err-name.ensures)

pub returns-in-Err : goal.returns-in-Err
returns-in-Err c =
    let f = c.requires in
    key_value_fails _ _ _ _ _ _ _ (took_of _ _ _ f (c.advance.ensures f.placed f.rest f.is)) c.in_ok-take.ensures c.in_ok-name.ensures c.in-Err.ensures

pub returns-in-Ok : goal.returns-in-Ok
returns-in-Ok c =
    let f = c.requires in
    key_found _ _ _ _ _ _ _ (took_of _ _ _ f (c.advance.ensures f.placed f.rest f.is)) c.in_ok-take.ensures c.in_ok-name.ensures c.in-Ok.ensures
