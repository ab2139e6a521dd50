use Rattle.std.proofs.Common.{refl}
use Rattle.std.proofs.lemmas.Result.{err_from_is_err_and}
use Rattle.xp_types.proofs.Giving.{goes, stops}
use Rattle.xp_types.proofs.terms.resolve_name.Goals as goal

pub returns-in_err-uri-in-Some : goal.returns-in_err-uri-in-Some
returns-in_err-uri-in-Some c =
    let p = err_from_is_err_and c.from_residual.result c.from_residual.ensures.1 in
    rw (c.in-Some.is, p.1, p.2) (stops _ _ _ _ _ c.in_err-uri-in-Some.ensures)

pub returns-in_ok-local-in-Some : goal.returns-in_ok-local-in-Some
returns-in_ok-local-in-Some c =
    rw (c.in-Some.is, c.in_ok-local-in-Some.ensures, c.as_str.ensures) (goes _ _ _ _ c.in_ok-uri-in-Some.uri _ c.in_ok-uri-in-Some.ensures (record { given = refl }))
