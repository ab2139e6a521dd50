use Rattle.std.proofs.Common.{refl}
use Rattle.std.proofs.lemmas.Result.{err_from_is_err_and}
use Rattle.xp_types.proofs.Giving.{goes, stops}
use Rattle.xp_types.proofs.terms.resolve_prefix.Goals as goal

pub returns-in_err-uri : goal.returns-in_err-uri
returns-in_err-uri c = let p = err_from_is_err_and c.from_residual.result c.from_residual.ensures.1 in rw (p.1, p.2) (stops _ _ _ _ _ c.in_err-uri.ensures)

pub returns : goal.returns
returns c = goes _ _ _ _ c.in_ok-uri.uri _ c.in_ok-uri.ensures (record { given = refl })
