-- A touched cell that isn't held is covered by one that is, which is then touched too.
use Rattle.cover_laws.proofs.AlikeLemmas.{touched-alike}
use Rattle.cover_laws.proofs.alike_are_touched_alike.Goals as goal

pub returns : goal.returns
returns c T U touched held reads form edit = touched-alike touched T held reads (λ d e _. c.covering_is_touched.ensures T U touched d e form edit)
