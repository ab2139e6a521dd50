use Rattle.std.proofs.Common.{arith}
use Rattle.xslt_match.proofs.names.NamesUp.none.Goals as goal

pub returns-clause-none : goal.returns-clause-none
returns-clause-none c = λ T held k below. absurd (omega (arith, below))
