-- Nothing is to be spelled out.
use Rattle.std.proofs.Common.{subst, sym}
use Rattle.xp_outcome.specs.Recorded.{Recorded}
use Rattle.cover_laws.specs.Covering.{HeldAlike}
use Rattle.cover_laws.proofs.HeldLemmas.{held-as-read}
use Rattle.cover_laws.proofs.equal_is_held_alike.Goals as goal

pub returns : goal.returns
returns c T held reads same none = subst (λ (h : Recorded). HeldAlike T h reads) (sym same) (held-as-read T reads none)
