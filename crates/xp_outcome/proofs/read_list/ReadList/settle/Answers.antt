use Rattle.std.proofs.lemmas.List.Filters.{dedup_is}
use Rattle.xp_outcome.proofs.Sets.{settled}
use Rattle.xp_outcome.proofs.read_list.ReadList.settle.Goals as goal

pub returns : goal.returns
returns g c = settled _ _ _ c.sort_unstable.ensures.permutation (dedup_is g.T.PartialEq.eq _ _ c.dedup.ensures.filtered)
