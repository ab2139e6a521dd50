use Rattle.xp_meaning.proofs.Unions.{union_counts_once}
use Rattle.xp_meaning.proofs.laws.union_counts_once.Goals as goal

pub returns : goal.returns
returns c = union_counts_once
