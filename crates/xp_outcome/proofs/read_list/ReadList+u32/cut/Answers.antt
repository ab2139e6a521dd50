use Rattle.std.proofs.Common.{nat_lt, rules}
use Rattle.std.proofs.lemmas.Fn.{filter_same}
use Rattle.xp_outcome.proofs.read_list.ReadList+u32.cut.Goals as goal

pub returns : goal.returns
returns c = filter_same _ (λ s. nat_lt s c.args.len) _ (λ x b f k. search rules) _ _ c.retain.ensures.filtered
