-- The cap is a quotient.
use Rattle.std.proofs.Common.{length}
use Rattle.edit_session.proofs.PairLemmas.{cap_for_pairs}
use Rattle.edit_session.proofs.laws.pair_cap_is_for_pairs.Goals as goal

pub returns : goal.returns
returns c = λ plan count. cap_for_pairs (length plan.patterns) count
