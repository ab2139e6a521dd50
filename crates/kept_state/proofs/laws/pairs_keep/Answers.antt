use Rattle.kept_state.proofs.PairLemmas as lemma
use Rattle.kept_state.proofs.laws.pairs_keep.Goals as goal

pub returns : goal.returns
returns c = lemma.pairs_keep
