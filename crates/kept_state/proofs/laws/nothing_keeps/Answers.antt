use Rattle.kept_state.proofs.UnitListLemmas as lemma
use Rattle.kept_state.proofs.laws.nothing_keeps.Goals as goal

pub returns : goal.returns
returns c = lemma.nothing_keeps
