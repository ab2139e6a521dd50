-- Candidates are nodes on an axis that pass a test, so that chains are the same but for numbers; tests are expressions.
use Rattle.xslt_iso_laws.proofs.MatchingLemmas.{patterns-move}
use Rattle.xslt_iso_laws.proofs.patterns_move.Goals as goal

pub returns : goal.returns
returns c = patterns-move c.renumbered_trees_hang.ensures c.expressions_move.ensures.steps c.expressions_move.ensures.predicates
