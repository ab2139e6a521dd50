use Rattle.std.proofs.Common.{drop}
use Rattle.xp_outcome.specs.Evaluation.{done}
use Rattle.xp_outcome.specs.Running.{Onto}
use Rattle.xp_values.specs.declared.values.EvalFault.{EvalFault}
use Rattle.xp_meaning.specs.Reads.{taking}
use Rattle.xp_calls.proofs.reading.take_texts.Given as goal

abbrev pub invariant-loop-n : goal.invariant-loop-n
invariant-loop-n g l =
    Onto {F = EvalFault} {A = Unit {0}} (taking l.tree.nodes l.nodes (done tt)) l.initial.reads l.initial.steps
    (taking l.tree.nodes (drop l.n-index l.nodes) (done tt)) l.reads l.steps
