use Rattle.std.proofs.Common.{◌≤◌, suc, ◌+◌, ◌*◌, length}
use Rattle.sch_base.specs.declared.limits.TheConstants.{MAX_NESTING}
use Rattle.xp_tree.specs.View.{tree_of}
use Rattle.xp_grammar.specs.inner.Machine.{Ending}
use Rattle.xp_parse.specs.inner.Places.{rest_of}
use Rattle.xp_parse.specs.inner.Parsing.{Settled, Quiet, rank, IsClosed, OperandsSoFar, StepsSoFar, PredicatesSoFar, ArgumentsSoFar, weight}
use Rattle.xp_parse.proofs.parser.Parser.+parser.Given as goal

abbrev pub decreases-arguments : goal.decreases-arguments
decreases-arguments l = length (rest_of l.self.now) * 32 + 21

abbrev pub decreases-call : goal.decreases-call
decreases-call l = length (rest_of l.self.now) * 32 + 1

abbrev pub decreases-chain : goal.decreases-chain
decreases-chain l = length (rest_of l.self.now) * 32 + weight l.level + 1

abbrev pub decreases-filter : goal.decreases-filter
decreases-filter l = length (rest_of l.self.now) * 32 + 3

abbrev pub decreases-from_anywhere : goal.decreases-from_anywhere
decreases-from_anywhere l = length (rest_of l.self.now) * 32 + 4

abbrev pub decreases-from_filter : goal.decreases-from_filter
decreases-from_filter l = length (rest_of l.self.now) * 32 + 4

abbrev pub decreases-from_here : goal.decreases-from_here
decreases-from_here l = length (rest_of l.self.now) * 32 + 4

abbrev pub decreases-from_root : goal.decreases-from_root
decreases-from_root l = length (rest_of l.self.now) * 32 + 4

abbrev pub decreases-enclosed : goal.decreases-enclosed
decreases-enclosed l = length (rest_of l.self.now) * 32 + 1

abbrev pub decreases-more_arguments : goal.decreases-more_arguments
decreases-more_arguments l = length (rest_of l.self.now) * 32

abbrev pub decreases-more_steps : goal.decreases-more_steps
decreases-more_steps l = length (rest_of l.self.now) * 32

abbrev pub decreases-operand : goal.decreases-operand
decreases-operand l = length (rest_of l.self.now) * 32 + weight l.level

abbrev pub decreases-operands : goal.decreases-operands
decreases-operands l = length (rest_of l.self.now) * 32

abbrev pub decreases-path : goal.decreases-path
decreases-path l = length (rest_of l.self.now) * 32 + 5

abbrev pub decreases-predicates : goal.decreases-predicates
decreases-predicates l = length (rest_of l.self.now) * 32 + 2

abbrev pub decreases-primary : goal.decreases-primary
decreases-primary l = length (rest_of l.self.now) * 32 + 2

abbrev pub decreases-signed : goal.decreases-signed
decreases-signed l = length (rest_of l.self.now) * 32 + 8

abbrev pub decreases-step : goal.decreases-step
decreases-step l = length (rest_of l.self.now) * 32 + 2

abbrev pub decreases-steps : goal.decreases-steps
decreases-steps l = length (rest_of l.self.now) * 32 + 3

abbrev pub decreases-tested : goal.decreases-tested
decreases-tested l = length (rest_of l.self.now) * 32 + 1

abbrev pub invariant-more_arguments-loop-self : goal.invariant-more_arguments-loop-self
invariant-more_arguments-loop-self l = (length (rest_of l.self) ≤ length (rest_of l.initial.self)) ×
    ((e : Ending) → Settled e (rest_of l.initial.self) → Quiet 0 (rest_of l.initial.self) →
    ArgumentsSoFar MAX_NESTING l.depth e (tree_of l.fn.first) (rest_of l.initial.self) (rest_of l.self) l.found.items)

abbrev pub decreases-more_arguments-loop-self : goal.decreases-more_arguments-loop-self
decreases-more_arguments-loop-self l = length (rest_of l.self)

abbrev pub invariant-more_steps-loop-found : goal.invariant-more_steps-loop-found
invariant-more_steps-loop-found l = (length (rest_of l.self) ≤ length (rest_of l.initial.self)) ×
    ((e : Ending) → IsClosed e (rest_of l.initial.self) →
    StepsSoFar MAX_NESTING l.depth e l.initial.found.items (rest_of l.initial.self) (rest_of l.self) l.found.items)

abbrev pub decreases-more_steps-loop-found : goal.decreases-more_steps-loop-found
decreases-more_steps-loop-found l = length (rest_of l.self)

abbrev pub invariant-operands-loop-operator : goal.invariant-operands-loop-operator
invariant-operands-loop-operator l = (length (rest_of l.self) ≤ length (rest_of l.initial.self)) ×
    ((e : Ending) → Settled e (rest_of l.initial.self) → Quiet (suc (rank l.level)) (rest_of l.initial.self) →
    OperandsSoFar MAX_NESTING l.level l.depth e (rest_of l.initial.self) (rest_of l.self) l.found.items)

abbrev pub decreases-operands-loop-operator : goal.decreases-operands-loop-operator
decreases-operands-loop-operator l = length (rest_of l.self)

abbrev pub invariant-predicates-loop-self : goal.invariant-predicates-loop-self
invariant-predicates-loop-self l = PredicatesSoFar MAX_NESTING l.depth (rest_of l.initial.self) (rest_of l.self) l.found.items

abbrev pub decreases-predicates-loop-self : goal.decreases-predicates-loop-self
decreases-predicates-loop-self l = length (rest_of l.self)
