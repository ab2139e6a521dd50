use Rattle.sch_plan.proofs.Walking.{answers_refusal, answers_unless}
use Rattle.sch_plan.proofs.CountLemmas.{not-too-many, too-many}
use Rattle.sch_plan.proofs.compilation.walk_if_few.Goals as goal

pub returns-then-len-le-MAX_ACTIVE_PATTERNS : goal.returns-then-len-le-MAX_ACTIVE_PATTERNS
returns-then-len-le-MAX_ACTIVE_PATTERNS c = answers_unless _ _ _ _ (not-too-many _ _ c.len.ensures c.if-len-le-MAX_ACTIVE_PATTERNS.true) c.walk.ensures

pub returns-else-len-le-MAX_ACTIVE_PATTERNS : goal.returns-else-len-le-MAX_ACTIVE_PATTERNS
returns-else-len-le-MAX_ACTIVE_PATTERNS c =
    answers_refusal _ _ _ _ (too-many _ _ c.len.ensures c.if-len-le-MAX_ACTIVE_PATTERNS.false) (rw c.element-node.ensures at c.refusal.ensures)
