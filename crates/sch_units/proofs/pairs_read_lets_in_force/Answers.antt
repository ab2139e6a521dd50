use Rattle.std.proofs.Common.{length, sym, subst}
use Rattle.std.specs.List.{AllByRecursion as Each}
use Rattle.xp_outcome.specs.Evaluation.{visit}
use Rattle.sch_compiled.specs.Plan.{rules_of}
use Rattle.sch_units.specs.Firing.{first_rule}
use Rattle.sch_units.specs.Laws.{IsInForce}
use Rattle.sch_units.proofs.KeptReads.{kept_in_force, keeping-reads}
use Rattle.sch_units.proofs.pairs_read_lets_in_force.Goals as goal

pub returns : goal.returns
returns c = λ plan T L p n.
    let m = visit (first_rule T (length plan.lets) L n 0 (rules_of plan p)) in
    subst (Each (IsInForce (length plan.lets))) (sym (keeping-reads (length plan.lets) m)) (kept_in_force (length plan.lets) m.reads)
