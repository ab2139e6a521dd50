use Rattle.std.proofs.Common.{length, sym, ◌∙◌}
use Rattle.sch_compiled.specs.Plan.{rules_of}
use Rattle.sch_units.specs.Firing.{first_rule}
use Rattle.sch_units.proofs.KeptReads.{keeping-answer}
use Rattle.sch_units.proofs.FirstMatches.{fires_first, none_matches, no_fault}
use Rattle.sch_units.proofs.first_match_fires.Goals as goal

pub returns : goal.returns
returns c = record {
  fired = λ plan T L p n r findings is. fires_first T n L (length plan.lets) r (rules_of plan p) findings (sym (keeping-answer (length plan.lets) (first_rule T (length plan.lets) L n 0 (rules_of plan p))) ∙ is);
  no_rule = λ plan T L p n is. none_matches T n L (length plan.lets) 0 (rules_of plan p) (sym (keeping-answer (length plan.lets) (first_rule T (length plan.lets) L n 0 (rules_of plan p))) ∙ is);
  no_fault = λ plan T L p n f is. no_fault T n L (length plan.lets) 0 (rules_of plan p) f (sym (keeping-answer (length plan.lets) (first_rule T (length plan.lets) L n 0 (rules_of plan p))) ∙ is);
}
