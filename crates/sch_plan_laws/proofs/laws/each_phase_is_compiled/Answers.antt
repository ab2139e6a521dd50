-- Each part of the walk has an outcome.
use Rattle.sch_plan_laws.proofs.SomePlan.{compiled-some}
use Rattle.sch_plan_laws.proofs.laws.each_phase_is_compiled.Goals as goal

pub returns : goal.returns
returns c = λ flat phase.
    let some = compiled-some (record {
      read = c.each_text_is_read.ensures;
      ends = c.whole_texts_end.ensures;
      derives = c.each_derives_or_fails.ensures;
      derives_pattern = c.each_derives_a_pattern_or_fails.ensures;
      types = c.expressions_are_typed_or_refused.ensures.each;
      pattern_types = c.patterns_are_typed_or_refused.ensures.each;
    }) flat phase in
    (some.outcome, some.comes)
