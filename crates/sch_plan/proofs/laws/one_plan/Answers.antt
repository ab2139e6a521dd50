use Rattle.sch_plan.proofs.OneMore.{compiled-one}
use Rattle.sch_plan.proofs.laws.one_plan.Goals as goal

pub returns : goal.returns
returns c = λ schema phase r s h k. (compiled-one (record {
  spelling = c.one_spelling.ensures;
  first_fault = c.first_faults_are_unique.ensures;
  faulty = c.faulty_texts_spell_nothing.ensures;
  pattern_spelling = c.one_pattern_spelling.ensures;
  first_pattern_fault = c.first_pattern_faults_are_unique.ensures;
  faulty_pattern = c.faulty_texts_spell_no_pattern.ensures;
  types = c.expressions_are_typed_or_refused.ensures.one_tree;
  typed = c.expressions_are_typed_or_refused.ensures.never_both;
  type_fault = c.expressions_are_typed_or_refused.ensures.one_first_fault;
  pattern_types = c.patterns_are_typed_or_refused.ensures.one_tree;
  typed_pattern = c.patterns_are_typed_or_refused.ensures.never_both;
  pattern_type_fault = c.patterns_are_typed_or_refused.ensures.one_first_fault;
}) schema phase).same r s h k
