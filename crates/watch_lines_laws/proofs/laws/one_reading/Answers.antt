-- A file says one thing at most.
use Rattle.watch_lines_laws.proofs.OneReading.{one-reading}
use Rattle.watch_lines_laws.proofs.laws.one_reading.Goals as goal

pub returns : goal.returns
returns c = one-reading (record {
  spelling = c.one_spelling.ensures;
  first_fault = c.first_faults_are_unique.ensures;
  faulty = c.faulty_texts_spell_nothing.ensures;
  types = c.expressions_are_typed_or_refused.ensures.one_tree;
  typed = c.expressions_are_typed_or_refused.ensures.never_both;
  type_fault = c.expressions_are_typed_or_refused.ensures.one_first_fault;
})
