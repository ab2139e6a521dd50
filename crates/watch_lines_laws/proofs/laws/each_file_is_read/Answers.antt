-- A file says one thing at least.
use Rattle.watch_lines_laws.proofs.SomeReading.{some-reading}
use Rattle.watch_lines_laws.proofs.laws.each_file_is_read.Goals as goal

pub returns : goal.returns
returns c = some-reading (record {
  read = c.each_text_is_read.ensures;
  ends = c.whole_texts_end.ensures;
  derives = c.each_derives_or_fails.ensures;
  types = c.expressions_are_typed_or_refused.ensures.each;
})
