-- The commands so far stand in the text.
use Rattle.std.proofs.Common.{◌≡◌, string_bytes}
use Rattle.std.specs.List.{flat_map, range_with_len}
use Rattle.sch_measure.specs.Texts.{command_lines}
use Rattle.sch_measure.proofs.texts.script_text.Given as goal

abbrev pub invariant-loop-before : goal.invariant-loop-before
invariant-loop-before l = string_bytes l.text ≡ flat_map (command_lines l.fn.items) (range_with_len 1 l.before)
