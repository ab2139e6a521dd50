-- A second space makes a third field.
use Rattle.std.proofs.Common.{rules, sym}
use Rattle.edit_script.proofs.FieldLemmas.{two_more}
use Rattle.edit_script.proofs.command_line.two_fields.Goals as goal

pub returns-then-is_some : goal.returns-then-is_some
returns-then-is_some c =
    two_more c.args.text.now c.in_ok-first.first.now c.in_ok-first.second.now c.split_space-2.result (search rules)
    c.split_space-2.ensures (sym c.if-is_some.ensures)
