-- A space makes a second field.
use Rattle.std.proofs.Common.{sym}
use Rattle.edit_script.proofs.FieldLemmas.{delete_more}
use Rattle.edit_script.proofs.command_line.read_delete.Goals as goal

pub returns-then-is_some : goal.returns-then-is_some
returns-then-is_some c =
    sym (delete_more c.args.text.now c.split_space.result c.split_space.ensures (sym c.if-is_some.ensures))
