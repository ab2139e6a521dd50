-- What a line says is well formed.
use Rattle.std.proofs.Common.{Ok, ap, sym, ◌∙◌}
use Rattle.edit_script.proofs.FormedLemmas.{whole_formed}
use Rattle.edit_script.proofs.reader.read_command.Goals as goal

pub returns-in-Ok-Whole-clause-formed : goal.returns-in-Ok-Whole-clause-formed
returns-in-Ok-Whole-clause-formed c =
    whole_formed c.args.next.line.now c.in-Ok-Whole.command
    (sym c.in_ok-command.ensures ∙ c.in-Ok-Whole.is ∙ ap (λ said. Ok said) c.in-Ok-Whole.field-0-is)
