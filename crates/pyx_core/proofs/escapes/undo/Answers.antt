use Rattle.std.proofs.Common.{sym, ◌∙◌, ap, length}
use Rattle.pyx_core.proofs.Undoing.{kept_backslash, kept_at_end}
use Rattle.pyx_core.proofs.escapes.undo.Goals as goal
use Rattle.pyx_core.proofs.escapes.undo.Goals.{in-Some+in_default-meaning, in_default}

pub returns-clause-undone : goal.returns-clause-undone
returns-clause-undone c =
    elim c.match-next.branch [
      | in-Some+in_default-meaning w ↦
          kept_backslash w.in-Some.mark c.args.text.now c.next.new.self.rest.now (sym c.chars-chars.ensures.rest ∙ w.in-Some.ensures.steps.0) w.in_default-meaning.ensures
      | in_default w ↦ kept_at_end c.args.text.now (ap length (sym c.chars-chars.ensures.rest) ∙ w.in_default.ensures.steps.0.0)
    ]
