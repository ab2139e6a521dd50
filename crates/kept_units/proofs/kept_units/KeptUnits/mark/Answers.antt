-- What the command touched was dropped.
use Rattle.std.proofs.Common.{refl}
use Rattle.edit_commands.specs.Touched.{holds_cell}
use Rattle.kept_units.proofs.MarkingLemmas.{held_marked, marks_seen}
use Rattle.kept_units.proofs.kept_units.KeptUnits.mark.Goals as goal

pub returns-clause-marks : goal.returns-clause-marks
returns-clause-marks c =
    marks_seen c.args.tree.now.nodes (holds_cell c.args.tree.now.nodes c.args.touched.now) c.args.self.now _ c.patterns-patterns.result refl refl
    c.mark.ensures
    c.mark-2.ensures

pub returns-clause-held : goal.returns-clause-held
returns-clause-held c = λ plan T last formed edit held.
    held_marked c.edits_leave_the_rest.ensures plan T c.args.tree.now.nodes (holds_cell c.args.tree.now.nodes c.args.touched.now) last c.args.self.now
    _ c.patterns-patterns.result formed edit refl
    c.patterns-patterns.ensures c.mark.ensures c.mark-2.ensures held
