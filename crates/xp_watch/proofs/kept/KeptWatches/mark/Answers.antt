-- What the command touched was dropped.
use Rattle.std.proofs.Common.{refl}
use Rattle.edit_commands.specs.Touched.{holds_cell}
use Rattle.xp_watch.specs.inner.Held.{held_by}
use Rattle.xp_watch.proofs.KeptLemmas.{marks_kept}
use Rattle.xp_watch.proofs.kept.KeptWatches.mark.Goals as goal

pub returns-clause-marks : goal.returns-clause-marks
returns-clause-marks c =
    marks_kept c.args.tree.now.nodes (holds_cell c.args.tree.now.nodes c.args.touched.now) c.args.self.now.reads c.mark.new.self
    (held_by c.args.self.now) _ refl refl refl
    c.mark.ensures

pub returns-clause-reads : goal.returns-clause-reads
returns-clause-reads c = c.mark.ensures.thins.places
