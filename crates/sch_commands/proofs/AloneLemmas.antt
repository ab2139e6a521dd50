-- A script in which nothing is undone is followed as one in which no edit can be.
use Rattle.std.proofs.Common.{ℕ, ◌+◌, List, []}
use Rattle.doc_tree.specs.Table.{Table}
use Rattle.edit_script.specs.Script.{Script}
use Rattle.sch_undo.specs.shown.Shown.{Shown}
use Rattle.sch_stops.specs.Output.{Output}
use Rattle.sch_commands.specs.Following as undo
use Rattle.sch_commands.specs.Following.{edits_alone, then_shown}
use Rattle.sch_commands.specs.Steps as undo_steps
use Rattle.sch_commands.specs.Telling.{Telling}
use Rattle.sch_commands.specs.inner.Scripts as alone

module _ (telling : Telling) where
  -- its output
  pub follows-alone : (T : Table) (number : ℕ) (seen : Shown) (script : Script) (output : Output) → alone.Follows telling T number seen script output →
      undo.Follows telling 0 T [] number seen (edits_alone script.commands script.fault) output
  follows-alone _ _ _ _ _ (alone.comes_to_end T number seen) = undo.comes_to_end T [] number seen
  follows-alone _ _ _ _ _ (alone.stops_at T number seen fault) = undo.stops_at T [] number seen fault
  follows-alone _ _ _ _ _ (alone.refuses T number seen command reason rest output some follows) =
      undo.refuses T [] number seen command reason (edits_alone rest.commands rest.fault) output some (follows-alone T (number + 1) seen rest output follows)
  follows-alone _ _ _ _ _ (alone.edits T U number seen command rest output free makes follows) =
      undo.edits T U [] number seen command (edits_alone rest.commands rest.fault) output free makes
      (follows-alone U (number + 1) (then_shown seen (telling.shows U)) rest output follows)

  -- a text that it comes to write
  pub begins-alone : (T : Table) (number : ℕ) (script : Script) (text : List ℕ) → alone.Begins telling T number script text →
      undo.Begins telling 0 T [] number (edits_alone script.commands script.fault) text
  begins-alone _ _ _ _ (alone.nothing_yet T number script) = undo.nothing_yet T [] number (edits_alone script.commands script.fault)
  begins-alone _ _ _ _ (alone.refused T number command reason rest text some begins) =
      undo.refused T [] number command reason (edits_alone rest.commands rest.fault) text some (begins-alone T (number + 1) rest text begins)
  begins-alone _ _ _ _ (alone.edited T U number command rest text free makes begins) =
      undo.edited T U [] number command (edits_alone rest.commands rest.fault) text free makes (begins-alone U (number + 1) rest text begins)

  -- its visits
  pub cost-alone : (T : Table) (script : Script) (cost : ℕ) → alone.EditsCost telling T script cost →
      undo_steps.EditsCost telling 0 T [] (edits_alone script.commands script.fault) cost
  cost-alone _ _ _ (alone.at_the_end T) = undo_steps.at_the_end T []
  cost-alone _ _ _ (alone.at_a_fault T fault) = undo_steps.at_a_fault T [] fault
  cost-alone _ _ _ (alone.of_refused T command reason rest cost some costs) =
      undo_steps.of_refused T [] command reason (edits_alone rest.commands rest.fault) cost some (cost-alone T rest cost costs)
  cost-alone _ _ _ (alone.of_edited T U command rest cost free makes costs) =
      undo_steps.of_edited T U [] command (edits_alone rest.commands rest.fault) cost free makes (cost-alone U rest cost costs)
