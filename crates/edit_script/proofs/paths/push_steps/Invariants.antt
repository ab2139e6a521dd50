-- The steps so far were read.
use Rattle.std.proofs.Common.{◌≡◌, length}
use denote.Text.{Utf8}
use denote.Shadow.{shadow}
use Rattle.std.specs.List.{slice_split}
use Rattle.sch_base.specs.Characters.{is_slash}
use Rattle.edit_script.specs.Paths.{steps_of}
use Rattle.edit_script.specs.inner.Steps.{before_steps}
use Rattle.edit_script.proofs.paths.push_steps.Given as goal

abbrev pub invariant-loop-front : goal.invariant-loop-front
invariant-loop-front l = shadow (Utf8 l.rest)
    × (before_steps l.fn.path (steps_of (slice_split is_slash l.text)) ≡ before_steps l.path (steps_of (slice_split is_slash l.rest)))

abbrev pub decreases-loop-front : goal.decreases-loop-front
decreases-loop-front l = length l.rest
