-- The commands so far were done.
use Rattle.std.proofs.Common.{◌≡◌, ◌≤◌, ℕ, length}
use Rattle.edit_script.specs.Script.{script_left}
use Rattle.sch_undo.specs.shown.Shown.{Shown}
use Rattle.sch_commands.specs.inner.Measurers.{IsUnderWay, MovesTo, is_fault, place_at}
use Rattle.sch_commands.specs.inner.Sessions.{HasCost, document_of}
use Rattle.sch_commands.proofs.measuring.Measurer.measure_rest.Given as goal

abbrev pub invariant-loop-command : goal.invariant-loop-command
invariant-loop-command g l = record {
  ready : IsUnderWay l.self;
  costs : HasCost (document_of l.self.session) (script_left l.self.script);
  come : (number : ℕ) (seen : Shown) → l.initial.self.faulted ≡ is_fault seen → MovesTo (place_at l.initial.self number seen) l.self l.initial.steps l.steps;
  plan : l.self.session.plan ≡ l.initial.self.session.plan;
  steps : l.initial.steps ≤ l.steps;
}

abbrev pub decreases-loop-command : goal.decreases-loop-command
decreases-loop-command g l = length (script_left l.self.script).commands
