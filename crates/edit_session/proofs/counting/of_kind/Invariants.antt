-- How many of the findings so far are of such assertions.
use Rattle.std.proofs.Common.{◌≡◌, ◌≤◌, take}
use Rattle.std.specs.Prelude.{count_by}
use Rattle.edit_session.specs.Counts.{is_of_kind}
use Rattle.edit_session.proofs.counting.of_kind.Given as goal

abbrev pub invariant-loop-finding : goal.invariant-loop-finding
invariant-loop-finding l = (l.count ≡ count_by (is_of_kind l.fn.report l.fn.assertions) (take l.finding-index l.finding-items)) × (l.count ≤ l.finding-index)
