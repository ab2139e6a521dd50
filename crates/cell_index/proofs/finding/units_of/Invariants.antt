-- The units of the sets so far are found.
use Rattle.std.proofs.Common.{ℕ, [], take}
use Rattle.std.specs.List.{list_any}
use Rattle.cell_index.specs.inner.Gathering.{Finds}
use Rattle.cell_index.specs.inner.Sharing.{AreMembers, is_member}
use Rattle.cell_index.proofs.finding.units_of.Given as goal

abbrev pub invariant-loop-set : goal.invariant-loop-set
invariant-loop-set l = AreMembers l.of_unit l.members → Finds (λ (unit : ℕ). list_any (λ (set : ℕ). is_member l.of_unit set unit) (take l.set-index l.sets)) [] l.found.items
