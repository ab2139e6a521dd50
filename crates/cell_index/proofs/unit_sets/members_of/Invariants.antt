-- The units so far are members of their sets.
use Rattle.std.proofs.Common.{ℕ, ◌<◌}
use Rattle.cell_index.specs.inner.Chains.{InChain}
use Rattle.cell_index.specs.inner.Sharing.{set_of}
use Rattle.cell_index.proofs.unit_sets.members_of.Given as goal

abbrev pub invariant-loop-unit : goal.invariant-loop-unit
invariant-loop-unit l = (u : ℕ) → u < l.unit → 0 < set_of l.of_unit u → InChain l.members (set_of l.of_unit u) u
