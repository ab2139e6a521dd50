-- An item of the key is there or comes yet.
use Rattle.std.proofs.Common.{ℕ, ◌⊎◌}
use Rattle.std.specs.List.{Contains}
use Rattle.cell_index.specs.inner.Chains.{InChain}
use Rattle.cell_index.specs.inner.Links.{IsLinked}
use Rattle.cell_index.proofs.chains.Chains.items.Given as goal

abbrev pub invariant-loop-link : goal.invariant-loop-link
invariant-loop-link l = (item : ℕ) → InChain l.self l.key item → Contains l.items.items item ⊎ IsLinked l.self.links.items item l.number

abbrev pub decreases-loop-link : goal.decreases-loop-link
decreases-loop-link l = l.number
