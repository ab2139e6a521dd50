use Rattle.std.proofs.Common.{◌≡◌, ◌-◌, ◌≤◌, ℕ, true, length, take}
use Rattle.doc_table.specs.Kinds.{IsElementNamed}
use Rattle.doc_table.specs.Lists.{mem}
use Rattle.doc_table.specs.Table.{numbered}
use Rattle.doc_table.specs.inner.Parts.{table_of}
use Rattle.doc_table.proofs.bare.Bare.elements_named.Given as goal

abbrev pub decreases-loop-count : goal.decreases-loop-count
decreases-loop-count l = length l.nodes - l.count

abbrev pub invariant-loop-count : goal.invariant-loop-count
invariant-loop-count l = record {
  within : l.count ≤ length l.nodes;
  named : (n : ℕ) → mem n (take l.count l.nodes) ≡ true → IsElementNamed (table_of l.self) (numbered l.self.names l.name) n;
}
