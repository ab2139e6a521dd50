use Rattle.std.proofs.Common.{◌≡◌, ◌+◌, ◌≤◌, ℕ, length, get_or, drop}
use Rattle.doc_table.specs.Lists.{place_in}
use Rattle.doc_edits.proofs.copying.numbers_for.Given as goal

-- the numbers of the nodes from a place on are written
abbrev pub invariant-loop-i : goal.invariant-loop-i
invariant-loop-i l = record {
  within : l.i ≤ length l.nodes;
  room : length l.numbers.items ≡ l.room;
  written : (m : ℕ) → get_or l.numbers.items m (l.first + length l.nodes) ≡ (l.first + l.i) + place_in m (drop l.i l.nodes);
}

abbrev pub decreases-loop-i : goal.decreases-loop-i
decreases-loop-i l = l.i
