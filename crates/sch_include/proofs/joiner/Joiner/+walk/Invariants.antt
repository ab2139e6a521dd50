-- A file leads to those that may still be read inside it, a node to what stands below it; the kids so far were walked.
use Rattle.std.proofs.Common.{◌≡◌, ℕ, ◌+◌, ◌-◌, ◌*◌, length, List, take, Ok, Some}
use Rattle.sch_base.specs.declared.limits.TheConstants.{MAX_INCLUDE_DEPTH}
use Rattle.doc_tree.specs.limits.TheConstants.{MAX_DEPTH}
use Rattle.doc_tree.specs.Table.{Table, kids_of}
use Rattle.doc_tree.specs.Walks.{ancestors}
use Rattle.sch_include.specs.inner.Joining.{Shows, WalksKids}
use Rattle.sch_include.proofs.joiner.Joiner.+walk.Given as goal

-- how much may still be read inside the files that are being read
abbrev inside : List (List ℕ) → ℕ
inside reading = ((MAX_INCLUDE_DEPTH + 1) - length reading) * (2 * MAX_DEPTH + 8)

-- how much may stand below a node
abbrev lower : Table → ℕ → ℕ
lower T n = 2 * ((MAX_DEPTH + 2) - length (ancestors T n))

abbrev pub decreases-walk : goal.decreases-walk
decreases-walk g l = inside l.self.now.reading.items + (lower l.source.now.tree.now.nodes l.n + 1)

abbrev pub decreases-walk_kids : goal.decreases-walk_kids
decreases-walk_kids g l = inside l.self.now.reading.items + lower l.source.now.tree.now.nodes l.n

abbrev pub decreases-take : goal.decreases-take
decreases-take g l = inside l.self.now.reading.items + 2

abbrev pub decreases-take_file : goal.decreases-take_file
decreases-take_file g l = inside l.self.now.reading.items + 1

abbrev pub decreases-walk_included : goal.decreases-walk_included
decreases-walk_included g l = inside l.self.now.reading.items + 0

abbrev pub invariant-walk_kids-loop-kid : goal.invariant-walk_kids-loop-kid
invariant-walk_kids-loop-kid g l = record {
  shows : Shows {T = Unit {0}} (g.S.Shelf.state l.initial.shelf) (g.S.Shelf.state l.shelf) l.initial.self.opened l.self.opened (Ok tt);
  cap : l.self.tree.pair_cap ≡ l.initial.self.tree.pair_cap;
  walks : WalksKids l.initial.self l.self l.fn.source l.fn.n (take l.kid-index (kids_of l.fn.source.tree.now.nodes l.fn.n)) l.fn.copy (Ok tt) (λ files. (g.S.Shelf.state l.initial.shelf).files ≡ Some files);
}
