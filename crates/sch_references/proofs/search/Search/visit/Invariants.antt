-- The topmost rule is followed, and the rule that was entered first stays so.
use Rattle.std.proofs.Common.{◌≡◌, ℕ, List, true}
use Rattle.sch_references.specs.Extends.{is_named}
use Rattle.sch_references.specs.inner.Sorting.{Busy, work}
use Rattle.sch_references.proofs.search.Search.visit.Given as goal

abbrev pub invariant-loop-frame : goal.invariant-loop-frame
invariant-loop-frame l = record {
  busy : Busy l.rules l.self l.top;
  visited : is_named l.self.entered l.fn.name ≡ true;
  kept : (name : List ℕ) → is_named l.fn.self.entered name ≡ true → is_named l.self.entered name ≡ true;
}

abbrev pub decreases-loop-frame : goal.decreases-loop-frame
decreases-loop-frame l = work l.rules l.self l.top
