-- The rules so far were entered.
use Rattle.std.proofs.Common.{◌≡◌, ℕ, List, Some, take, true}
use Rattle.sch_references.specs.Extends.{is_named}
use Rattle.sch_references.specs.inner.Sorting.{Idle}
use Rattle.sch_references.specs.inner.Ways.{Each}
use Rattle.sch_references.proofs.search.Search.visit_all.Given as goal

abbrev pub invariant-loop-place : goal.invariant-loop-place
invariant-loop-place l = record {
  idle : Idle l.rules l.self;
  entered : Each (λ rule. (name : List ℕ) → rule.id ≡ Some name → is_named l.rules name ≡ true → is_named l.self.entered name ≡ true) (take l.place l.rules);
}
