use Rattle.std.proofs.Common.{◌≡◌, ◌≤◌, ◌-◌, drop, length}
use Rattle.name_scopes.specs.Declarations.{plain_attrs}
use Rattle.name_scopes.specs.DocFaults.{has_pair, same_expanded}
use Rattle.name_scopes.proofs.tag.pair_expanded.Given as goal

-- no attribute so far shares its expanded name with a later one
abbrev pub invariant-loop-place : goal.invariant-loop-place
invariant-loop-place l = record {
  within : l.place ≤ length l.attrs;
  apart : has_pair (same_expanded l.scope) (plain_attrs l.attrs) ≡ has_pair (same_expanded l.scope) (plain_attrs (drop l.place l.attrs));
}

abbrev pub decreases-loop-place : goal.decreases-loop-place
decreases-loop-place l = length l.attrs - l.place
