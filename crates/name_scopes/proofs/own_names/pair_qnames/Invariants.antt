use Rattle.std.proofs.Common.{◌≡◌, ◌≤◌, ◌-◌, drop, length}
use Rattle.name_scopes.specs.DocFaults.{has_pair, same_qname}
use Rattle.name_scopes.proofs.own_names.pair_qnames.Given as goal

-- no attribute so far shares its QName with a later one
abbrev pub invariant-loop-place : goal.invariant-loop-place
invariant-loop-place l = record {
  within : l.place ≤ length l.attrs;
  apart : has_pair same_qname l.attrs ≡ has_pair same_qname (drop l.place l.attrs);
}

abbrev pub decreases-loop-place : goal.decreases-loop-place
decreases-loop-place l = length l.attrs - l.place
