use Rattle.std.proofs.Common.{◌≡◌, ◌≤◌, false, length, map, take}
use Rattle.name_scopes.specs.Declarations.{plain_attrs}
use Rattle.name_scopes.specs.DocFaults.{has_pair, same_expanded, expanded_attr}
use Rattle.name_scopes.proofs.tag.number_plain.Given as goal

-- the expanded names so far differ, and each has its number
abbrev pub invariant-loop-attr : goal.invariant-loop-attr
invariant-loop-attr l = record {
  small : l.count ≤ l.attr-index;
  counted : l.count ≡ length (plain_attrs (take l.attr-index l.attrs));
  named : l.names ≡ map (expanded_attr l.scope) (plain_attrs (take l.attr-index l.attrs));
  apart : has_pair (same_expanded l.scope) (plain_attrs (take l.attr-index l.attrs)) ≡ false;
}
