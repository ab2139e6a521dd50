use Rattle.std.proofs.Common.{◌≡◌, ◌+◌, ◌≤◌, drop, length}
use Rattle.name_scopes.specs.Declarations.{plain_attrs}
use Rattle.name_scopes.proofs.build.count_plain.Given as goal

-- those so far and those to come are all
abbrev pub invariant-loop-attr : goal.invariant-loop-attr
invariant-loop-attr l = record {
  small : l.count ≤ l.attr-index;
  counted : l.count + length (plain_attrs (drop l.attr-index l.attrs)) ≡ length (plain_attrs l.attrs);
}
