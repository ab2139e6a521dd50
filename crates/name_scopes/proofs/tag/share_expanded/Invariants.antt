use Rattle.std.proofs.Common.{◌≡◌, drop}
use Rattle.std.specs.List.{list_any}
use Rattle.name_scopes.specs.Declarations.{plain_attrs}
use Rattle.name_scopes.specs.DocFaults.{same_expanded}
use Rattle.name_scopes.proofs.tag.share_expanded.Given as goal

-- no attribute so far has the expanded name
abbrev pub invariant-loop-other : goal.invariant-loop-other
invariant-loop-other l =
    list_any (same_expanded l.scope l.attr) (plain_attrs l.others) ≡ list_any (same_expanded l.scope l.attr) (plain_attrs (drop l.other-index l.others))
