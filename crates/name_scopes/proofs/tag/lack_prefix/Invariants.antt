use Rattle.std.proofs.Common.{◌≡◌, drop}
use Rattle.std.specs.List.{list_any}
use Rattle.name_scopes.specs.Declarations.{plain_attrs}
use Rattle.name_scopes.specs.DocFaults.{lacks_prefix}
use Rattle.name_scopes.proofs.tag.lack_prefix.Given as goal

-- no attribute so far lacks its prefix
abbrev pub invariant-loop-attr : goal.invariant-loop-attr
invariant-loop-attr l = list_any (lacks_prefix l.scope) (plain_attrs l.attrs) ≡ list_any (lacks_prefix l.scope) (plain_attrs (drop l.attr-index l.attrs))
