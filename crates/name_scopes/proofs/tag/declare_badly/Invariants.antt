use Rattle.std.proofs.Common.{◌≡◌, drop}
use Rattle.std.specs.List.{list_any}
use Rattle.name_scopes.specs.Declarations.{declarations, is_bad_declaration}
use Rattle.name_scopes.proofs.tag.declare_badly.Given as goal

-- no declaration so far may not be
abbrev pub invariant-loop-attr : goal.invariant-loop-attr
invariant-loop-attr l = list_any is_bad_declaration (declarations l.attrs) ≡ list_any is_bad_declaration (declarations (drop l.attr-index l.attrs))
