use Rattle.std.proofs.Common.{◌≡◌, drop}
use Rattle.std.specs.List.{list_any}
use Rattle.name_scopes.specs.Declarations.{declarations, has_both_quotes}
use Rattle.name_scopes.proofs.tag.hold_both_quotes.Given as goal

-- no namespace so far has both kinds of quotes
abbrev pub invariant-loop-attr : goal.invariant-loop-attr
invariant-loop-attr l = list_any has_both_quotes (declarations l.attrs) ≡ list_any has_both_quotes (declarations (drop l.attr-index l.attrs))
