use Rattle.std.proofs.Common.{take}
use Rattle.name_scopes.specs.Declarations.{declarations}
use Rattle.name_scopes.proofs.StartLemmas.{Declaring}
use Rattle.name_scopes.proofs.build.append_decls.Given as goal

-- the element declares what the attributes so far declare
abbrev pub invariant-loop-attr : goal.invariant-loop-attr
invariant-loop-attr l = Declaring l.fn.tree.nodes l.tree.nodes l.element (declarations (take l.attr-index l.attrs))
