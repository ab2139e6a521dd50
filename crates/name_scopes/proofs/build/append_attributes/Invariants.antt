use Rattle.std.proofs.Common.{take}
use Rattle.name_scopes.proofs.StartLemmas.{Attributing}
use Rattle.name_scopes.proofs.build.append_attributes.Given as goal

-- the element has the attributes so far
abbrev pub invariant-loop-attr : goal.invariant-loop-attr
invariant-loop-attr l = Attributing l.fn.tree.nodes l.tree.nodes l.element l.scope (take l.attr-index l.attrs)
