use Rattle.std.proofs.Common.{◌≡◌, drop}
use Rattle.doc_tree.specs.Scope.{first_declared}
use Rattle.doc_tree.proofs.declarations.declared.Given as goal

-- no declaration so far is of the prefix
abbrev pub invariant-loop-decl : goal.invariant-loop-decl
invariant-loop-decl l = first_declared l.decls l.prefix ≡ first_declared (drop l.decl-index l.decls) l.prefix
