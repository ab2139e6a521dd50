use Rattle.std.proofs.Common.{◌≡◌, take}
use Rattle.doc_edits.proofs.copying.copy_decls.Given as goal

abbrev pub invariant-loop-decl : goal.invariant-loop-decl
invariant-loop-decl l = l.list ≡ take l.decl-index l.decls
