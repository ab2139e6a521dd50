use Rattle.std.proofs.Common.{◌≡◌, ◌<◌, ℕ}
use Rattle.doc_table.specs.Table.{decls_of}
use Rattle.doc_tree.specs.Scope.{decl_at}
use Rattle.tree_same.proofs.nodes.same_decls.Given as goal

-- the declarations passed are the same
abbrev pub invariant-loop-i : goal.invariant-loop-i
invariant-loop-i l = (k : ℕ) → k < l.i → decl_at (decls_of l.b.nodes l.m) k ≡ decl_at (decls_of l.a.nodes l.n) k
