use Rattle.std.proofs.Common.{◌≡◌, ◌≤◌, ◌++◌, drop, length}
use Rattle.doc_tree.specs.Table.{decls_of}
use Rattle.name_scopes.proofs.around.declare_at.Given as goal

-- what the node declares from here on is in scope
abbrev pub invariant-loop-left : goal.invariant-loop-left
invariant-loop-left l = record {
  within : l.left ≤ length (decls_of l.tree.nodes l.n);
  declared : l.scope ≡ drop l.left (decls_of l.tree.nodes l.n) ++ l.initial.scope;
}

abbrev pub decreases-loop-left : goal.decreases-loop-left
decreases-loop-left l = l.left
