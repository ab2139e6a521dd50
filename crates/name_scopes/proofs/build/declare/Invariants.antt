use Rattle.std.proofs.Common.{◌≡◌, ◌≤◌, ◌++◌, drop, length}
use Rattle.name_scopes.specs.Declarations.{declarations}
use Rattle.name_scopes.proofs.build.declare.Given as goal

-- what the attributes after declare is in scope
abbrev pub invariant-loop-left : goal.invariant-loop-left
invariant-loop-left l = record {
  within : l.left ≤ length l.attrs;
  declared : l.scope ≡ declarations (drop l.left l.attrs) ++ l.initial.scope;
}

abbrev pub decreases-loop-left : goal.decreases-loop-left
decreases-loop-left l = l.left
