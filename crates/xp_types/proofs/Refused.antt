-- What a check that fails says: the first fault.
use Rattle.std.proofs.Common.{List, Err}
use Rattle.std.specs.Prelude.{Vec}
use Rattle.std.specs.declared.alloc.Global.{Global}
use Rattle.xp_tree.specs.Tree.{Tree}
use Rattle.xp_tree.specs.PatternTree.{PathTree}
use Rattle.xp_typed_tree.specs.TypedView.{typed_tree_of, paths_seen}
use Rattle.xp_typed_tree.specs.declared.pattern.TypedPath.{TypedPath}
use Rattle.xp_types.specs.declared.faults.CheckError.{CheckError}
use Rattle.xp_types.specs.declared.faults.CheckError.TheVariants as errors
use Rattle.xp_types.specs.Scope.{Scope}
use Rattle.xp_types.specs.Places.{UnlessMemory}
use Rattle.xp_types.specs.TypeFaults.{IsFirstTypeFault}
use Rattle.xp_types.specs.PatternFaults.{IsFirstPatternTypeFault}
use Rattle.xp_types.specs.inner.Checked.{ChecksAs}
use Rattle.xp_types.specs.inner.Typing.{typing, pattern_typing}
use Rattle.xp_types.proofs.FaultCases.{fault-first}
use Rattle.xp_types.proofs.PatternCases.{pattern-fault-first}

pub refused : (S : Scope) (e : Tree) (x : CheckError) → ChecksAs (typing S e) typed_tree_of (Err x) → UnlessMemory (IsFirstTypeFault S e) x
refused S e (errors.Fault f) g = fault-first S e f g.given
refused S e errors.Memory g = tt

pub pattern-refused : (S : Scope) (ps : List PathTree) (x : CheckError) → ChecksAs (pattern_typing S ps) (λ (v : Vec TypedPath Global). paths_seen v.items) (Err x) → UnlessMemory (IsFirstPatternTypeFault S ps) x
pattern-refused S ps (errors.Fault f) g = pattern-fault-first S ps f g.given
pattern-refused S ps errors.Memory g = tt
