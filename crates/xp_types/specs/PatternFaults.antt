-- The faults of types that a match pattern has, by cases: XSLT 1.0, section 5.2. The parts of a step are its node test and its
-- predicates, those of a path pattern where it begins and its steps.
use Rattle.std.specs.Prelude.{ℕ, false, List, [], ◌∷◌, codes}
use Rattle.xp_tree.specs.PatternTree.{PathTree, StepTree}
use Rattle.xp_tree.specs.declared.pattern.PatternStart.{PatternStart}
use Rattle.xp_tree.specs.declared.pattern.PatternStart.TheVariants as starts
use Rattle.xp_types.specs.declared.faults.TypeKind.TheVariants as kinds
use Rattle.xp_types.specs.declared.faults.TypeFault.{TypeFault}
use Rattle.xp_types.specs.Scope.{Scope}
use Rattle.xp_types.specs.Places.{Place, NoFault, FaultAt, InOrder, IsFirst}
use Rattle.xp_types.specs.TypeFaults.{TestFault, AllFault}

-- `id` and `key` are refused
abbrev pub BeginningFault : PatternStart → ℕ → Place → TypeFault → Type 0
BeginningFault starts.Here offset = NoFault
BeginningFault starts.Root offset = NoFault
BeginningFault (starts.Id value) offset = FaultAt (Unit {0}) (kinds.Refused (codes "id")) offset
BeginningFault (starts.Key name value) offset = FaultAt (Unit {0}) (kinds.Refused (codes "key")) offset

abbrev pub PatternStepsFault : Scope → List StepTree → Place → TypeFault → Type 0
PatternStepsFault S [] place f = NoFault place f
PatternStepsFault S (s ∷ ss) place f = InOrder (TestFault S s.test s.test_offset) (InOrder (AllFault S false s.predicates) (PatternStepsFault S ss)) place f

abbrev pub HasPatternFault : Scope → List PathTree → Place → TypeFault → Type 0
HasPatternFault S [] place f = NoFault place f
HasPatternFault S (p ∷ ps) place f = InOrder (BeginningFault p.start p.offset) (InOrder (PatternStepsFault S p.steps) (HasPatternFault S ps)) place f

-- the first fault of a pattern
abbrev pub IsFirstPatternTypeFault : Scope → List PathTree → TypeFault → Type 0
IsFirstPatternTypeFault S ps f = IsFirst (HasPatternFault S ps) f
