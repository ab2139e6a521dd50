-- An expression, and so a match pattern, has one typed tree and no fault, or has a fault, and one first one.
use Rattle.std.specs.Prelude.{◌≡◌, ◌⊎◌, List}
use Rattle.xp_tree.specs.Tree.{Tree}
use Rattle.xp_tree.specs.PatternTree.{PathTree}
use Rattle.xp_typed_tree.specs.TypedTree.{TypedTree, TypedPathTree}
use Rattle.xp_typed_tree.specs.Slots.{slots_in, slots_in_paths}
use Rattle.xp_types.specs.declared.faults.TypeFault.{TypeFault}
use Rattle.xp_types.specs.Scope.{Scope}
use Rattle.xp_types.specs.Places.{Place}
use Rattle.xp_types.specs.HasType.{HasType}
use Rattle.xp_types.specs.TypeFaults.{HasFault, IsFirstTypeFault}
use Rattle.xp_types.specs.PatternTypes.{PatternHasType}
use Rattle.xp_types.specs.PatternFaults.{HasPatternFault, IsFirstPatternTypeFault}
use Rattle.xp_types.specs.SlotsInScope.{AreVariables}

-- each has a typed tree or a first fault
abbrev pub EachIsTypedOrRefused : Type 0
EachIsTypedOrRefused = (S : Scope) (e : Tree) → ((t : TypedTree) × HasType S e t) ⊎ ((f : TypeFault) × IsFirstTypeFault S e f)

abbrev pub EachPatternIsTypedOrRefused : Type 0
EachPatternIsTypedOrRefused = (S : Scope) (ps : List PathTree) →
    ((ts : List TypedPathTree) × PatternHasType S ps ts) ⊎ ((f : TypeFault) × IsFirstPatternTypeFault S ps f)

-- where there is a typed tree there is no fault
abbrev pub TypedHaveNoFault : Type 0
TypedHaveNoFault = (S : Scope) (e : Tree) (t : TypedTree) (place : Place) (f : TypeFault) → HasType S e t → HasFault S e place f → ⊥

abbrev pub TypedPatternsHaveNoFault : Type 0
TypedPatternsHaveNoFault = (S : Scope) (ps : List PathTree) (ts : List TypedPathTree) (place : Place) (f : TypeFault) →
    PatternHasType S ps ts → HasPatternFault S ps place f → ⊥

-- two typed trees of one are the same
abbrev pub TypesAreUnique : Type 0
TypesAreUnique = (S : Scope) (e : Tree) (t u : TypedTree) → HasType S e t → HasType S e u → t ≡ u

abbrev pub PatternTypesAreUnique : Type 0
PatternTypesAreUnique = (S : Scope) (ps : List PathTree) (ts us : List TypedPathTree) → PatternHasType S ps ts → PatternHasType S ps us → ts ≡ us

-- two first faults of one are the same
abbrev pub FirstTypeFaultsAreUnique : Type 0
FirstTypeFaultsAreUnique = (S : Scope) (e : Tree) (f g : TypeFault) → IsFirstTypeFault S e f → IsFirstTypeFault S e g → f ≡ g

abbrev pub FirstPatternTypeFaultsAreUnique : Type 0
FirstPatternTypeFaultsAreUnique =
    (S : Scope) (ps : List PathTree) (f g : TypeFault) → IsFirstPatternTypeFault S ps f → IsFirstPatternTypeFault S ps g → f ≡ g

-- a typed tree names the slots of variables in scope, each with its variable's type
abbrev pub SlotsAreInScope : Type 0
SlotsAreInScope = (S : Scope) (e : Tree) (t : TypedTree) → HasType S e t → AreVariables S (slots_in t)

abbrev pub PatternSlotsAreInScope : Type 0
PatternSlotsAreInScope = (S : Scope) (ps : List PathTree) (ts : List TypedPathTree) → PatternHasType S ps ts → AreVariables S (slots_in_paths ts)
