-- What evaluation depends on: on what it reads, and on nothing else (XPath 1.0, sections 2 to 4).
use Rattle.std.specs.List.{list_any}
use Rattle.std.specs.Prelude.{◌≡◌, ℕ, Bool, false, List, [], ◌∷◌, Some, Ok}
use Rattle.doc_tree.specs.cell.Cell.{Cell}
use Rattle.doc_tree.specs.declared.axes.Axis.{Axis}
use Rattle.doc_tree.specs.declared.axes.NodeTest.{NodeTest}
use Rattle.doc_tree.specs.Table.{Table}
use Rattle.doc_edit_laws.specs.Agreement.{Agree, AllStay, IsTree, Stays}
use Rattle.xp_typed_tree.specs.TypedTree.{TypedTree, TypedTrees}
use Rattle.xp_outcome.specs.Cells.{cells_of}
use Rattle.xp_outcome.specs.Evaluation.{Evaluation, Read, cell, names_along, variable}
use Rattle.xp_outcome.specs.Slots.{in_slot}
use Rattle.xp_values.specs.declared.values.Value.{Value}
use Rattle.xp_meaning.specs.declared.context.Context.{Context}
use Rattle.xp_meaning.specs.Conversions.{nodes_of}
use Rattle.xp_meaning.specs.Evaluation.{Lets, all_true, meaning, meanings}
use Rattle.xp_meaning.specs.Paths.{step_at}

-- what was read stands: the cell wasn't touched, none of the names along the axis was, or the let has the same value or fault, whose
-- nodes live in both trees
abbrev pub Kept : Table → Table → (Cell → Bool) → Lets → Lets → Read → Type 0
Kept T U touched L M (cell c) = touched c ≡ false
Kept T U touched L M (names_along axis n) = list_any touched (cells_of T (names_along axis n)) ≡ false
Kept T U touched L M (variable slot) = (in_slot L slot ≡ in_slot M slot) × ((v : Value) → in_slot L slot ≡ Some (Ok v) → AllStay T U (nodes_of v))

abbrev pub AllKept : Table → Table → (Cell → Bool) → Lets → Lets → List Read → Type 0
AllKept T U touched L M [] = Unit {0}
AllKept T U touched L M (x ∷ xs) = Kept T U touched L M x × AllKept T U touched L M xs

-- the nodes of a context live in both trees
pub record ContextStays (T U : Table) (c : Context) : Type 0 where
  pub node : Stays T U c.node
  pub current : Stays T U c.current

-- what may be asked of two trees and two tables of lets
pub record Changed (T U : Table) (touched : Cell → Bool) : Type 0 where
  pub before : IsTree T
  pub after : IsTree U
  pub agree : Agree T U touched

-- an evaluation is the same after as before, and the nodes of its answer live in both trees
pub record Stands {F A : Type 0} (T U : Table) (nodes : A → List ℕ) (before after : Evaluation F A) : Type 0 where
  pub same : after ≡ before
  pub stay : (v : A) → before.answer ≡ Ok v → AllStay T U (nodes v)

abbrev pub ExpressionsAreLocal : Type 0
ExpressionsAreLocal =
    (T U : Table) (touched : Cell → Bool) (L M : Lets) (t : TypedTree) (c : Context) → Changed T U touched → ContextStays T U c →
    AllKept T U touched L M (meaning T L t c).reads → Stands T U nodes_of (meaning T L t c) (meaning U M t c)

-- the same of a step at a node
abbrev pub StepsAreLocal : Type 0
StepsAreLocal =
    (T U : Table) (touched : Cell → Bool) (L M : Lets) (axis : Axis) (node_test : NodeTest) (predicates : TypedTrees) (current n : ℕ) →
    Changed T U touched → Stays T U current → Stays T U n →
    AllKept T U touched L M (step_at T (record { axis = axis; test = node_test; predicates = meanings T L predicates }) current n).reads →
    Stands T U (λ ns. ns) (step_at T (record { axis = axis; test = node_test; predicates = meanings T L predicates }) current n)
    (step_at U (record { axis = axis; test = node_test; predicates = meanings U M predicates }) current n)

-- and of predicates that are all to be true
abbrev pub PredicatesAreLocal : Type 0
PredicatesAreLocal =
    (T U : Table) (touched : Cell → Bool) (L M : Lets) (predicates : TypedTrees) (c : Context) → Changed T U touched → ContextStays T U c →
    AllKept T U touched L M (all_true (meanings T L predicates) c).reads →
    Stands T U (λ _. []) (all_true (meanings T L predicates) c) (all_true (meanings U M predicates) c)
