-- What a meaning may read: the lets in slots that the expression names, and cells and names from nodes of the tree.
use Rattle.std.specs.Prelude.{◌≡◌, ℕ, ◌==◌, Bool, true, List, Ok, Some}
use Rattle.std.specs.List.{list_any, AllByRecursion as Each}
use Rattle.doc_tree.specs.Table.{Table, is_live}
use Rattle.xp_typed_tree.specs.declared.value_type.ValueType.{ValueType}
use Rattle.xp_typed_tree.specs.TypedTree.{TypedTree}
use Rattle.xp_typed_tree.specs.Slots.{slots_in}
use Rattle.xp_outcome.specs.Evaluation.{Read, cell, names_along, variable}
use Rattle.xp_outcome.specs.Recorded.{node_of}
use Rattle.xp_outcome.specs.Slots.{in_slot}
use Rattle.xp_values.specs.declared.values.Value.{Value}
use Rattle.xp_meaning.specs.Conversions.{nodes_of}
use Rattle.xp_meaning.specs.declared.context.Context.{Context}
use Rattle.xp_meaning.specs.Evaluation.{Lets, meaning}

-- whether a slot is among those named
abbrev pub is_named : List (ℕ × ValueType) → ℕ → Bool
is_named slots place = list_any (λ s. place == s.0) slots

-- a let that is read stands in a slot that is named
abbrev pub IsNamedRead : List (ℕ × ValueType) → Read → Type 0
IsNamedRead slots (cell c) = Unit {0}
IsNamedRead slots (names_along axis n) = Unit {0}
IsNamedRead slots (variable place) = is_named slots place ≡ true

-- a cell that is read is one of a live node, and names are read along axes from live nodes
abbrev pub IsLiveRead : Table → Read → Type 0
IsLiveRead T (cell c) = is_live T (node_of c) ≡ true
IsLiveRead T (names_along axis n) = is_live T n ≡ true
IsLiveRead T (variable place) = Unit {0}

-- nodes that live
abbrev pub AreLive : Table → List ℕ → Type 0
AreLive T nodes = Each (λ n. is_live T n ≡ true) nodes

-- the nodes of the lets' values live
abbrev pub LetsAreLive : Table → Lets → Type 0
LetsAreLive T L = (place : ℕ) (v : Value) → in_slot L place ≡ Some (Ok v) → AreLive T (nodes_of v)

-- the lets that are read are those in slots that the expression names
abbrev pub LetsReadAreNamed : Type 0
LetsReadAreNamed = (T : Table) (L : Lets) (t : TypedTree) (c : Context) → Each (IsNamedRead (slots_in t)) (meaning T L t c).reads

-- where the context's nodes and those of the lets live, the cells that are read are of live nodes
abbrev pub CellsReadAreLive : Table → Type 0
CellsReadAreLive T =
    (L : Lets) (t : TypedTree) (c : Context) → LetsAreLive T L → is_live T c.node ≡ true → is_live T c.current ≡ true →
    Each (IsLiveRead T) (meaning T L t c).reads
