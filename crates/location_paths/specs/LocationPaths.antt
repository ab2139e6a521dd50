-- A location may stand in an edit script: read as a path there, it leads to its node. An attribute's is no path.
use Rattle.std.specs.Prelude.{◌≡◌, ℕ, true, List, Option, Some}
use Rattle.doc_tree.specs.Laws.{WellFormed, Ordered, HasWaysUp}
use Rattle.doc_tree.specs.Table.{Table, is_live, kind_of}
use Rattle.doc_tree.specs.kind.Kind.TheVariants.{Attribute}
use Rattle.doc_locations.specs.Locations.{location_of}
use Rattle.edit_script.specs.Paths.{path_of}
use Rattle.edit_script.specs.declared.command.PathStep.{PathStep}
use Rattle.edit_commands.specs.Paths.{node_named}

-- a text is a path that leads to the node
pub record IsPathTo (T : Table) (text : List ℕ) (n : ℕ) : Type 0 where
  pub path : List PathStep
  pub read : path_of text ≡ Some path
  pub leads : node_named T path ≡ Some n

abbrev pub LocationsArePaths : Type 0
LocationsArePaths = (T : Table) → WellFormed T → Ordered T → HasWaysUp T →
    (n : ℕ) → is_live T n ≡ true → (kind_of T n ≡ Some Attribute → ⊥) → IsPathTo T (location_of T n) n
