-- The path to a node: from the root down, each step to a kid by its kind and its place among the kids of that kind.
use Rattle.std.specs.Prelude.{◌≡◌, ◌≢◌, ℕ, suc, true, List, [], ◌∷◌, ◌++◌, Option, None, Some}
use Rattle.doc_tree.specs.kind.Kind.{Kind}
use Rattle.doc_tree.specs.kind.Kind.TheVariants.{Attribute}
use Rattle.doc_tree.specs.Laws.{WellFormed}
use Rattle.doc_tree.specs.Lists.{place_in}
use Rattle.doc_tree.specs.Table.{Table, is_live, kind_of, parent_of}
use Rattle.doc_tree.specs.Walks.{above}
use Rattle.edit_script.specs.WellFormed.{IsPath}
use Rattle.edit_script.specs.declared.command.PathStep.{PathStep}
use Rattle.edit_commands.specs.Paths.{kids_of_kind, node_named}

-- the step to a node of a kind from its parent; none where it has no parent
abbrev pub step_to : Table → ℕ → Option ℕ → Option Kind → List PathStep
step_to T n None kind = []
step_to T n (Some p) None = []
step_to T n (Some p) (Some kind) = record { kind = kind; index = suc (place_in n (kids_of_kind T p kind)) } ∷ []

-- the steps to the nodes of a way up, the uppermost first
abbrev pub steps_down : Table → List ℕ → List PathStep
steps_down T [] = []
steps_down T (n ∷ ns) = steps_down T ns ++ step_to T n (parent_of T n) (kind_of T n)

abbrev pub path_to : Table → ℕ → List PathStep
path_to T n = steps_down T (above T n)

-- it leads to the node, and a script can hold it
pub record LeadsTo (T : Table) (n : ℕ) (path : List PathStep) : Type 0 where
  pub named : node_named T path ≡ Some n
  pub formed : IsPath path

-- each node but attributes has one
abbrev pub PathsLead : Type 0
PathsLead = (T : Table) (n : ℕ) → WellFormed T → is_live T n ≡ true → kind_of T n ≢ Some Attribute → LeadsTo T n (path_to T n)
