-- Classes of nodes, and patterns that refuse all nodes of one: by their kinds and names alone.
use Rattle.std.specs.Prelude.{◌≡◌, ℕ, zero, suc, ◌+◌, true, false, List, [], ◌∷◌, ◌++◌, Option, None, Some, Ok, option_map, if◌then◌else◌}
use Rattle.doc_tree.specs.cell.Cell.TheVariants.{Name}
use Rattle.doc_tree.specs.Kinds.{is_element}
use Rattle.doc_tree.specs.Table.{Contents, Table, kind_of, name_of, numbered}
use Rattle.xp_typed_tree.specs.TypedTree.{TypedPathTree}
use Rattle.xp_outcome.specs.Evaluation.{Read, cell}
use Rattle.xp_outcome.specs.Recorded.{Recorded, note_all}
use Rattle.xp_outcome.specs.Running.{Ran}
use Rattle.xp_meaning.specs.Evaluation.{Lets}
use Rattle.xslt_match.specs.declared.refusing.NodeClass.{NodeClass}
use Rattle.xslt_match.specs.Matching.{matching}
use Rattle.xslt_match.specs.Names.{ancestor_at}

-- a node is of a class: of its kind, and an element has its name
pub record IsOfClass (C : Contents) (class : NodeClass) (n : ℕ) : Type 0 where
  pub kind : kind_of C.nodes n ≡ Some class.kind
  pub name : is_element (Some class.kind) ≡ true → name_of C.nodes n ≡ option_map (numbered C.names) class.name

-- the name of a node that may be missing, where it is an element
abbrev pub own_name : Table → Option ℕ → List Read
own_name T None = []
own_name T (Some m) = if is_element (kind_of T m) then cell (Name m) ∷ [] else []

-- the names of so many nodes from n upwards that are elements
abbrev pub names_up : Table → ℕ → ℕ → List Read
names_up T n zero = []
names_up T n (suc k) = names_up T n k ++ own_name T (ancestor_at T k n)

-- it does not match: that is one visit, and reads the names of so many nodes upwards
abbrev pub Refuses : Table → Lets → List TypedPathTree → ℕ → ℕ → Type 0
Refuses T L ps levels n = (held : Recorded) (count : ℕ) → Ran (matching T L ps n) (Ok false) held (note_all held (names_up T n levels)) count (count + 1)
