-- The commands that take a command back, by the tree before it.
use Rattle.std.specs.Prelude.{ℕ, suc, ◌+◌, ◌-◌, List, [], ◌∷◌, ◌++◌, length, map, take, drop, count_by, Option, None, Some}
use Rattle.doc_tree.specs.kind.Kind.{Kind}
use Rattle.doc_tree.specs.Changes.{Meeting, meeting}
use Rattle.doc_tree.specs.Kinds.{is_kind}
use Rattle.doc_tree.specs.Lists.{place_in}
use Rattle.doc_tree.specs.NameTests.{attribute_meant}
use Rattle.doc_tree.specs.QNames.{written_in}
use Rattle.doc_tree.specs.Table.{Table, attrs_of, kids_above, kids_of, kind_of, name_of, parent_of, value_of}
use Rattle.doc_tree.specs.Walks.{below}
use Rattle.name_scopes.specs.QNames.{local_part, prefix_part}
use Rattle.subtree_events.specs.Events.{events_below}
use Rattle.edit_script.specs.declared.command.Command.{Command}
use Rattle.edit_script.specs.declared.command.Command.TheVariants.{Insert, Delete, SetText, SetAttr, UnsetAttr, Rename, RenameAttr}
use Rattle.edit_script.specs.declared.command.PathStep.{PathStep}
use Rattle.edit_commands.specs.Commands.{path_of, top_kind}
use Rattle.edit_commands.specs.Paths.{node_named}
use Rattle.edit_paths.specs.PathTo.{step_to}

-- the step to what comes under a node as the kid with a number, counted from 1: behind those of its kind before it
abbrev pub step_under : Table → ℕ → ℕ → Option Kind → List PathStep
step_under T p at None = []
step_under T p at (Some kind) = record { kind = kind; index = suc (count_by (λ k. is_kind kind (kind_of T k)) (take (at - 1) (kids_of T p))) } ∷ []

-- all steps of a path but the last: the path to the parent
abbrev pub path_above : List PathStep → List PathStep
path_above path = take (length path - 1) path

-- the number of a node among the kids of its parent, counted from 1
abbrev pub place_of : Table → ℕ → ℕ
place_of T n = suc (place_in n (kids_above T (parent_of T n)))

-- a node comes again at its place
abbrev pub comes_again : List PathStep → Table → ℕ → Command
comes_again parent T n = Insert parent (place_of T n) (events_below T n)

-- a node that was deleted comes again; where two texts met, the left one says its own text before, and the right one comes after
abbrev pub deletion_undone : List PathStep → Table → ℕ → Option Meeting → List Command
deletion_undone parent T n None = comes_again parent T n ∷ []
deletion_undone parent T n (Some texts) =
    SetText (parent ++ step_to T texts.left (parent_of T texts.left) (kind_of T texts.left)) (value_of T texts.left)
    ∷ comes_again parent T n ∷ comes_again parent T texts.right ∷ []

-- an attribute that had a value has it again, and another goes
abbrev pub setting_undone : List PathStep → List ℕ → Table → Option ℕ → List Command
setting_undone path name T None = UnsetAttr path name ∷ []
setting_undone path name T (Some a) = SetAttr path name (value_of T a) ∷ []

-- an attribute goes, or comes again, by its own name
abbrev pub attribute_goes : List PathStep → Table → ℕ → Command
attribute_goes path T a = UnsetAttr path (written_in (name_of T a))

abbrev pub attribute_comes : List PathStep → Table → ℕ → Command
attribute_comes path T a = SetAttr path (written_in (name_of T a)) (value_of T a)

-- those of a list that stand behind a number
abbrev pub behind : ℕ → List ℕ → List ℕ
behind n ns = drop (suc (place_in n ns)) ns

-- the attributes behind one that went go, and it and these come again in their order
abbrev pub unsetting_undone : List PathStep → Table → ℕ → Option ℕ → List Command
unsetting_undone path T n None = []
unsetting_undone path T n (Some a) =
    map (attribute_goes path T) (behind a (attrs_of T n)) ++ map (attribute_comes path T) (a ∷ behind a (attrs_of T n))

-- an attribute that had another name has it again
abbrev pub attribute_renaming_undone : List PathStep → List ℕ → Table → Option ℕ → List Command
attribute_renaming_undone path name T None = []
attribute_renaming_undone path name T (Some a) = RenameAttr path name (written_in (name_of T a)) ∷ []

-- what takes back a command at its node
abbrev pub undoing_at : Table → Command → ℕ → List Command
undoing_at T (Insert path at piece) n = Delete (path ++ step_under T n at (top_kind piece)) ∷ []
undoing_at T (Delete path) n = deletion_undone (path_above path) T n (meeting T n (kids_above T (parent_of T n)))
undoing_at T (SetText path text) n = SetText path (value_of T n) ∷ []
undoing_at T (SetAttr path name value) n = setting_undone path name T (attribute_meant T n (prefix_part name) (local_part name))
undoing_at T (UnsetAttr path name) n = unsetting_undone path T n (attribute_meant T n (prefix_part name) (local_part name))
undoing_at T (Rename path name) n = Rename path (written_in (name_of T n)) ∷ []
undoing_at T (RenameAttr path old name) n =
    attribute_renaming_undone path name T (attribute_meant T n (prefix_part old) (local_part old))

abbrev pub undoing_where : Table → Command → Option ℕ → List Command
undoing_where T command None = []
undoing_where T command (Some n) = undoing_at T command n

-- the commands that take a command back, in their order
abbrev pub undoing : Table → Command → List Command
undoing T command = undoing_where T command (node_named T (path_of command))

-- how many new numbers they make: one for each node or attribute that comes again
abbrev pub numbers_behind : Table → ℕ → Option ℕ → ℕ
numbers_behind T n None = 0
numbers_behind T n (Some a) = suc (length (behind a (attrs_of T n)))

abbrev pub numbers_met : Option Meeting → ℕ
numbers_met None = 0
numbers_met (Some texts) = 1

abbrev pub numbers_at : Table → Command → ℕ → ℕ
numbers_at T (Insert path at piece) n = 0
numbers_at T (Delete path) n = length (below T n) + numbers_met (meeting T n (kids_above T (parent_of T n)))
numbers_at T (SetText path text) n = 0
numbers_at T (SetAttr path name value) n = 0
numbers_at T (UnsetAttr path name) n = numbers_behind T n (attribute_meant T n (prefix_part name) (local_part name))
numbers_at T (Rename path name) n = 0
numbers_at T (RenameAttr path old name) n = 0

abbrev pub numbers_where : Table → Command → Option ℕ → ℕ
numbers_where T command None = 0
numbers_where T command (Some n) = numbers_at T command n

-- how many new numbers the commands make that take a command back
abbrev pub undoing_numbers : Table → Command → ℕ
undoing_numbers T command = numbers_where T command (node_named T (path_of command))
