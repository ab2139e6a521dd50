-- What a command of an edit script does to a document: the first reason for which it is refused, or the new tree.
use Rattle.std.specs.Prelude.{◌≡◌, ◌≢◌, ℕ, ◌+◌, ◌-◌, false, nat_lt, List, [], ◌∷◌, length, sum_by, Option, None, Some, if◌then◌else◌}
use Rattle.std.specs.List.{list_any}
use Rattle.std.specs.Option.{option_or}
use Rattle.pyx_core.specs.declared.event.Event.{Event}
use Rattle.pyx_core.specs.declared.event.Event.TheVariants as event
use Rattle.doc_tree.specs.kind.Kind.{Kind}
use Rattle.doc_tree.specs.kind.Kind.TheVariants as kinds
use Rattle.doc_tree.specs.limits.TheConstants.{MAX_LIVE_TEXT_BYTES, MAX_NODE_NUMBERS}
use Rattle.doc_tree.specs.declared.refusal.EditRefusal.{EditRefusal}
use Rattle.doc_tree.specs.declared.refusal.EditRefusal.TheVariants.{NoNode, TooMuchText, IdsSpent, TooManyPairs}
use Rattle.doc_tree.specs.Changes.{deleted, inserted, meeting, said}
use Rattle.doc_tree.specs.Edited.{attribute_renamed, attribute_set, attribute_unset, element_renamed}
use Rattle.doc_tree.specs.Laws.{WellFormed}
use Rattle.doc_tree.specs.Refusals.{attribute_renaming_refusal, deletion_refusal, place_refusal, renaming_refusal, setting_refusal, text_refusal, unsetting_refusal}
use Rattle.doc_tree.specs.Scope.{scope_at}
use Rattle.doc_tree.specs.Table.{Contents, Table, kids_above, parent_of}
use Rattle.doc_tree.specs.Walks.{order, text_bytes}
use Rattle.name_scopes.specs.Fragments.{ScopedPiece, event_nodes, is_start, piece_refusal, plain_text}
use Rattle.name_scopes.specs.QNames.{local_part, prefix_part}
use Rattle.edit_script.specs.declared.command.Command.{Command}
use Rattle.edit_script.specs.declared.command.Command.TheVariants.{Insert, Delete, SetText, SetAttr, UnsetAttr, Rename, RenameAttr}
use Rattle.edit_script.specs.declared.command.PathStep.{PathStep}
use Rattle.edit_commands.specs.declared.refusal.ApplyError.{ApplyError}
use Rattle.edit_commands.specs.declared.refusal.ApplyError.TheVariants.{Refused, Memory}
use Rattle.edit_commands.specs.Paths.{node_named}

abbrev pub path_of : Command → List PathStep
path_of (Insert path at piece) = path
path_of (Delete path) = path
path_of (SetText path text) = path
path_of (SetAttr path name value) = path
path_of (UnsetAttr path name) = path
path_of (Rename path name) = path
path_of (RenameAttr path old name) = path

-- the kind of the one item of a fragment
abbrev pub top_kind : List Event → Option Kind
top_kind [] = None
top_kind (event.Start name attrs ∷ events) = Some kinds.Element
top_kind (event.End name ∷ events) = None
top_kind (event.Chars text ∷ events) = Some kinds.Text
top_kind (event.Pi target body ∷ events) = Some kinds.Pi
top_kind (event.Comment text ∷ events) = Some kinds.Comment

-- a fragment brings more text, more node numbers, or more live nodes than there may be
abbrev pub size_refusal : Contents → List Event → Option EditRefusal
size_refusal tree events =
    if nat_lt MAX_LIVE_TEXT_BYTES (text_bytes tree.nodes + sum_by plain_text events) then Some TooMuchText
    else if nat_lt MAX_NODE_NUMBERS (length tree.nodes + sum_by event_nodes events) then Some IdsSpent
    else if nat_lt tree.pair_cap (length (order tree.nodes) + sum_by event_nodes events) then Some TooManyPairs
    else None

-- a fragment comes under a node: its place, its names and nodes, its size
abbrev pub insertion_refusal : Contents → ℕ → ℕ → List Event → Option EditRefusal
insertion_refusal tree p at events =
    option_or (place_refusal tree.nodes p at (top_kind events)) (option_or (piece_refusal tree.nodes p events) (size_refusal tree events))

-- the first reason against a command at its node
abbrev pub refusal_at : Contents → Command → ℕ → Option EditRefusal
refusal_at tree (Insert path at piece) n = insertion_refusal tree n at piece
refusal_at tree (Delete path) n = deletion_refusal tree.nodes n
refusal_at tree (SetText path text) n = text_refusal tree.nodes n text
refusal_at tree (SetAttr path name value) n = setting_refusal tree n (prefix_part name) (local_part name) value
refusal_at tree (UnsetAttr path name) n = unsetting_refusal tree.nodes n (prefix_part name) (local_part name)
refusal_at tree (Rename path name) n = renaming_refusal tree.nodes n (prefix_part name)
refusal_at tree (RenameAttr path old name) n =
    attribute_renaming_refusal tree.nodes n (prefix_part old) (local_part old) (prefix_part name) (local_part name)

abbrev pub refusal_where : Contents → Command → Option ℕ → Option EditRefusal
refusal_where tree command None = Some NoNode
refusal_where tree command (Some n) = refusal_at tree command n

-- the first reason for which a command is refused; None where it is accepted
abbrev pub command_refusal : Contents → Command → Option EditRefusal
command_refusal tree command = refusal_where tree command (node_named tree.nodes (path_of command))

-- U is T with the fragment as the kid with a number, counted from 1, of a node
pub record InsertedAt (T : Table) (p at : ℕ) (events : List Event) (U : Table) : Type 0 where
  pub piece : Table
  pub well_formed : WellFormed piece
  pub scoped : ScopedPiece (scope_at T p) events piece
  pub is : U ≡ inserted T p (at - 1) piece

-- U is what an accepted command at its node makes of T
abbrev pub EditedAt : Table → Command → ℕ → Table → Type 0
EditedAt T (Insert path at piece) n U = InsertedAt T n at piece U
EditedAt T (Delete path) n U = U ≡ deleted T n
EditedAt T (SetText path text) n U = U ≡ said T n text
EditedAt T (SetAttr path name value) n U = U ≡ attribute_set T n (prefix_part name) (local_part name) value
EditedAt T (UnsetAttr path name) n U = U ≡ attribute_unset T n (prefix_part name) (local_part name)
EditedAt T (Rename path name) n U = U ≡ element_renamed T n (prefix_part name) (local_part name)
EditedAt T (RenameAttr path old name) n U =
    U ≡ attribute_renamed T n (prefix_part old) (local_part old) (prefix_part name) (local_part name)

-- U is what an accepted command makes of T
pub record IsEdited (T : Table) (command : Command) (U : Table) : Type 0 where
  pub node : ℕ
  pub named : node_named T (path_of command) ≡ Some node
  pub edited : EditedAt T command node U

-- when a command can want memory at its node: where nothing speaks against another text, a value or a name; where a fragment
-- may come at its place and, if it has no tags, whose names are judged with memory, nothing speaks against its nodes; where a
-- node is deleted and two texts meet; not where an attribute goes
abbrev pub MayWantMemory : Contents → Command → ℕ → Type 0
MayWantMemory tree (Insert path at piece) n =
    (place_refusal tree.nodes n at (top_kind piece) ≡ None) × (list_any is_start piece ≡ false → piece_refusal tree.nodes n piece ≡ None)
MayWantMemory tree (Delete path) n = meeting tree.nodes n (kids_above tree.nodes (parent_of tree.nodes n)) ≢ None
MayWantMemory tree (SetText path text) n = text_refusal tree.nodes n text ≡ None
MayWantMemory tree (SetAttr path name value) n = setting_refusal tree n (prefix_part name) (local_part name) value ≡ None
MayWantMemory tree (UnsetAttr path name) n = ⊥
MayWantMemory tree (Rename path name) n = renaming_refusal tree.nodes n (prefix_part name) ≡ None
MayWantMemory tree (RenameAttr path old name) n =
    attribute_renaming_refusal tree.nodes n (prefix_part old) (local_part old) (prefix_part name) (local_part name) ≡ None

-- the answers to a command that isn't done at its node: the first reason against it, or want of memory where it can come
abbrev pub RefusesAt : Contents → Command → ℕ → ApplyError → Type 0
RefusesAt tree command n (Refused found) = refusal_at tree command n ≡ Some found
RefusesAt tree command n Memory = MayWantMemory tree command n

-- a path that names no node wants no memory
abbrev pub MayWantMemoryWhere : Contents → Command → Option ℕ → Type 0
MayWantMemoryWhere tree command None = ⊥
MayWantMemoryWhere tree command (Some n) = MayWantMemory tree command n

-- the answers to a command that isn't done
abbrev pub RefusesCommand : Contents → Command → ApplyError → Type 0
RefusesCommand tree command (Refused found) = command_refusal tree command ≡ Some found
RefusesCommand tree command Memory = MayWantMemoryWhere tree command (node_named tree.nodes (path_of command))
