-- The cells that an accepted command touches: by the tree before it, and by the tree after it and what is kept of the command.
use Rattle.std.specs.Prelude.{ℕ, Bool, false, ◌==◌, ◌&&◌, ◌||◌, Option, None, Some}
use Rattle.doc_tree.specs.cell.Cell.{Cell}
use Rattle.doc_tree.specs.cell.Cell.TheVariants.{Kids, Shape, Attrs, Value, Text, Name}
use Rattle.doc_tree.specs.Changes.{Meeting}
use Rattle.doc_tree.specs.Lists.{mem}
use Rattle.doc_tree.specs.NameTests.{attribute_meant}
use Rattle.doc_tree.specs.Table.{Table, parent_of}
use Rattle.doc_tree.specs.Walks.{ancestors}
use Rattle.doc_edit_laws.specs.Touching.{touched_attributes, touched_deletion, touched_kids, touched_name, touched_saying}
use Rattle.name_scopes.specs.QNames.{local_part, prefix_part}
use Rattle.edit_script.specs.declared.command.Command.{Command}
use Rattle.edit_script.specs.declared.command.Command.TheVariants.{Insert, Delete, SetText, SetAttr, UnsetAttr, Rename, RenameAttr}
use Rattle.edit_commands.specs.declared.touched.Touched.{Touched}
use Rattle.edit_commands.specs.declared.touched.Touched.TheVariants.{Said, Attributes, Below, Named}
use Rattle.edit_commands.specs.Commands.{path_of}
use Rattle.edit_commands.specs.Paths.{node_named}

-- an attribute that is there gets a value, or another comes to an element
abbrev pub touched_setting : Table → ℕ → Option ℕ → Cell → Bool
touched_setting T n (Some a) = touched_saying T a
touched_setting T n None = touched_attributes n

-- an attribute that is there gets another name
abbrev pub touched_renaming : Option ℕ → Cell → Bool
touched_renaming (Some a) = touched_name a
touched_renaming None = λ _. false

abbrev pub touched_under : Table → ℕ → Option ℕ → Cell → Bool
touched_under T n (Some p) = touched_deletion T n p
touched_under T n None = λ _. false

-- the cells that a command touches at its node
abbrev pub touched_at : Table → Command → ℕ → Cell → Bool
touched_at T (Insert path at piece) n = touched_kids T n
touched_at T (Delete path) n = touched_under T n (parent_of T n)
touched_at T (SetText path text) n = touched_saying T n
touched_at T (SetAttr path name value) n =
    touched_setting T n (attribute_meant T n (prefix_part name) (local_part name))
touched_at T (UnsetAttr path name) n = touched_attributes n
touched_at T (Rename path name) n = touched_name n
touched_at T (RenameAttr path old name) n = touched_renaming (attribute_meant T n (prefix_part old) (local_part old))

abbrev pub touched_where : Table → Command → Option ℕ → Cell → Bool
touched_where T command (Some n) = touched_at T command n
touched_where T command None = λ _. false

-- the cells that a command touches
abbrev pub touched_by : Table → Command → Cell → Bool
touched_by T command = touched_where T command (node_named T (path_of command))

-- a node says another text: its value, and of a text the texts of all above it
abbrev pub said_cell : Table → ℕ → Bool → Cell → Bool
said_cell T n is_text (Value m) = m == n
said_cell T n is_text (Text m) = is_text && mem m (ancestors T n)
said_cell T n is_text (Kids m) = false
said_cell T n is_text (Shape m) = false
said_cell T n is_text (Attrs m) = false
said_cell T n is_text (Name m) = false

-- of two texts that meet the left one
abbrev pub left_of : Option Meeting → Option ℕ
left_of None = None
left_of (Some texts) = Some texts.left

-- of two texts that met the left one says both: its value
abbrev pub left_cell : Option ℕ → Cell → Bool
left_cell None c = false
left_cell (Some left) (Value m) = m == left
left_cell (Some left) (Kids m) = false
left_cell (Some left) (Shape m) = false
left_cell (Some left) (Attrs m) = false
left_cell (Some left) (Text m) = false
left_cell (Some left) (Name m) = false

-- whether what was touched holds a cell, by the tree as the command left it
abbrev pub holds_cell : Table → Touched → Cell → Bool
holds_cell T (Said n is_text) c = said_cell T n is_text c
holds_cell T (Attributes n) c = touched_attributes n c
holds_cell T (Below p left) c = touched_kids T p c || left_cell left c
holds_cell T (Named n) c = touched_name n c
