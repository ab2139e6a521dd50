-- The cells that edits touch.
use Rattle.std.specs.Prelude.{ℕ, ◌==◌, Bool, false, ◌&&◌, ◌||◌, Option, None, Some}
use Rattle.doc_tree.specs.cell.Cell.{Cell}
use Rattle.doc_tree.specs.cell.Cell.TheVariants.{Kids, Shape, Attrs, Value, Text, Name}
use Rattle.doc_tree.specs.Kinds.{is_text}
use Rattle.doc_tree.specs.Lists.{mem}
use Rattle.doc_tree.specs.Table.{Table, kids_above, kind_of}
use Rattle.doc_tree.specs.Walks.{above, ancestors}
use Rattle.doc_edits.specs.Changes.{Meeting, meeting}

-- a node says another text: its value, and of a text the texts of all above it
abbrev pub touched_saying : Table → ℕ → Cell → Bool
touched_saying T n (Value m) = m == n
touched_saying T n (Text m) = is_text (kind_of T n) && mem m (ancestors T n)
touched_saying T n (Kids m) = false
touched_saying T n (Shape m) = false
touched_saying T n (Attrs m) = false
touched_saying T n (Name m) = false

-- a node gets another name
abbrev pub touched_name : ℕ → Cell → Bool
touched_name n (Name m) = m == n
touched_name n (Kids m) = false
touched_name n (Shape m) = false
touched_name n (Attrs m) = false
touched_name n (Value m) = false
touched_name n (Text m) = false

-- an attribute of an element comes or goes: its list of attributes
abbrev pub touched_attributes : ℕ → Cell → Bool
touched_attributes n (Attrs m) = m == n
touched_attributes n (Kids m) = false
touched_attributes n (Shape m) = false
touched_attributes n (Value m) = false
touched_attributes n (Text m) = false
touched_attributes n (Name m) = false

-- nodes come or go under a node: its kids, and of it and all above it what stands below and the texts
abbrev pub touched_kids : Table → ℕ → Cell → Bool
touched_kids T p (Kids m) = m == p
touched_kids T p (Shape m) = mem m (above T p)
touched_kids T p (Text m) = mem m (above T p)
touched_kids T p (Attrs m) = false
touched_kids T p (Value m) = false
touched_kids T p (Name m) = false

-- two texts meet: the value of the left one
abbrev pub touched_meeting : Option Meeting → Cell → Bool
touched_meeting None c = false
touched_meeting (Some texts) (Value m) = m == texts.left
touched_meeting (Some texts) c = false

-- a node under p is deleted
abbrev pub touched_deletion : Table → ℕ → ℕ → Cell → Bool
touched_deletion T n p c = touched_kids T p c || touched_meeting (meeting T n (kids_above T (Some p))) c
