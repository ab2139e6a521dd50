-- A document as lines, which say all of it but its node numbers: what stands where, and in which order.
use Rattle.std.specs.Prelude.{ℕ, List, [], ◌∷◌, Option, None, Some, map}
use Rattle.std.specs.List.{flat_map}
use Rattle.doc_table.specs.Table.{Table, Name, Content, root, element, attribute, text, comment, instruction, content_of}
use Rattle.doc_table.specs.Walks.{walked, above}

pub data Line : Type 0 where
  starts : Name → Line
  declares : List ℕ × List ℕ → Line
  has_attribute : Name → List ℕ → Line
  ends : Name → Line
  has_text : List ℕ → Line
  has_comment : List ℕ → Line
  has_instruction : Name → List ℕ → Line

-- the lines with which a node of this content begins: its own and its declarations
abbrev pub first_lines : Content → List Line
first_lines root = []
first_lines (element name decls) = starts name ∷ map declares decls
first_lines (attribute name value) = has_attribute name value ∷ []
first_lines (text characters) = has_text characters ∷ []
first_lines (comment characters) = has_comment characters ∷ []
first_lines (instruction name characters) = has_instruction name characters ∷ []

-- the line with which a node of this content ends: an element's end
abbrev pub last_lines : Content → List Line
last_lines root = []
last_lines (element name _) = ends name ∷ []
last_lines (attribute _ _) = []
last_lines (text _) = []
last_lines (comment _) = []
last_lines (instruction _ _) = []

abbrev pub lines_at : (Content → List Line) → Option Content → List Line
lines_at lines None = []
lines_at lines (Some content) = lines content

abbrev pub opens : Table → ℕ → List Line
opens T n = lines_at first_lines (content_of T n)

abbrev pub closes : Table → ℕ → List Line
closes T n = lines_at last_lines (content_of T n)

-- the lines of a node and all below it
abbrev pub lines_below : Table → ℕ → List Line
lines_below T n = walked T (opens T) (closes T) n

-- the lines of the whole document
abbrev pub lines : Table → List Line
lines T = lines_below T 0

-- the ends of a node and of its ancestors, nearest first
abbrev pub closing : Table → ℕ → List Line
closing T n = flat_map (closes T) (above T n)
