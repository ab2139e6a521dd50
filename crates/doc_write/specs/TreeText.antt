-- The text of a tree: the lines of PYX that tell it.
use Rattle.std.specs.Prelude.{ℕ, List, [], ◌∷◌, ◌++◌}
use Rattle.std.specs.List.{flat_map}
use Rattle.pyx_core.specs.Written.{start_line, attr_line, end_line, chars_line, pi_line, comment_line}
use Rattle.doc_tree.specs.Lines.{Line, starts, declares, has_attribute, ends, has_text, has_comment, has_instruction, lines}
use Rattle.doc_tree.specs.Scope.{xmlns_prefix}
use Rattle.doc_tree.specs.QNames.{qname_of}
use Rattle.doc_tree.specs.Table.{Table}

-- the attribute that declares a prefix: `xmlns:p`, and `xmlns` for the default namespace (Namespaces in
-- XML 1.0, section 3)
abbrev pub declaring_name : List ℕ → List ℕ
declaring_name [] = xmlns_prefix
declaring_name (b ∷ prefix) = xmlns_prefix ++ 58 ∷ b ∷ prefix

-- how a line of a tree is written; a namespace is written where it is declared, and a processing instruction has its
-- target
abbrev pub line_text : Line → List ℕ
line_text (starts name) = start_line (qname_of name)
line_text (declares decl) = attr_line (declaring_name decl.0) decl.1
line_text (has_attribute name value) = attr_line (qname_of name) value
line_text (ends name) = end_line (qname_of name)
line_text (has_text characters) = chars_line characters
line_text (has_comment characters) = comment_line characters
line_text (has_instruction name body) = pi_line name.local body

-- the text of a tree: its lines in document order, an element's declarations before its attributes
abbrev pub tree_text : Table → List ℕ
tree_text T = flat_map line_text (lines T)
