-- The parts of a tree's text, node by node.
use Rattle.std.specs.Prelude.{ℕ, Bool, true, false, List, Option, None, Some}
use Rattle.std.specs.List.{flat_map}
use Rattle.pyx_core.specs.Written.{attr_line}
use Rattle.doc_tree.specs.kind.Kind.{Kind}
use Rattle.doc_tree.specs.kind.Kind.TheVariants.{Root, Element, Attribute, Text, Comment, Pi}
use Rattle.doc_tree.specs.Lines.{lines_below, opens, closes}
use Rattle.doc_tree.specs.Scope.{Decl}
use Rattle.doc_tree.specs.Table.{Table}
use Rattle.doc_write.specs.TreeText.{declaring_name, line_text}

-- the text of a node and all below it
abbrev pub text_below : Table → ℕ → List ℕ
text_below T n = flat_map line_text (lines_below T n)

-- the text with which a node begins, its attributes and kids left out
abbrev pub opening_text : Table → ℕ → List ℕ
opening_text T n = flat_map line_text (opens T n)

-- the text with which a node ends
abbrev pub closing_text : Table → ℕ → List ℕ
closing_text T n = flat_map line_text (closes T n)

-- the text of a declaration
abbrev pub decl_text : Decl → List ℕ
decl_text decl = attr_line (declaring_name decl.0) decl.1

-- whether the nodes of a kind have a name
abbrev pub has_name : Option Kind → Bool
has_name None = false
has_name (Some Root) = false
has_name (Some Element) = true
has_name (Some Attribute) = true
has_name (Some Text) = false
has_name (Some Comment) = false
has_name (Some Pi) = true
