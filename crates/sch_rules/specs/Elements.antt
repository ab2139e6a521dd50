-- The elements of a schema in a tree: those of other namespaces are left out with all that they hold.
use Rattle.std.specs.Prelude.{ℕ, Bool, false, not, List, Option, None, Some, find, option_and_then, if◌then◌else◌}
use Rattle.std.specs.List.{list_any}
use Rattle.std.specs.Str.{bytes_eq}
use Rattle.doc_tree.specs.Kinds.{is_element}
use Rattle.doc_tree.specs.Table.{Content, Name, Table, attribute, comment, content_of, element, instruction, is_root, kids_of, kind_of, parent_of, root, text}
use Rattle.doc_tree.specs.Walks.{ancestors}
use Rattle.sch_rules.specs.declared.word.Word.{Word}
use Rattle.sch_rules.specs.Words.{schematron, word_of}

-- the name of an element; None for a node of another kind
abbrev pub element_name : Option Content → Option Name
element_name None = None
element_name (Some root) = None
element_name (Some (element name _)) = Some name
element_name (Some (attribute _ _)) = None
element_name (Some (text _)) = None
element_name (Some (comment _)) = None
element_name (Some (instruction _ _)) = None

-- the local name of an element in the namespace of Schematron
abbrev pub local_in : Option Name → Option (List ℕ)
local_in None = None
local_in (Some name) = if bytes_eq name.uri schematron then Some name.local else None

-- whether there is a name, and it is in another namespace
abbrev pub is_other_name : Option Name → Bool
is_other_name None = false
is_other_name (Some name) = not (bytes_eq name.uri schematron)

-- whether the node is an element of another namespace
abbrev pub is_foreign : Table → ℕ → Bool
is_foreign T n = is_other_name (element_name (content_of T n))

-- whether the node stands in an element of another namespace
abbrev pub is_ignored : Table → ℕ → Bool
is_ignored T n = list_any (is_foreign T) (ancestors T n)

-- the local name of the node, where it is an element of the namespace
abbrev pub local_at : Table → ℕ → Option (List ℕ)
local_at T n = local_in (element_name (content_of T n))

-- which element of a schema the node is
abbrev pub word_at : Table → ℕ → Option Word
word_at T n = option_and_then word_of (local_at T n)

-- which element of a schema the node's parent is
abbrev pub word_above : Table → ℕ → Option Word
word_above T n = option_and_then (word_at T) (parent_of T n)

abbrev pub is_at_top : Table → ℕ → Bool
is_at_top T n = is_root (parent_of T n)

-- the first element among the root's kids, and the root where there is none
abbrev pub first_or : ℕ → Option ℕ → ℕ
first_or n None = n
first_or n (Some first) = first

abbrev pub document_element : Table → ℕ
document_element T = first_or 0 (find (λ k. is_element (kind_of T k)) (kids_of T 0))
