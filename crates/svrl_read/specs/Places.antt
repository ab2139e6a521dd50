-- The places of a report in a tree: its elements, and their attributes without a namespace.
use Rattle.std.specs.Prelude.{ℕ, List, [], Option, None, Some, find, option_and_then, option_map, unwrap_or, if◌then◌else◌}
use Rattle.std.specs.Str.{bytes_eq}
use Rattle.doc_tree.specs.Kinds.{is_element}
use Rattle.doc_tree.specs.NameTests.{attribute_named}
use Rattle.doc_tree.specs.Table.{Content, Name, Table, attribute, comment, content_of, element, instruction, kids_of, kind_of, root, text, value_of}
use Rattle.svrl_read.specs.declared.words.Word.{Word}
use Rattle.svrl_read.specs.Words.{svrl, word_of}

-- the first element among the root's kids, and the root where there is none
abbrev pub document_element : Table → ℕ
document_element T = unwrap_or (find (λ k. is_element (kind_of T k)) (kids_of T 0)) 0

-- the name of an element; None for a node of another kind
abbrev pub element_name : Option Content → Option Name
element_name None = None
element_name (Some root) = None
element_name (Some (element name _)) = Some name
element_name (Some (attribute _ _)) = None
element_name (Some (text _)) = None
element_name (Some (comment _)) = None
element_name (Some (instruction _ _)) = None

-- the local name of an element in the namespace of SVRL
abbrev pub local_in : Option Name → Option (List ℕ)
local_in None = None
local_in (Some name) = if bytes_eq name.uri svrl then Some name.local else None

-- which element of a report the node is
abbrev pub word_at : Table → ℕ → Option Word
word_at T n = option_and_then word_of (local_in (element_name (content_of T n)))

-- the value of the element's attribute with this name and no namespace
abbrev pub said : Table → ℕ → List ℕ → Option (List ℕ)
said T n name = option_map (value_of T) (attribute_named T n [] name)

-- that value, and no text where there is no such attribute
abbrev pub said_text : Table → ℕ → List ℕ → List ℕ
said_text T n name = unwrap_or (said T n name) []
