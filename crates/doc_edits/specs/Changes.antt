-- What edits make of the table of a tree (XPath 1.0, section 5).
use Rattle.std.specs.Prelude.{ℕ, zero, suc, ◌+◌, ◌==◌, not, ◌&&◌, List, [], ◌∷◌, ◌++◌, length, map, filter, take, drop, Option, None, Some, slice_set, if◌then◌else◌}
use Rattle.std.specs.List.{flat_map}
use Rattle.doc_table.specs.Lists.{place_in}
use Rattle.doc_table.specs.Kinds.{is_text}
use Rattle.doc_table.specs.Table.{Content, Facts, Name, Table, attribute, comment, element, entry_at, instruction, kids_above, kids_of, kind_of, parent_of, root, text, value_of}
use Rattle.doc_table.specs.Walks.{below}

-- a table in which the node at a number is another one
abbrev pub changed_at : ℕ → (Option Facts → Option Facts) → Table → Table
changed_at n change T = slice_set T n (change (entry_at T n))

-- a content that says another text: of an attribute the value, of an instruction the data
abbrev pub saying : List ℕ → Content → Content
saying new root = root
saying new (element name decls) = element name decls
saying new (attribute name value) = attribute name new
saying new (text characters) = text new
saying new (comment characters) = comment new
saying new (instruction name characters) = instruction name new

abbrev pub with_text : List ℕ → Option Facts → Option Facts
with_text new None = None
with_text new (Some node) = Some (record node { content = saying new node.content })

-- a node says another text
abbrev pub said : Table → ℕ → List ℕ → Table
said T n new = changed_at n (with_text new) T

-- a content with another name; only elements and attributes have one that changes
abbrev pub renaming : Name → Content → Content
renaming new root = root
renaming new (element name decls) = element new decls
renaming new (attribute name value) = attribute new value
renaming new (text characters) = text characters
renaming new (comment characters) = comment characters
renaming new (instruction name characters) = instruction name characters

abbrev pub with_name : Name → Option Facts → Option Facts
with_name new None = None
with_name new (Some node) = Some (record node { content = renaming new node.content })

-- a node gets another name
abbrev pub renamed : Table → ℕ → Name → Table
renamed T n new = changed_at n (with_name new) T

-- a list without a number
abbrev pub without : ℕ → List ℕ → List ℕ
without n ms = filter (λ m. not (m == n)) ms

abbrev pub without_link : ℕ → Option Facts → Option Facts
without_link n None = None
without_link n (Some node) = Some (record node { kids = without n node.kids; attributes = without n node.attributes })

-- no node lives at some numbers
abbrev pub cleared : List ℕ → Table → Table
cleared [] T = T
cleared (n ∷ ns) T = slice_set (cleared ns T) n None

abbrev pub removed_from : Table → ℕ → Option ℕ → Table
removed_from T n None = T
removed_from T n (Some p) = cleared (below T n) (changed_at p (without_link n) T)

-- a node, or an attribute, is gone with all below it
abbrev pub removed : Table → ℕ → Table
removed T n = removed_from T n (parent_of T n)

-- two texts that meet where the kid between them goes
pub record Meeting : Type 0 where
  pub left : ℕ
  pub right : ℕ

abbrev pub meeting : Table → ℕ → List ℕ → Option Meeting
meeting T n [] = None
meeting T n (l ∷ []) = None
meeting T n (l ∷ m ∷ []) = None
meeting T n (l ∷ m ∷ r ∷ ms) =
    if m == n then (if is_text (kind_of T l) && is_text (kind_of T r) then Some (record { left = l; right = r }) else None)
    else meeting T n (m ∷ r ∷ ms)

abbrev pub deleted_by : Table → ℕ → Option Meeting → Table
deleted_by T n None = removed T n
deleted_by T n (Some texts) = said (removed (removed T texts.right) n) texts.left (value_of T texts.left ++ value_of T texts.right)

-- a node is deleted; of two texts that meet then the left one says both, and the right one is gone
abbrev pub deleted : Table → ℕ → Table
deleted T n = deleted_by T n (meeting T n (kids_above T (parent_of T n)))

-- an attribute more, the last of its element; it takes the next number
abbrev pub with_attribute : ℕ → Option Facts → Option Facts
with_attribute a None = None
with_attribute a (Some node) = Some (record node { attributes = node.attributes ++ a ∷ [] })

abbrev pub gained : Table → ℕ → Name → List ℕ → Table
gained T n name value =
    changed_at n (with_attribute (length T)) T ++ Some (record { parent = Some n; kids = []; attributes = []; content = attribute name value }) ∷ []

-- a piece is a tree whose root has one kid; its nodes are that kid and all below it, in document order
abbrev pub nodes_in : Table → List ℕ
nodes_in P = flat_map (below P) (kids_of P 0)

-- the number that a node of a piece gets: the next ones, in document order
abbrev pub given_number : Table → Table → ℕ → ℕ
given_number T P m = length T + place_in m (nodes_in P)

-- the parent of what stands under a piece's root is the node under which the piece comes
abbrev pub given_parent : (ℕ → ℕ) → ℕ → Option ℕ → Option ℕ
given_parent number p None = None
given_parent number p (Some zero) = Some p
given_parent number p (Some (suc q)) = Some (number (suc q))

abbrev pub given : (ℕ → ℕ) → ℕ → Option Facts → Option Facts
given number p None = None
given number p (Some node) = Some (record {
  parent = given_parent number p node.parent;
  kids = map number node.kids;
  attributes = map number node.attributes;
  content = node.content;
})

abbrev pub with_kid : ℕ → ℕ → Option Facts → Option Facts
with_kid before k None = None
with_kid before k (Some node) = Some (record node { kids = take before node.kids ++ k ∷ drop before node.kids })

-- a piece comes under a node, behind so many of its kids
abbrev pub inserted : Table → ℕ → ℕ → Table → Table
inserted T p before P = changed_at p (with_kid before (length T)) T ++ map (λ m. given (given_number T P) p (entry_at P m)) (nodes_in P)
