-- The events of a node and of all below it: the fragment that tells it (Namespaces in XML 1.0, section 3, and XPath 1.0, section 5).
use Rattle.std.specs.Prelude.{ℕ, List, [], ◌∷◌, ◌++◌, map, Option, None, Some}
use Rattle.std.specs.List.{flat_map}
use Rattle.pyx_core.specs.declared.event.Attr.{Attr}
use Rattle.pyx_core.specs.declared.event.Event.{Event}
use Rattle.pyx_core.specs.declared.event.Event.TheVariants.{Start, End, Chars, Pi, Comment}
use Rattle.doc_tree.specs.QNames.{qname_of}
use Rattle.doc_tree.specs.Scope.{Decl}
use Rattle.doc_tree.specs.Table.{Content, Table, root, element, attribute, text, comment, instruction, attrs_of, content_of}
use Rattle.doc_tree.specs.Walks.{walked}
use Rattle.name_scopes.specs.TreeText.{declaring_name}

-- the attribute that declares a prefix
abbrev pub declaring_attr : Decl → Attr
declaring_attr decl = record { name = declaring_name decl.0; value = decl.1 }

-- the attribute that a node is
abbrev pub attr_in : Option Content → List Attr
attr_in None = []
attr_in (Some root) = []
attr_in (Some (element name decls)) = []
attr_in (Some (attribute name value)) = record { name = qname_of name; value = value } ∷ []
attr_in (Some (text characters)) = []
attr_in (Some (comment characters)) = []
attr_in (Some (instruction name body)) = []

-- the attributes of an element's start tag, its declarations in front
abbrev pub tag_attrs : Table → ℕ → List Decl → List Attr
tag_attrs T n decls = map declaring_attr decls ++ flat_map (λ a. attr_in (content_of T a)) (attrs_of T n)

-- the event with which a node begins; attributes stand in the start tag
abbrev pub begin_events : Table → ℕ → Option Content → List Event
begin_events T n None = []
begin_events T n (Some root) = []
begin_events T n (Some (element name decls)) = Start (qname_of name) (tag_attrs T n decls) ∷ []
begin_events T n (Some (attribute name value)) = []
begin_events T n (Some (text characters)) = Chars characters ∷ []
begin_events T n (Some (comment characters)) = Comment characters ∷ []
begin_events T n (Some (instruction name body)) = Pi name.local body ∷ []

-- the event with which it ends
abbrev pub end_events : Option Content → List Event
end_events None = []
end_events (Some root) = []
end_events (Some (element name decls)) = End (qname_of name) ∷ []
end_events (Some (attribute name value)) = []
end_events (Some (text characters)) = []
end_events (Some (comment characters)) = []
end_events (Some (instruction name body)) = []

-- the events of a node and of all below it, in document order
abbrev pub events_below : Table → ℕ → List Event
events_below T n = walked T (λ m. begin_events T m (content_of T m)) (λ m. end_events (content_of T m)) n
