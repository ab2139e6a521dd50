-- The first fault of a document: of an event that breaks a rule of Namespaces in XML 1.0 or passes a limit of trees,
-- and else of a line.
use Rattle.std.specs.Prelude.{◌≡◌, ℕ, suc, ◌+◌, Bool, false, ◌&&◌, ◌||◌, nat_lt, List, [], ◌∷◌, length, Option, None, Some, is_none, option_map, unwrap_or, if◌then◌else◌}
use Rattle.std.specs.List.{flat_map, list_any}
use Rattle.std.specs.Option.{option_or}
use Rattle.std.specs.Str.{bytes_eq}
use Rattle.pyx_core.specs.declared.event.Attr.{Attr}
use Rattle.pyx_core.specs.declared.event.Event.{Event}
use Rattle.pyx_core.specs.declared.event.Event.TheVariants as event
use Rattle.pyx_core.specs.declared.event.Located.{Located}
use Rattle.pyx_core.specs.declared.fault.PyxFault.{PyxFault}
use Rattle.pyx_core.specs.declared.mode.Mode.TheVariants.{Document}
use Rattle.pyx_core.specs.Reading.{events_before_fault, fault_of}
use Rattle.doc_tree.specs.limits.TheConstants.{MAX_DEPTH, MAX_LIVE_NODES}
use Rattle.doc_tree.specs.Table.{Name}
use Rattle.doc_tree.specs.Scope.{Decl, namespace_in}
use Rattle.name_scopes.specs.declared.fault.DocFault.{DocFault}
use Rattle.name_scopes.specs.declared.fault.DocKind.{DocKind}
use Rattle.name_scopes.specs.declared.fault.DocKind.TheVariants.{Pyx, NoPrefix, SameAttribute, BadDeclaration, BothQuotes, TooManyNodes, TooDeep}
use Rattle.name_scopes.specs.declared.fault.LoadError.{LoadError}
use Rattle.name_scopes.specs.declared.fault.LoadError.TheVariants.{Fault, Memory}
use Rattle.name_scopes.specs.QNames.{prefix_part, local_part}
use Rattle.name_scopes.specs.Declarations.{declarations, plain_attrs, is_bad_declaration, has_both_quotes}
use Rattle.name_scopes.specs.Scoping.{attribute_namespace}

-- the declarations of the open elements, the innermost element first, and how many nodes there are, the root counted
pub record Standing : Type 0 where
  pub scopes : List (List Decl)
  pub nodes : ℕ

-- in front of all events there is the root alone
abbrev pub begin : Standing
begin = record { scopes = []; nodes = 1 }

-- the declarations in scope, nearest first
abbrev pub in_scope : List (List Decl) → List Decl
in_scope scopes = flat_map (λ decls. decls) scopes

-- a prefix of an attribute that isn't in scope
abbrev pub lacks_prefix : List Decl → Attr → Bool
lacks_prefix scope attr = is_none (attribute_namespace scope (prefix_part attr.name))

-- the expanded name of an attribute: its local part and its namespace (section 2.1)
abbrev pub expanded_attr : List Decl → Attr → Name
expanded_attr scope attr = record { prefix = []; local = local_part attr.name; uri = unwrap_or (attribute_namespace scope (prefix_part attr.name)) [] }

-- two attributes with one QName (XML 1.0, section 3.1), or with one expanded name (section 6.3)
abbrev pub same_qname : Attr → Attr → Bool
same_qname a b = bytes_eq a.name b.name

abbrev pub same_expanded : List Decl → Attr → Attr → Bool
same_expanded scope a b =
    bytes_eq (expanded_attr scope a).local (expanded_attr scope b).local && bytes_eq (expanded_attr scope a).uri (expanded_attr scope b).uri

-- whether two items of a list are the same
abbrev pub has_pair : {A : Type 0} → (A → A → Bool) → List A → Bool
has_pair same [] = false
has_pair same (x ∷ xs) = list_any (same x) xs || has_pair same xs

-- the first rule that the declarations among the attributes break
abbrev pub declaring_fault : List Attr → Option DocKind
declaring_fault attrs =
    if list_any is_bad_declaration (declarations attrs) then Some BadDeclaration
    else if list_any has_both_quotes (declarations attrs) then Some BothQuotes
    else None

-- the first rule of names that the attributes of a start tag break, where this scope has its own declarations
abbrev pub attrs_fault : List Decl → List Attr → Option DocKind
attrs_fault scope attrs =
    if list_any (lacks_prefix scope) (plain_attrs attrs) then Some NoPrefix
    else if has_pair same_qname attrs || has_pair (same_expanded scope) (plain_attrs attrs) then Some SameAttribute
    else declaring_fault attrs

-- the same of a start tag
abbrev pub tag_fault : List Decl → List ℕ → List Attr → Option DocKind
tag_fault scope name attrs = if is_none (namespace_in scope (prefix_part name)) then Some NoPrefix else attrs_fault scope attrs

-- the first limit that the nodes of a start tag pass: so many nodes, and so deep an element
abbrev pub limit_fault : ℕ → ℕ → Option DocKind
limit_fault nodes depth =
    if nat_lt MAX_LIVE_NODES nodes then Some TooManyNodes
    else if nat_lt MAX_DEPTH depth then Some TooDeep
    else None

-- how many nodes a start tag brings: the element and its attributes
abbrev pub tag_nodes : List Attr → ℕ
tag_nodes attrs = suc (length (plain_attrs attrs))

-- what a start tag breaks or passes first; its own declarations are in scope
abbrev pub start_fault : Standing → List ℕ → List Attr → Option DocKind
start_fault standing name attrs =
    option_or (tag_fault (in_scope (declarations attrs ∷ standing.scopes)) name attrs)
    (limit_fault (standing.nodes + tag_nodes attrs) (suc (length standing.scopes)))

-- one node more passes the limit
abbrev pub node_fault : Standing → Option DocKind
node_fault standing = if nat_lt MAX_LIVE_NODES (suc standing.nodes) then Some TooManyNodes else None

-- what an event breaks or passes first
abbrev pub event_fault : Standing → Event → Option DocKind
event_fault standing (event.Start name attrs) = start_fault standing name attrs
event_fault standing (event.End name) = None
event_fault standing (event.Chars text) = node_fault standing
event_fault standing (event.Pi target body) = node_fault standing
event_fault standing (event.Comment text) = node_fault standing

-- the open elements round the innermost one
abbrev pub outer_scopes : List (List Decl) → List (List Decl)
outer_scopes [] = []
outer_scopes (decls ∷ scopes) = scopes

-- how things stand after an event
abbrev pub moved : Standing → Event → Standing
moved standing (event.Start name attrs) = record {
  scopes = declarations attrs ∷ standing.scopes;
  nodes = standing.nodes + tag_nodes attrs;
}
moved standing (event.End name) = record { scopes = outer_scopes standing.scopes; nodes = standing.nodes }
moved standing (event.Chars text) = record { scopes = standing.scopes; nodes = suc standing.nodes }
moved standing (event.Pi target body) = record { scopes = standing.scopes; nodes = suc standing.nodes }
moved standing (event.Comment text) = record { scopes = standing.scopes; nodes = suc standing.nodes }

-- a fault of a kind at an event, in the line where it begins
abbrev pub fault_at : ℕ → DocKind → DocFault
fault_at line what = record { line = line; kind = what }

-- the first fault of the events
abbrev pub first_fault : Standing → List Located → Option DocFault
first_fault standing [] = None
first_fault standing (found ∷ events) =
    option_or (option_map (fault_at found.line) (event_fault standing found.event)) (first_fault (moved standing found.event) events)

-- a fault of a line
abbrev pub line_fault : PyxFault → DocFault
line_fault fault = record { line = fault.line; kind = Pyx fault.kind }

-- the first fault of a document
abbrev pub doc_fault : List ℕ → Option DocFault
doc_fault bytes = option_or (first_fault begin (events_before_fault Document bytes)) (option_map line_fault (fault_of Document bytes))

-- the answers to a document: its first fault; want of memory comes at any time
abbrev pub Refuses : Option DocFault → LoadError → Type 0
Refuses fault (Fault found) = fault ≡ Some found
Refuses fault Memory = Unit {0}
