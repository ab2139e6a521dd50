-- The tree of the events of a document (XPath 1.0, section 5, Namespaces in XML 1.0).
use Rattle.std.specs.Prelude.{◌≡◌, ℕ, true, List, [], ◌∷◌, ◌++◌, map, length}
use Rattle.std.specs.List.{flat_map}
use Rattle.pyx_core.specs.declared.event.Attr.{Attr}
use Rattle.pyx_core.specs.declared.event.Event.{Event}
use Rattle.pyx_core.specs.declared.event.Event.TheVariants as event
use Rattle.doc_tree.specs.Lists.{upto}
use Rattle.doc_tree.specs.Table.{Table, Name, AllLive}
use Rattle.doc_tree.specs.Walks.{order}
use Rattle.doc_tree.specs.Lines.{Line, starts, declares, has_attribute, ends, has_text, has_comment, has_instruction, lines}
use Rattle.doc_tree.specs.Kinds.{is_document}
use Rattle.doc_tree.specs.Laws.{WellFormed}
use Rattle.name_scopes.specs.QNames.{name_in_namespace, as_written, unprefixed}
use Rattle.name_scopes.specs.Declarations.{declarations, plain_attrs}
use Rattle.name_scopes.specs.Scoping.{InScope}

-- the name that a QName spells, its namespace left out
abbrev pub written : List ℕ → Name
written qname = name_in_namespace qname []

abbrev pub attribute_line : Attr → Line
attribute_line attr = has_attribute (written attr.name) attr.value

-- what an event says of the document, namespaces left out; an element's declarations come before its attributes
abbrev pub said_by : Event → List Line
said_by (event.Start name attrs) =
    starts (written name) ∷ (map declares (declarations attrs) ++ map attribute_line (plain_attrs attrs))
said_by (event.End name) = ends (written name) ∷ []
said_by (event.Chars text) = has_text text ∷ []
said_by (event.Pi target body) = has_instruction (unprefixed target) body ∷ []
said_by (event.Comment text) = has_comment text ∷ []

-- a line of a document with the namespace of its name left out
abbrev pub unscoped : Line → Line
unscoped (starts name) = starts (as_written name)
unscoped (declares decl) = declares decl
unscoped (has_attribute name value) = has_attribute (as_written name) value
unscoped (ends name) = ends (as_written name)
unscoped (has_text characters) = has_text characters
unscoped (has_comment characters) = has_comment characters
unscoped (has_instruction name body) = has_instruction (as_written name) body

-- the tree says what the events say, in their order; its names are in the namespaces of the nearest declarations; its
-- numbers are in document order, and no others were made; and it is the tree of a document
pub record Scoped (events : List Event) (T : Table) : Type 0 where
  pub lines_are : map unscoped (lines T) ≡ flat_map said_by events
  pub in_scope : InScope T
  pub numbered : order T ≡ upto (length T)
  pub all_live : AllLive T
  pub well_formed : WellFormed T
  pub document : is_document T ≡ true

-- the events say all of their tree, its numbers too
abbrev pub OneTree : Type 0
OneTree = (events : List Event) (T U : Table) → Scoped events T → Scoped events U → T ≡ U
