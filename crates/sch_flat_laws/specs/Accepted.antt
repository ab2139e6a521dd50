-- The document of a flat schema is accepted as a schema.
use Rattle.std.specs.Prelude.{◌≡◌, ℕ, length, true, Option, None, Some}
use Rattle.doc_tree.specs.Laws.{WellFormed}
use Rattle.doc_tree.specs.Lists.{upto}
use Rattle.doc_tree.specs.Table.{Table, Content, root, element, attribute, text, comment, instruction, content_of}
use Rattle.doc_tree.specs.Walks.{order}
use Rattle.name_scopes.specs.ScopedTree.{Scoped}
use Rattle.name_scopes.specs.Scoping.{InScope}
use Rattle.pyx_core.specs.declared.mode.Mode.TheVariants.{Document}
use Rattle.pyx_core.specs.Nesting.{of_chars}
use Rattle.pyx_core.specs.Written.{Gives, text_of}
use Rattle.sch_model.specs.declared.flat.FlatSchema.{FlatSchema}
use Rattle.sch_rules.specs.FirstBroken.{first_broken}
use Rattle.sch_rules.specs.RawSchema.{raw_schema}
use Rattle.sch_abstract.specs.FirstFault.{first_fault}
use Rattle.sch_expansion.specs.Flat.{flat_schema}
use Rattle.sch_flat.specs.FlatDocument.{flat_events}
use Rattle.sch_model.specs.Placeless.{placeless_flat}
use Rattle.sch_flat_laws.specs.Readable.{ReadableSchema}
use Rattle.sch_flat_laws.specs.Allowed.{Allowed}

-- the tree of a schema's document breaks no rule, where the names of the schema have their forms and differ
abbrev pub FlatDocumentsBreakNoRule : Type 0
FlatDocumentsBreakNoRule = (schema : FlatSchema) (T : Table) → Scoped (flat_events schema) T → ReadableSchema schema → Allowed schema →
    first_broken T ≡ None

-- no other schema has such a document
abbrev pub FlatDocumentsAreAllowed : Type 0
FlatDocumentsAreAllowed = (schema : FlatSchema) (T : Table) → Scoped (flat_events schema) T → ReadableSchema schema → first_broken T ≡ None →
    Allowed schema

-- the text of a node is made of Chars (XML 1.0, section 2.2)
abbrev pub MadeContent : Option Content → Type 0
MadeContent None = Unit {0}
MadeContent (Some root) = Unit {0}
MadeContent (Some (element name decls)) = Unit {0}
MadeContent (Some (attribute name value)) = of_chars value ≡ true
MadeContent (Some (text characters)) = of_chars characters ≡ true
MadeContent (Some (comment characters)) = of_chars characters ≡ true
MadeContent (Some (instruction target body)) = of_chars body ≡ true

-- a tree whose texts are made of Chars
abbrev pub MadeOfChars : Table → Type 0
MadeOfChars T = (n : ℕ) → MadeContent (content_of T n)

-- a tree whose names are in scope is one
abbrev pub ScopedTreesAreMade : Type 0
ScopedTreesAreMade = (T : Table) → InScope T → MadeOfChars T

-- a document that breaks no rule from 1 to 9, as its tree
pub record IsSchema (T : Table) : Type 0 where
  pub well_formed : WellFormed T
  pub made : MadeOfChars T
  pub numbered : order T ≡ upto (length T)
  pub unbroken : first_broken T ≡ None

-- what is read of such a document can be said by one again
abbrev pub ReadingsAreReadable : Type 0
ReadingsAreReadable = (T : Table) → IsSchema T → ReadableSchema (flat_schema (raw_schema T)) × Allowed (flat_schema (raw_schema T))

-- a document that is read and expanded: it breaks no rule from 1 to 9, and its schema none from 10 to 19, nor 32
pub record IsAccepted (T : Table) : Type 0 where
  pub schema : IsSchema T
  pub fits : first_fault (raw_schema T) ≡ None

-- the second document is read and expanded too, to the schema of the first; only the places of its parts differ
pub record StaysAccepted (T U : Table) : Type 0 where
  pub accepted : IsAccepted U
  pub same : placeless_flat (flat_schema (raw_schema U)) ≡ placeless_flat (flat_schema (raw_schema T))

-- the document of what a document is expanded to stays so
abbrev pub ExpansionIsAcceptedAgain : Type 0
ExpansionIsAcceptedAgain = (T U : Table) → IsAccepted T → Scoped (flat_events (flat_schema (raw_schema T))) U → StaysAccepted T U

-- the document of what is read is written as lines that are read as that document again
abbrev pub ExpansionsAreDocuments : Type 0
ExpansionsAreDocuments = (T : Table) → MadeOfChars T →
    Gives Document (text_of (flat_events (flat_schema (raw_schema T)))) (flat_events (flat_schema (raw_schema T)))
