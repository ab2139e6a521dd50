-- A document in scope comes back from the text that is written of it.
use Rattle.std.specs.Prelude.{◌≡◌, map, true, None}
use Rattle.std.specs.List.{flat_map}
use Rattle.pyx_core.specs.declared.mode.Mode.TheVariants.{Document}
use Rattle.pyx_core.specs.Nesting.{bare}
use Rattle.pyx_core.specs.Reading.{events_of, fault_of}
use Rattle.doc_tree.specs.Kinds.{is_document}
use Rattle.doc_tree.specs.Laws.{WellFormed}
use Rattle.doc_tree.specs.Lines.{lines}
use Rattle.doc_tree.specs.SameTree.{SameTree}
use Rattle.doc_tree.specs.Table.{Table}
use Rattle.doc_write.specs.TreeText.{tree_text}
use Rattle.name_scopes.specs.DocFaults.{doc_fault}
use Rattle.name_scopes.specs.ScopedTree.{Scoped, said_by, unscoped}
use Rattle.name_scopes.specs.Scoping.{InScope}

-- the text of a tree is read without fault, and its events say what the tree says, namespaces left out
pub record ComesBack (T : Table) : Type 0 where
  -- no line breaks a rule of PYX
  pub is_read : fault_of Document (tree_text T) ≡ None
  -- nor does an event break a rule of names (Namespaces in XML 1.0) or pass a limit of trees
  pub good : doc_fault (tree_text T) ≡ None
  -- what the events say, in their order
  pub lines_are : map unscoped (lines T) ≡ flat_map said_by (bare (events_of Document (tree_text T)))

-- the text of a document in scope comes back
abbrev pub TextComesBack : Type 0
TextComesBack = (T : Table) → WellFormed T → InScope T → is_document T ≡ true → ComesBack T

-- a tree of the events of its text is the same tree (XPath 1.0, section 5), and says what the document says, with the same
-- namespaces
abbrev pub TreeComesBack : Type 0
TreeComesBack =
    (T U : Table) → WellFormed T → InScope T → is_document T ≡ true → Scoped (bare (events_of Document (tree_text T))) U →
    SameTree T U × (lines U ≡ lines T)

-- the namespaces of a tree in scope follow from all else that it says
abbrev pub NamespacesFollow : Type 0
NamespacesFollow =
    (T U : Table) → WellFormed T → WellFormed U → InScope T → InScope U → map unscoped (lines T) ≡ map unscoped (lines U) → lines T ≡ lines U
