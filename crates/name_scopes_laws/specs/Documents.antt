-- Texts that are documents (Namespaces in XML 1.0, section 6).
use Rattle.std.specs.Prelude.{◌≡◌, ℕ, ◌≤◌, true, List, length, None}
use Rattle.doc_tree.specs.limits.TheConstants.{MAX_LIVE_TEXT_BYTES}
use Rattle.doc_tree.specs.Kinds.{is_document}
use Rattle.doc_tree.specs.Laws.{WellFormed}
use Rattle.doc_tree.specs.SameTree.{SameTree}
use Rattle.doc_tree.specs.Table.{Table}
use Rattle.pyx_core.specs.Nesting.{bare}
use Rattle.pyx_core.specs.Reading.{events_of}
use Rattle.pyx_core.specs.declared.mode.Mode.TheVariants.{Document}
use Rattle.name_scopes.specs.DocFaults.{doc_fault}
use Rattle.name_scopes.specs.ScopedTree.{Scoped}
use Rattle.name_scopes.specs.Scoping.{InScope}
use Rattle.name_scopes.specs.TreeText.{tree_text}

-- a text without fault, and no larger than a tree's text may be, has a tree
abbrev pub DocumentsHaveTrees : Type 0
DocumentsHaveTrees = (bytes : List ℕ) → doc_fault bytes ≡ None → length bytes ≤ MAX_LIVE_TEXT_BYTES → (T : Table) × Scoped (bare (events_of Document bytes)) T

-- the text of a document in scope has a tree: the same tree (XPath 1.0, section 5), with numbers of its own
abbrev pub DocumentsComeBack : Type 0
DocumentsComeBack =
    (T : Table) → WellFormed T → InScope T → is_document T ≡ true → (U : Table) × Scoped (bare (events_of Document (tree_text T))) U × SameTree T U
