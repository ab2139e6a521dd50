-- Files as trees: those that are documents, and those that are refused.
use Rattle.std.specs.Prelude.{◌≡◌, ℕ, List, None, Some, Result, Ok, Err}
use Rattle.doc_tree.specs.Table.{Table}
use Rattle.pyx_core.specs.declared.mode.Mode.TheVariants.{Document}
use Rattle.pyx_core.specs.Reading.{events_of}
use Rattle.pyx_core.specs.Nesting.{bare}
use Rattle.name_scopes.specs.ScopedTree.{Scoped}
use Rattle.name_scopes.specs.DocFaults.{doc_fault}
use Rattle.name_scopes.specs.declared.fault.DocFault.{DocFault}

-- the bytes are a document with this tree
pub record IsDocument (bytes : List ℕ) (T : Table) : Type 0 where
  pub sound : doc_fault bytes ≡ None
  pub scoped : Scoped (bare (events_of Document bytes)) T

-- the bytes are a document with its tree, or this is the first fault of the text and its names
abbrev pub IsParsed : List ℕ → Result Table DocFault → Type 0
IsParsed bytes (Ok T) = IsDocument bytes T
IsParsed bytes (Err fault) = doc_fault bytes ≡ Some fault
