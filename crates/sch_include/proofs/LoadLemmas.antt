-- What a file is as a tree, by what was read of it.
use Rattle.std.proofs.Common.{◌≡◌, ℕ, ◌≤◌, List, length, None, Some, subst}
use Rattle.std.specs.Prelude.{Ok, Err}
use Rattle.std.specs.FinMap.{get}
use Rattle.sch_io.specs.Files.{Files}
use Rattle.sch_io.specs.declared.reading.TheConstants.{MAX_FILE_BYTES}
use Rattle.doc_tree.specs.Table.{Table}
use Rattle.pyx_core.specs.Nesting.{bare}
use Rattle.pyx_core.specs.Reading.{events_of}
use Rattle.pyx_core.specs.declared.mode.Mode.TheVariants.{Document}
use Rattle.name_scopes.specs.DocFaults.{doc_fault}
use Rattle.name_scopes.specs.ScopedTree.{Scoped}
use Rattle.name_scopes.specs.declared.fault.DocFault.{DocFault}
use Rattle.sch_include.specs.declared.fault.IncludeKind.TheVariants as kind
use Rattle.sch_include.specs.Taking.{Loading, fault_of, faulty, loaded}

module _ (files : Files) (name bytes seen : List ℕ) (same : seen ≡ bytes) (read : (get files name ≡ Some bytes) × (length bytes ≤ MAX_FILE_BYTES)) where
  pub loads-tree : (T : Table) → doc_fault seen ≡ None → Scoped (bare (events_of Document seen)) T → Loading files name (Ok T)
  loads-tree T none scoped =
      loaded bytes read.0 read.1 (subst (λ (b : List ℕ). doc_fault b ≡ None) same none) T (subst (λ (b : List ℕ). Scoped (bare (events_of Document b)) T) same scoped)

  pub loads-fault : (fault : DocFault) → doc_fault seen ≡ Some fault → Loading files name (Err (fault_of (kind.Doc fault) name))
  loads-fault fault is = faulty bytes read.0 read.1 fault (subst (λ (b : List ℕ). doc_fault b ≡ Some fault) same is)
