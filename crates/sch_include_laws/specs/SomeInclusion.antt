-- Each schema's file gives a tree, or has a first fault.
use Rattle.std.specs.Prelude.{ℕ, List, Result}
use Rattle.sch_io.specs.Files.{Files}
use Rattle.doc_tree.specs.Table.{Table}
use Rattle.sch_include.specs.Included.{HasFailed, Including}
use Rattle.sch_include.specs.declared.fault.IncludeFault.{IncludeFault}

-- where the outside doesn't fail, files have a tree for each name, or a first fault
abbrev pub SomeInclusion : Type 0
SomeInclusion = (files : Files) (name : List ℕ) →
    (opened : List (List ℕ)) × (result : Result Table IncludeFault) × Including files name opened result × (HasFailed result → ⊥)
