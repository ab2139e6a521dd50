-- How the reading of a schema with its includes ends, and what it shows of the outside.
use Rattle.std.specs.Prelude.{◌≡◌, ℕ, Bool, true, false, List, [], ◌∷◌, ◌++◌, Option, Some, Result, Ok, Err, IfErr}
use Rattle.sch_io.specs.Counts.{one_more}
use Rattle.sch_io.specs.Files.{Files}
use Rattle.sch_io.specs.ReadThrough.{Extent, all_files, all_but_last, all_or_but_last}
use Rattle.doc_tree.specs.Table.{Contents}
use Rattle.sch_include.specs.declared.fault.IncludeError.{IncludeError}
use Rattle.sch_include.specs.declared.fault.IncludeError.TheVariants as error
use Rattle.sch_include.specs.declared.fault.IncludeKind.{IncludeKind}
use Rattle.sch_include.specs.declared.fault.IncludeKind.TheVariants as kind
use Rattle.sch_include.specs.Included.{Including}

-- what is answered comes of the file; want of memory may be answered always
abbrev pub IsAnswered : Files → List ℕ → List (List ℕ) → Result Contents IncludeError → Type 0
IsAnswered files name opened (Ok tree) = Including files name opened (Ok tree.nodes)
IsAnswered files name opened (Err (error.Fault fault)) = Including files name opened (Err fault)
IsAnswered files name opened (Err error.Memory) = Unit {0}

-- one more where a file wasn't there, and where the outside failed
abbrev pub misses_with : IncludeKind → ℕ → ℕ
misses_with kind.Missing before = one_more before
misses_with _ before = before

abbrev pub faults_with : IncludeKind → ℕ → ℕ
faults_with kind.Failed before = one_more before
faults_with _ before = before

abbrev pub misses_of_including : {T : Type 0} → Result T IncludeError → ℕ → ℕ
misses_of_including (Ok tree) before = before
misses_of_including (Err (error.Fault fault)) before = misses_with fault.kind before
misses_of_including (Err error.Memory) before = before

abbrev pub faults_of_including : {T : Type 0} → Result T IncludeError → ℕ → ℕ
faults_of_including (Ok tree) before = before
faults_of_including (Err (error.Fault fault)) before = faults_with fault.kind before
faults_of_including (Err error.Memory) before = before

-- how far the opened files were read: the last one was not read to its end where there is none, its reading failed or it is too
-- large
abbrev pub extent_with : IncludeKind → Extent
extent_with kind.Missing = all_but_last
extent_with kind.Failed = all_but_last
extent_with kind.TooLarge = all_but_last
extent_with _ = all_files

abbrev pub extent_of_error : IncludeError → Extent
extent_of_error (error.Fault fault) = extent_with fault.kind
extent_of_error error.Memory = all_or_but_last

abbrev pub extent_of_including : {T : Type 0} → Result T IncludeError → Extent
extent_of_including (Ok tree) = all_files
extent_of_including (Err refused) = extent_of_error refused

-- whether the fault is of a file that was opened, and not of what would have named one
abbrev pub is_of_file : IncludeKind → Bool
is_of_file kind.NoHref = false
is_of_file kind.Scheme = false
is_of_file kind.Fragment = false
is_of_file kind.Cycle = false
is_of_file kind.TooDeep = false
is_of_file kind.TooMany = false
is_of_file _ = true

-- the fault of a file names the file that was opened last
abbrev pub NamesLast : List (List ℕ) → IncludeError → Type 0
NamesLast opened (error.Fault fault) = is_of_file fault.kind ≡ true → (earlier : List (List ℕ)) × (opened ≡ earlier ++ fault.name ∷ [])
NamesLast opened error.Memory = Unit {0}

-- the named file is opened first, where one is
abbrev pub IsFirst : List ℕ → List (List ℕ) → Type 0
IsFirst name [] = Unit {0}
IsFirst name (first ∷ more) = first ≡ name

-- what came of a schema's file, where the shelf may tell its files: the files that were opened for it, in their order, and the answer;
-- none is opened only for want of memory
pub record IsRead (files_are : Option Files) (name : List ℕ) (old new : List (List ℕ)) (result : Result Contents IncludeError) : Type 0 where
  pub opened : List (List ℕ)
  pub noted : new ≡ old ++ opened
  pub named_first : IsFirst name opened
  pub some : opened ≡ [] → result ≡ Err error.Memory
  pub last : IfErr result (NamesLast opened)
  pub answered : (files : Files) → files_are ≡ Some files → IsAnswered files name opened result
