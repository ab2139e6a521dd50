-- The parts of a run that read files: which they open, what they count, and how they end.
use Rattle.std.specs.Prelude.{◌≡◌, ℕ, List, [], ◌∷◌, ◌++◌, false, Some, MatchResult, Result, Ok, Err}
use Rattle.sch_io.specs.Files.{Files}
use Rattle.sch_io.specs.ReadThrough.{Extent, ReadsThrough, all_files, all_but_last, all_or_but_last}
use Rattle.sch_io.specs.ShelfState.{ShelfState}
use Rattle.sch_words.specs.declared.status.Status.TheVariants as status
use Rattle.sch_stops.specs.declared.refusal.DocumentRefusal.{DocumentRefusal}
use Rattle.sch_stops.specs.declared.refusal.DocumentRefusal.TheVariants as document
use Rattle.sch_stops.specs.declared.refusal.FileRefusal.{FileRefusal}
use Rattle.sch_stops.specs.declared.refusal.FileRefusal.TheVariants as refusal
use Rattle.sch_stops.specs.declared.refusal.SchemaRefusal.{SchemaRefusal}
use Rattle.sch_stops.specs.declared.refusal.SchemaRefusal.TheVariants as schema
use Rattle.sch_stops.specs.declared.refusal.ScriptRefusal.{ScriptRefusal}
use Rattle.sch_stops.specs.declared.refusal.ScriptRefusal.TheVariants as script
use Rattle.sch_stops.specs.declared.watches.WatchesRefusal.{WatchesRefusal}
use Rattle.sch_stops.specs.declared.watches.WatchesRefusal.TheVariants as watches
use Rattle.sch_stops.specs.declared.stop.Stop.{Stop}
use Rattle.sch_stops.specs.declared.stop.Stop.TheVariants as stop
use Rattle.sch_stops.specs.Stops.{ByCause, Names, counted_if, ends_with}
use Rattle.sch_loading.specs.Stages.{Came, Stage, goes, halts, unread}

-- a file that the words name: a schema, behind which those that it includes are opened, or another one
pub data Named : Type 0 where
  schema_file : List ℕ → Named
  file : List ℕ → Named

-- the files that are opened for the named ones, in their order
abbrev pub OpensAll : List Named → List (List ℕ) → Type 0
OpensAll [] opened = opened ≡ []
OpensAll (file name ∷ named) opened = (more : List (List ℕ)) × OpensAll named more × (opened ≡ name ∷ more)
OpensAll (schema_file name ∷ named) opened =
    (included more : List (List ℕ)) × OpensAll named more × (opened ≡ name ∷ (included ++ more))

-- the files are opened for the first of the named ones
abbrev pub Opens : List Named → List (List ℕ) → Type 0
Opens named opened = (first rest : List Named) × (named ≡ first ++ rest) × OpensAll first opened

-- what a part of a run shows of the end of its stage: the value, or the output, or the file that was not read; memory may run out
abbrev pub EndsAs : {A B : Type 0} → (Came A → Type 0) → (B → A) → Result B Stop → Type 0
EndsAs comes value_of result = MatchResult result (λ value. comes (goes (value_of value)))
    (ByCause (λ output. comes (halts output)) (λ name. comes (unread name)) ⊥ (Unit {0}))

-- the name is of the last of the opened files
abbrev pub IsLastOf : List (List ℕ) → List ℕ → Type 0
IsLastOf opened name = (earlier : List (List ℕ)) × (opened ≡ earlier ++ name ∷ [])

-- how far the opened files were read: the one at which a run was stopped, the last, was not read to its end
abbrev pub extent_of_file : FileRefusal → Extent
extent_of_file refusal.TooLarge = all_but_last
extent_of_file (refusal.Faulted fault) = all_files

abbrev pub extent_of_watches : WatchesRefusal → Extent
extent_of_watches watches.TooLarge = all_but_last
extent_of_watches (watches.Faulted fault) = all_files

abbrev pub extent_of_schema : SchemaRefusal → Extent
extent_of_schema (schema.File name refused) = extent_of_file refused
extent_of_schema (schema.Include kind name) = all_files
extent_of_schema (schema.Rule fault location) = all_files
extent_of_schema (schema.Watches refused) = extent_of_watches refused

abbrev pub extent_of_document : DocumentRefusal → Extent
extent_of_document (document.File refused) = extent_of_file refused
extent_of_document document.TooManyPairs = all_files
extent_of_document (document.Report fault location) = all_files

abbrev pub extent_of_script : ScriptRefusal → Extent
extent_of_script script.TooLarge = all_but_last
extent_of_script (script.Faulted fault) = all_files

abbrev pub extent_of_stop : Stop → Extent
extent_of_stop stop.Usage = all_files
extent_of_stop (stop.SchemaRefused refused) = extent_of_schema refused
extent_of_stop (stop.DocumentRefused refused) = extent_of_document refused
extent_of_stop (stop.ScriptRefused refused) = extent_of_script refused
extent_of_stop (stop.Missing name) = all_but_last
extent_of_stop (stop.ReadFault name) = all_but_last
extent_of_stop stop.WriteFault = all_files
extent_of_stop stop.Memory = all_or_but_last

abbrev pub extent_of : {A : Type 0} → Result A Stop → Extent
extent_of (Ok value) = all_files
extent_of (Err stopped) = extent_of_stop stopped

-- a part of a run did this to its shelf: the named files were opened in their order, up to the one where it was stopped; over a shelf
-- that tells its files they are those of the stage that the part is, and it ends as this does; faults and misses are counted exactly
-- where they are told; the name in a line is of the file that was opened last, and neither the words nor the output stopped it; and
-- the files were read so far
pub record ReadsUpTo {A B : Type 0} (extent : Extent) (old new : ShelfState) (named : List Named) (stage : Files → Stage A) (value_of : B → A) (result : Result B Stop) : Type 0 where
  pub held : new.files ≡ old.files
  pub opened : List (List ℕ)
  pub noted : new.opened ≡ old.opened ++ opened
  pub which : MatchResult result (λ _. OpensAll named opened) (λ _. Opens named opened)
  pub came : (files : Files) → old.files ≡ Some files → EndsAs (stage files opened) value_of result
  pub faults : new.faults ≡ counted_if (ends_with status.ReadFault result) old.faults
  pub misses : new.misses ≡ counted_if (ends_with status.Missing result) old.misses
  pub told : Names (IsLastOf opened) result
  pub no_usage : ends_with status.Usage result ≡ false
  pub no_write : ends_with status.WriteFault result ≡ false
  pub through : ReadsThrough extent old new

-- the same, where the files were read as far as the end of the part says
abbrev pub Reads : {A B : Type 0} → ShelfState → ShelfState → List Named → (Files → Stage A) → (B → A) → Result B Stop → Type 0
Reads old new named stage value_of result = ReadsUpTo (extent_of result) old new named stage value_of result
