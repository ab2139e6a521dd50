-- What reading a whole file answers.
use Rattle.std.specs.Prelude.{◌≡◌, ℕ, ◌<◌, ◌≤◌, List, length, Option, None, Some, Result, Ok, Err}
use Rattle.std.specs.FinMap.{get}
use Rattle.sch_io.specs.Files.{Files}
use Rattle.sch_io.specs.declared.reading.TheConstants.{MAX_FILE_BYTES}
use Rattle.sch_io.specs.declared.error.ReadError.{ReadError}
use Rattle.sch_io.specs.declared.error.ReadError.TheVariants.{Missing, Failed, TooLarge, Memory}

-- all bytes of the held file within the limit, or the cause that the files show; a fault of the host and want of
-- memory show in no file
abbrev pub ReadsWhole : Files → List ℕ → Result (List ℕ) ReadError → Type 0
ReadsWhole files name (Ok bytes) = (get files name ≡ Some bytes) × (length bytes ≤ MAX_FILE_BYTES)
ReadsWhole files name (Err Missing) = get files name ≡ None
ReadsWhole files name (Err TooLarge) = (bytes : List ℕ) × (get files name ≡ Some bytes) × (MAX_FILE_BYTES < length bytes)
ReadsWhole files name (Err Failed) = Unit {0}
ReadsWhole files name (Err Memory) = Unit {0}

-- the same for the rest of an open file, where the shelf tells it
abbrev pub ReadsRest : Option (List ℕ) → Result (List ℕ) ReadError → Type 0
ReadsRest None result = Unit {0}
ReadsRest (Some rest) (Ok bytes) = (rest ≡ bytes) × (length bytes ≤ MAX_FILE_BYTES)
ReadsRest (Some rest) (Err Missing) = Unit {0}
ReadsRest (Some rest) (Err TooLarge) = MAX_FILE_BYTES < length rest
ReadsRest (Some rest) (Err Failed) = Unit {0}
ReadsRest (Some rest) (Err Memory) = Unit {0}
