-- The files that a shelf holds, and what opening one of them does.
use Rattle.std.specs.Prelude.{◌≡◌, ℕ, List, Option, None, Some, Result, Ok, Err, OnErr}
use Rattle.std.specs.Ordering.{nat_cmp}
use Rattle.std.specs.Cmp.Lexicographic.{slice_cmp}
use Rattle.std.specs.FinMap.{FinMap, get}
use Rattle.std.specs.Io.KnownBytes.{IsAtEnd}
use Rattle.sch_io.specs.declared.error.OpenError.{OpenError}
use Rattle.sch_io.specs.declared.error.OpenError.TheVariants.{Missing, Failed}

-- the content of each file by its name, both as bytes
abbrev pub Files : Type 0
Files = FinMap (slice_cmp nat_cmp) (List ℕ)

-- a name is missing only where it isn't held
abbrev pub RefusesAt : Files → List ℕ → OpenError → Type 0
RefusesAt files name Missing = get files name ≡ None
RefusesAt files name Failed = Unit {0}

-- after `open` of a name the whole content of its file is to be read, or nothing after an error
abbrev pub Opens : {T : Type 0} → Option Files → Option (List ℕ) → List ℕ → Result T OpenError → Type 0
Opens None rest name result = OnErr result (IsAtEnd rest)
Opens (Some files) rest name (Ok done) = (bytes : List ℕ) × (get files name ≡ Some bytes) × (rest ≡ Some bytes)
Opens (Some files) rest name (Err error) = IsAtEnd rest × RefusesAt files name error
