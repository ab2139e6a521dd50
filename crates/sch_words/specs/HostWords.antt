-- The words of a command line, as the host gives them and as the program takes them.
use Rattle.std.specs.Prelude.{◌≡◌, ℕ, ◌<◌, List, [], Option, None, Some, Result, Ok, Err, Contains, length, slice_get, take}
use Rattle.std.specs.List.{AllZip}
use Rattle.std.specs.Str.{IsUtf8}
use Rattle.std.specs.declared.env.FillError.{FillError}
use Rattle.std.specs.declared.env.FillError.TheVariants.{NotPresent, TooLong}
use Rattle.sch_words.specs.declared.host_words.WordsError.{WordsError}
use Rattle.sch_words.specs.declared.host_words.WordsError.TheVariants as error

-- what copying the word with a number answers: its bytes stand at the start of the room, or there is none, or it is longer than the room;
-- words that are not told decide nothing
abbrev pub CopiesWord : Option (List (List ℕ)) → ℕ → List ℕ → Result ℕ FillError → Type 0
CopiesWord None number room result = Unit {0}
CopiesWord (Some words) number room (Ok n) = slice_get words number ≡ Some (take n room)
CopiesWord (Some words) number room (Err NotPresent) = slice_get words number ≡ None
CopiesWord (Some words) number room (Err TooLong) = (word : List ℕ) × (slice_get words number ≡ Some word) × (length room < length word)

-- a word is its bytes where they are UTF-8, and else the empty word
pub record IsWordOf (bytes word : List ℕ) : Type 0 where
  pub text : IsUtf8 bytes → word ≡ bytes
  pub none : ¬ (IsUtf8 bytes) → word ≡ []

-- a word that has more bytes than a word may have
abbrev pub IsTooLong : List ℕ → Type 0
IsTooLong word = 16777216 < length word

-- why the word with a number is not read; memory may run out
abbrev pub RefusesWord : List (List ℕ) → ℕ → WordsError → Type 0
RefusesWord words number error.TooLong = (word : List ℕ) × (slice_get words number ≡ Some word) × IsTooLong word
RefusesWord words number error.Memory = Unit {0}

-- what reading all words answers; memory may run out
abbrev pub ReadsWords : List (List ℕ) → Result (List (List ℕ)) WordsError → Type 0
ReadsWords words (Ok read) = AllZip IsWordOf words read
ReadsWords words (Err error.TooLong) = (word : List ℕ) × Contains words word × IsTooLong word
ReadsWords words (Err error.Memory) = Unit {0}
