-- The representation of a shelf in memory: named files, the newest first, and the open one.
use Rattle.std.specs.Prelude.{ℕ, ◌≤◌, List, [], map, drop, length, Option, None, Some, slice_get, string_bytes}
use Rattle.std.specs.Option.{option_map_or}
use Rattle.std.specs.FinMap.{from_entries}
use Rattle.sch_io.specs.Files.{Files}
use Rattle.sch_io.specs.declared.memory_shelf.NamedFile.{NamedFile}
use Rattle.sch_io.specs.declared.memory_shelf.OpenFile.{OpenFile}

abbrev pub entry_of : NamedFile → List ℕ × List ℕ
entry_of file = (string_bytes file.name, file.content.items)

-- the newest file of each name
abbrev pub files_of : List NamedFile → Files
files_of files = from_entries (map entry_of files)

-- the content of the file at a place
abbrev pub content_at : List NamedFile → ℕ → List ℕ
content_at files place = option_map_or (λ file. file.content.items) (slice_get files place) []

-- what is left of the open file
abbrev pub rest_of : List NamedFile → Option OpenFile → List ℕ
rest_of files None = []
rest_of files (Some open_file) = drop open_file.at (content_at files open_file.place)

-- how many bytes of it were read
abbrev pub taken_of : Option OpenFile → ℕ
taken_of None = 0
taken_of (Some open_file) = open_file.at

-- no more was read than the file has
abbrev pub IsWithin : List NamedFile → Option OpenFile → Type 0
IsWithin files None = Unit {0}
IsWithin files (Some open_file) = open_file.at ≤ length (content_at files open_file.place)
