-- The lines of a text: each ends with a line feed, and the last one may lack it.
use Rattle.std.specs.Prelude.{ℕ, Bool, ◌==◌, if◌then◌else◌, List, [], ◌∷◌}
use Rattle.std.specs.List.{list_any}

-- whether a byte ends a line: LF
abbrev pub is_line_end : ℕ → Bool
is_line_end b = b == 10

-- a byte in front of the first of the lines that end; where none ends, the byte's line does not either
abbrev pub onto_ended : ℕ → List (List ℕ) → List (List ℕ)
onto_ended b [] = []
onto_ended b (line ∷ lines) = (b ∷ line) ∷ lines

-- the lines that end, each without its line end
abbrev pub ended_lines : List ℕ → List (List ℕ)
ended_lines [] = []
ended_lines (b ∷ bytes) =
    if is_line_end b then [] ∷ ended_lines bytes else onto_ended b (ended_lines bytes)

-- what stands after the last line end
abbrev pub unended : List ℕ → List ℕ
unended [] = []
unended (b ∷ bytes) = if list_any is_line_end (b ∷ bytes) then unended bytes else b ∷ bytes
