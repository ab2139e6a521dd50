-- What a run gives: the bytes for the output, the line for the error output, and the status.
use Rattle.std.specs.Prelude.{ℕ, List, [], ◌++◌, codes}
use Rattle.pyx_core.specs.Escapes.{escaped}
use Rattle.sch_words.specs.declared.status.Status.{Status}

pub record Output : Type 0 where
  pub out : List ℕ
  pub err : List ℕ
  pub ends : Status

-- a run that is stopped, and of which no more is written
abbrev pub stopped : Status → List ℕ → Output
stopped status line = record { out = []; err = line; ends = status }

-- the lines of a run that is stopped; a file's name has the escapes of PYX
abbrev pub usage_line : List ℕ
usage_line = codes "sch: usage\n"

abbrev pub missing_line : List ℕ → List ℕ
missing_line name = codes "sch: missing: " ++ (escaped name ++ codes "\n")

abbrev pub read_fault_line : List ℕ → List ℕ
read_fault_line name = codes "sch: read fault: " ++ (escaped name ++ codes "\n")

abbrev pub write_fault_line : List ℕ
write_fault_line = codes "sch: write fault\n"

abbrev pub memory_line : List ℕ
memory_line = codes "sch: out of memory\n"
