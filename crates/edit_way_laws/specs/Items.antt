-- The commands of a script in which edits may be taken back.
use Rattle.std.specs.Prelude.{ℕ, ◌≤◌, List, length}
use Rattle.edit_script.specs.Script.{at_start}
use Rattle.edit_script.specs.Undos.{Items, ends, breaks, edits, undoes, items_left}
use Rattle.edit_script.specs.WellFormed.{WellFormedCommand}
use Rattle.edit_script.specs.declared.limits.TheConstants.{MAX_SCRIPT_BYTES}

-- all commands that are to come are such as a script can hold
abbrev pub AreFormed : Items → Type 0
AreFormed ends = Unit {0}
AreFormed (breaks fault) = Unit {0}
AreFormed (edits command rest) = WellFormedCommand command × AreFormed rest
AreFormed (undoes rest) = AreFormed rest

-- those of a script that is not too long are
abbrev pub ItemsAreWellFormed : Type 0
ItemsAreWellFormed = (bytes : List ℕ) → length bytes ≤ MAX_SCRIPT_BYTES → AreFormed (items_left (at_start bytes))
