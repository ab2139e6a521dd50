-- The reader of a script.
use Rattle.std.specs.Prelude.{◌≡◌, ℕ, suc, ◌+◌, ◌≤◌, List, ◌∷◌, ◌++◌, length, None}
use Rattle.edit_script.specs.declared.limits.TheConstants.{MAX_SCRIPT_BYTES}
use Rattle.edit_script.specs.declared.fault.ScriptFault.{ScriptFault}
use Rattle.edit_script.specs.declared.reader.Taken.{Taken}
use Rattle.edit_script.specs.Script.{lines_of, onto, script_at, stops}

-- where the lines that are left begin: none has a greater number than a script has bytes, but for one
pub record IsWithin (number : ℕ) (rest : List ℕ) : Type 0 where
  pub low : 1 ≤ number
  pub high : number + length rest ≤ suc MAX_SCRIPT_BYTES

-- the command in the line with a number was taken, behind which these bytes stand: the lines of its fragment were taken with it
pub record IsTaken (number : ℕ) (line rest : List ℕ) (done : Taken) : Type 0 where
  pub taken : List (List ℕ)
  pub front : lines_of rest ≡ taken ++ lines_of done.rest.now
  pub number_is : done.number ≡ suc number + length taken
  pub script : (more : List (List ℕ)) → script_at None number (line ∷ taken ++ more) ≡ onto done.command (script_at None done.number more)
  pub few : done.number + length done.rest.now ≤ suc (number + length rest)

-- the line with a number, behind which these bytes stand, has a fault, or the fragment of its insert
abbrev pub Breaks : ℕ → List ℕ → List ℕ → ScriptFault → Type 0
Breaks number line rest found = script_at None number (line ∷ lines_of rest) ≡ stops found
