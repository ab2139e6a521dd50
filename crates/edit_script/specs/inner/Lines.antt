-- How the bytes of a script are cut into lines.
use Rattle.std.specs.Prelude.{◌≡◌, ℕ, ◌+◌, ◌<◌, ◌≤◌, false, List, [], ◌∷◌, ◌++◌, length, None}
use Rattle.sch_base.specs.Lists.{is_nil}
use Rattle.edit_script.specs.Script.{lines_of, nothing, script_at, with_end}
use Rattle.edit_script.specs.Undos.{past_undo}

-- the first line of some bytes, and what follows it; where there is more, the line has its line end
pub record Cuts (bytes line rest : List ℕ) : Type 0 where
  pub lines : lines_of bytes ≡ line ∷ lines_of rest
  pub shorter : length rest < length bytes
  pub size : length line + length rest ≤ length bytes
  pub ends : 0 < length rest → bytes ≡ with_end line ++ rest

-- from the line with a number on, the first line that isn't empty, behind some that are
pub record Reaches (from : ℕ) (bytes : List ℕ) (number : ℕ) (line rest : List ℕ) : Type 0 where
  pub empty : List (List ℕ)
  pub lines : lines_of bytes ≡ empty ++ line ∷ lines_of rest
  pub number_is : number ≡ from + length empty
  pub script : (more : List (List ℕ)) → script_at None from (empty ++ more) ≡ script_at None number more
  pub undo : (more : List (List ℕ)) → past_undo from (empty ++ more) ≡ past_undo number more
  pub some : is_nil line ≡ false
  pub few : number + length rest < from + length bytes

-- from the line with a number on, only empty lines are left
pub record IsSpent (from : ℕ) (bytes : List ℕ) : Type 0 where
  pub script : script_at None from (lines_of bytes) ≡ nothing
  pub undo : past_undo from (lines_of bytes) ≡ None
