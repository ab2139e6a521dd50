-- The fields behind a word.
use Rattle.std.specs.Prelude.{◌≡◌, ℕ, List, ◌∷◌, Err}
use Rattle.std.specs.List.{after_first}
use Rattle.pyx_core.specs.LineTable.{is_space}
use Rattle.edit_script.specs.declared.fault.ScriptKind.TheVariants.{BadWord}
use Rattle.edit_script.specs.CommandLine.{fields, insert_of, rename_attr_of, rename_of, unset_of}

-- the text has fewer fields than two, or more
pub record IsNotTwo (text : List ℕ) : Type 0 where
  pub insert : insert_of (fields text) ≡ Err BadWord
  pub unset : unset_of (fields text) ≡ Err BadWord
  pub rename : rename_of (fields text) ≡ Err BadWord
  -- nor are they three behind another
  pub rename_attr : (first : List ℕ) → rename_attr_of (first ∷ fields text) ≡ Err BadWord

-- the text has fewer fields than three, or more
abbrev pub IsNotThree : List ℕ → Type 0
IsNotThree text = rename_attr_of (fields text) ≡ Err BadWord

-- the first field, and what stands behind the space after it
pub record StartsWith (text first behind : List ℕ) : Type 0 where
  pub others : List (List ℕ)
  pub fields_are : fields text ≡ first ∷ others
  pub behind_is : after_first is_space text ≡ behind
