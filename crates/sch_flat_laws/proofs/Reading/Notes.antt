-- Diagnostics and properties: their elements differ in their names alone.
use Rattle.std.proofs.Common.{◌≡◌, ℕ, true, false, List, ◌∷◌, ◌++◌, Some, refl}
use Rattle.std.specs.Prelude.{codes}
use Rattle.sch_rules.specs.declared.named.Named.{Named}
use Rattle.sch_rules.specs.declared.named.Named.TheVariants as named
use Rattle.sch_rules.specs.declared.word.Word.{Word}
use Rattle.sch_rules.specs.declared.word.Word.TheVariants as word
use Rattle.sch_rules.specs.Words.{has_text, holds, is_word, word_of}

pub data Notes : Type 0 where
  diagnostics : Notes
  properties : Notes

-- the names of the element that holds them, and of each
abbrev pub group_local : Notes → List ℕ
group_local diagnostics = codes "diagnostics"
group_local properties = codes "properties"

abbrev pub note_local : Notes → List ℕ
note_local diagnostics = codes "diagnostic"
note_local properties = codes "property"

abbrev pub group_name : Notes → List ℕ
group_name kind = codes "sch" ++ 58 ∷ group_local kind

abbrev pub note_name : Notes → List ℕ
note_name kind = codes "sch" ++ 58 ∷ note_local kind

abbrev pub group_of : Notes → Word
group_of diagnostics = word.Diagnostics
group_of properties = word.Properties

abbrev pub note_of : Notes → Word
note_of diagnostics = word.Diagnostic
note_of properties = word.Property

abbrev pub named_as : Notes → Named
named_as diagnostics = named.Diagnostic
named_as properties = named.Property

-- what is known of these words
pub record Known (kind : Notes) : Type 0 where
  pub group : word_of (group_local kind) ≡ Some (group_of kind)
  pub note : word_of (note_local kind) ≡ Some (note_of kind)
  pub own_group : is_word (group_of kind) (Some (group_of kind)) ≡ true
  pub own_note : is_word (note_of kind) (Some (note_of kind)) ≡ true
  pub no_value : is_word word.ValueOf (Some (note_of kind)) ≡ false
  pub no_name : is_word word.Name (Some (note_of kind)) ≡ false
  pub text : has_text (note_of kind) ≡ true
  pub holds_value : holds (note_of kind) word.ValueOf ≡ true
  pub holds_name : holds (note_of kind) word.Name ≡ true

pub known : (kind : Notes) → Known kind
unfolding word_of
known diagnostics = record { group = refl; note = refl; own_group = refl; own_note = refl; no_value = refl; no_name = refl; text = refl; holds_value = refl; holds_name = refl }
known properties = record { group = refl; note = refl; own_group = refl; own_note = refl; no_value = refl; no_name = refl; text = refl; holds_value = refl; holds_name = refl }
