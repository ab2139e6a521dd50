-- Names at the front of a text.
use Rattle.std.specs.Prelude.{ℕ, List, [], ◌∷◌, if◌then◌else◌}
use Rattle.sch_base.specs.Characters.{is_name_char, is_name_start}

-- the front of characters that can stand in a name
abbrev pub name_chars : List ℕ → List ℕ
name_chars [] = []
name_chars (c ∷ characters) = if is_name_char c then c ∷ name_chars characters else []

-- the longest NCName with which characters begin (Namespaces in XML 1.0, section 3); nothing where they begin with none
abbrev pub longest_name : List ℕ → List ℕ
longest_name [] = []
longest_name (c ∷ characters) = if is_name_start c then c ∷ name_chars characters else []
