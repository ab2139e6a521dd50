-- Includes of a schema (ISO/IEC 19757-3, section 5.4.4), and the files that they name.
use Rattle.std.specs.Prelude.{ℕ, Bool, false, not, ◌&&◌, ◌||◌, ◌==◌, List, [], ◌∷◌, ◌++◌, codes, if◌then◌else◌}
use Rattle.std.specs.List.{list_any}
use Rattle.sch_base.specs.Characters.{is_slash}
use Rattle.doc_tree.specs.Kinds.{is_element}
use Rattle.doc_tree.specs.NameTests.{has_name}
use Rattle.doc_tree.specs.Table.{Table, kind_of}
use Rattle.sch_rules.specs.Words.{schematron}

-- whether the node is an element `include` in the namespace of Schematron
abbrev pub is_include : Table → ℕ → Bool
is_include T n = is_element (kind_of T n) && has_name T n schematron (codes "include")

-- a scheme: a colon before any `/`
abbrev pub has_scheme : List ℕ → Bool
has_scheme [] = false
has_scheme (b ∷ href) = b == 58 || (not (is_slash b) && has_scheme href)

-- a fragment: a `#`
abbrev pub has_fragment : List ℕ → Bool
has_fragment href = list_any (λ b. b == 35) href

-- the folder part of a file's name: up to the last `/`, which is included
abbrev pub folder_of : List ℕ → List ℕ
folder_of [] = []
folder_of (b ∷ name) = if list_any is_slash (b ∷ name) then b ∷ folder_of name else []

abbrev pub begins_with_slash : List ℕ → Bool
begins_with_slash [] = false
begins_with_slash (b ∷ href) = is_slash b

-- the name of an included file: the folder part of the including file's name, then `href`; an `href` that begins with `/` stands
-- as it is
abbrev pub file_named : List ℕ → List ℕ → List ℕ
file_named includer href = if begins_with_slash href then href else folder_of includer ++ href
