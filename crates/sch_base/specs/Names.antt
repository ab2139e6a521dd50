-- Names: Namespaces in XML 1.0, sections 3 and 4.
use Rattle.std.specs.Prelude.{◌≡◌, ℕ, ◌+◌, Bool, true, false, ◌&&◌, ◌==◌, if◌then◌else◌, List, [], ◌∷◌, ◌++◌, Option, None, Some, length, IsUtf8}
use Rattle.std.specs.List.{list_any, list_all, before_first, after_first}
use Rattle.std.specs.Str.{chars}
use Rattle.sch_base.specs.Characters.{is_name_start, is_name_char}

-- whether characters are an NCName: a NameStartChar, then NameChars
abbrev pub is_ncname_of : List ℕ → Bool
is_ncname_of [] = false
is_ncname_of (c ∷ rest) = is_name_start c && list_all is_name_char rest

-- whether a text is an NCName
abbrev pub is_ncname : List ℕ → Bool
is_ncname text = is_ncname_of (chars text)

abbrev pub is_colon : ℕ → Bool
is_colon b = b == 58

-- how a text is split that is two NCNames joined by one colon: the length of the first and where the second begins
abbrev pub split_at_colon : List ℕ → List ℕ → Option (ℕ × ℕ)
split_at_colon prefix local =
    if is_ncname prefix && is_ncname local then Some (length prefix, length prefix + 1) else None

-- how a text is split that is a QName, an NCName or two joined by one colon; None for any other text
abbrev pub split_qname : List ℕ → Option (ℕ × ℕ)
split_qname text =
    if list_any is_colon text then split_at_colon (before_first is_colon text) (after_first is_colon text)
    else (if is_ncname text then Some (0, 0) else None)

-- an NCName is split as a name without a prefix, and two joined by a colon as prefix and local part
pub record QNamesSplit : Type 0 where
  pub local : (name : List ℕ) → IsUtf8 name → is_ncname name ≡ true → split_qname name ≡ Some (0, 0)
  pub prefixed : (prefix name : List ℕ) → IsUtf8 prefix → is_ncname prefix ≡ true → is_ncname name ≡ true →
      split_qname (prefix ++ 58 ∷ name) ≡ Some (length prefix, length prefix + 1)
