-- The character classes of XML 1.0 (fifth edition), sections 2.2 and 2.3; those of names without the colon, as in
-- Namespaces in XML 1.0, section 3.
use Rattle.std.specs.Prelude.{◌≡◌, ℕ, Bool, true, false, ◌&&◌, ◌||◌, ◌==◌, nat_le, List, [], ◌∷◌, IsUtf8, encode_utf8_all}
use Rattle.std.specs.Str.{chars, all_scalars}

-- whether a number lies in one of the ranges, each of which is given by its first and its last number
abbrev pub lies_in : List (ℕ × ℕ) → ℕ → Bool
lies_in [] c = false
lies_in (range ∷ ranges) c = nat_le range.0 c && nat_le c range.1 || lies_in ranges c

-- Char: a character of a document
unfoldable pub is_xml_char : ℕ → Bool
is_xml_char c =
    lies_in ((0x9, 0x9) ∷ (0xA, 0xA) ∷ (0xD, 0xD) ∷ (0x20, 0xD7FF) ∷ (0xE000, 0xFFFD) ∷ (0x1_0000, 0x10_FFFF) ∷ []) c

-- NameStartChar without the colon
unfoldable pub is_name_start : ℕ → Bool
is_name_start c =
    lies_in ((65, 90) ∷ (95, 95) ∷ (97, 122) ∷ (0xC0, 0xD6) ∷ (0xD8, 0xF6) ∷ (0xF8, 0x2FF) ∷ (0x370, 0x37D)
    ∷ (0x37F, 0x1FFF) ∷ (0x200C, 0x200D) ∷ (0x2070, 0x218F) ∷ (0x2C00, 0x2FEF) ∷ (0x3001, 0xD7FF) ∷ (0xF900, 0xFDCF)
    ∷ (0xFDF0, 0xFFFD) ∷ (0x1_0000, 0xE_FFFF) ∷ []) c

-- NameChar without the colon: NameStartChar, `-`, `.`, 0 to 9 and some marks
unfoldable pub is_name_char : ℕ → Bool
is_name_char c =
    is_name_start c
    || lies_in ((45, 46) ∷ (48, 57) ∷ (0xB7, 0xB7) ∷ (0x300, 0x36F) ∷ (0x203F, 0x2040) ∷ []) c

-- S: whitespace
unfoldable pub is_whitespace : ℕ → Bool
is_whitespace c = lies_in ((0x20, 0x20) ∷ (0x9, 0xA) ∷ (0xD, 0xD) ∷ []) c

-- `/`
abbrev pub is_slash : ℕ → Bool
is_slash b = b == 47

-- the characters of a text spell it
abbrev pub CharactersSpellTheText : Type 0
CharactersSpellTheText = (bytes : List ℕ) → IsUtf8 bytes → encode_utf8_all (chars bytes) ≡ bytes

-- a text has the characters that it spells
abbrev pub TextHasItsCharacters : Type 0
TextHasItsCharacters =
    (characters : List ℕ) → all_scalars characters ≡ true → chars (encode_utf8_all characters) ≡ characters
