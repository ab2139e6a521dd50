-- Names that are written in ASCII.
use Rattle.std.proofs.Common.{◌≡◌, ℕ, zero, suc, Bool, true, ◌&&◌, List, [], ◌∷◌, ◌++◌, Option, is_some, refl, ap, ◌∙◌, arith}
use Rattle.std.specs.Prelude.{nat_lt, IsUtf8}
use Rattle.std.specs.List.{list_all}
use Rattle.std.specs.Str.{IsAscii}
use Rattle.std.proofs.lemmas.Bool.{and_parts, and_from}
use Rattle.std.proofs.lemmas.Str.{IsUtf8-from_ascii, chars-IsAscii}
use borrow.Author.Tests.{ltb-true}
use Rattle.sch_base.specs.Characters.{is_xml_char}
use Rattle.sch_base.specs.Names.{is_ncname, is_ncname_of, QNamesSplit}
use Rattle.pyx_core.specs.LineTable.{is_qname}
use Rattle.pyx_core.specs.Nesting.{is_name, of_chars}
use Rattle.pyx_core.proofs.TextLemmas.{made_of, of_chars_append}

-- whether the bytes are ASCII and spell an NCName
abbrev pub spells : List ℕ → Bool
spells text = list_all (λ b. nat_lt b 128) text && (list_all is_xml_char text && is_ncname_of text)

ascii : (bs : List ℕ) → list_all (λ b. nat_lt b 128) bs ≡ true → IsAscii bs
ascii [] h i = omega arith
ascii (b ∷ bs) h zero = let low : nat_lt b 128 ≡ true = (and_parts (nat_lt b 128) (list_all (λ b. nat_lt b 128) bs) h).0 in ltb-true b 128 low
ascii (b ∷ bs) h (suc i) = ascii bs (and_parts (nat_lt b 128) (list_all (λ b. nat_lt b 128) bs) h).1 i

ascii-made : (bs : List ℕ) → list_all (λ b. nat_lt b 128) bs ≡ true → list_all is_xml_char bs ≡ true → of_chars bs ≡ true
ascii-made bs low made = made_of bs (IsUtf8-from_ascii bs (ascii bs low)) (ap (list_all is_xml_char) (chars-IsAscii bs (ascii bs low)) ∙ made)

colon-made : of_chars (58 ∷ []) ≡ true
unfolding is_xml_char
colon-made = ascii-made (58 ∷ []) refl refl

record Spelled (name : List ℕ) : Type 0 where
  pub utf8 : IsUtf8 name
  pub made : of_chars name ≡ true
  pub named : is_ncname name ≡ true

spelled : (name : List ℕ) → spells name ≡ true → Spelled name
spelled name h =
    let first = and_parts (list_all (λ b. nat_lt b 128) name) (list_all is_xml_char name && is_ncname_of name) h in
    let second = and_parts (list_all is_xml_char name) (is_ncname_of name) first.1 in
    let low = ascii name first.0 in
    record {
      utf8 = IsUtf8-from_ascii name low;
      made = ascii-made name first.0 second.0;
      named = ap is_ncname_of (chars-IsAscii name low) ∙ second.1;
    }

pub local_named : QNamesSplit → (name : List ℕ) → spells name ≡ true → is_name name ≡ true
local_named splits name h =
    let s = spelled name h in
    and_from (of_chars name) (is_qname name) s.made (ap is_some (splits.local name s.utf8 s.named))

pub prefixed_named : QNamesSplit → (prefix name : List ℕ) → spells prefix ≡ true → spells name ≡ true → is_name (prefix ++ 58 ∷ name) ≡ true
prefixed_named splits prefix name h k =
    let p = spelled prefix h in
    let s = spelled name k in
    and_from (of_chars (prefix ++ 58 ∷ name)) (is_qname (prefix ++ 58 ∷ name))
    (of_chars_append prefix (58 ∷ name) p.made (of_chars_append (58 ∷ []) name colon-made s.made))
    (ap is_some (splits.prefixed prefix name p.utf8 p.named s.named))

pub names_fit : QNamesSplit → (attributes : List (List ℕ × Option (List ℕ))) → list_all (λ a. spells a.0) attributes ≡ true →
    list_all (λ a. is_name a.0) attributes ≡ true
names_fit splits [] h = refl
names_fit splits (a ∷ rest) h =
    let parts = and_parts (spells a.0) (list_all (λ a. spells a.0) rest) h in
    and_from (is_name a.0) (list_all (λ a. is_name a.0) rest) (local_named splits a.0 parts.0) (names_fit splits rest parts.1)
