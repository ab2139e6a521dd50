-- Bytes of ASCII are characters, and those of a name are NameChars.
use Rattle.std.proofs.Common.{◌≡◌, ℕ, zero, suc, ◌<◌, Bool, true, false, length, take, ◌||◌, List, [], ◌∷◌, ◌++◌, get_or, arith, refl, ◌∙◌, ap}
use Rattle.std.specs.List.{list_all}
use Rattle.std.specs.Option.{is_some}
use Rattle.std.specs.Prelude.{IsUtf8}
use Rattle.std.specs.Str.{chars}
use Rattle.std.proofs.lemmas.Bool.{and_parts, and_from, or_left}
use Rattle.std.proofs.lemmas.Bool.Decides.{nat_tests}
use Rattle.std.proofs.lemmas.Str.{chars-IsAscii, IsUtf8-from_ascii, is_utf8-from_IsUtf8}
use Rattle.sch_base.specs.Characters.{lies_in, is_xml_char, is_name_start, is_name_char}
use Rattle.sch_base.specs.Names.{is_ncname, is_ncname_of}
use Rattle.sch_base.proofs.NameLemmas.{qname_splits}
use Rattle.pyx_core.specs.LineTable.{is_qname, read_text, line_of}
use Rattle.pyx_core.specs.inner.Plain.{is_plain, is_literal, is_plain_start, is_plain_part, is_plain_name}

-- bytes that pass a test of ASCII are ASCII
all_low : (p : ℕ → Bool) → ((b : ℕ) → p b ≡ true → b < 128) → (bytes : List ℕ) → list_all p bytes ≡ true →
    (i : ℕ) → get_or bytes i 0 < 128
all_low p low [] h i = omega arith
all_low p low (b ∷ bytes) h zero = low b (and_parts (p b) _ h).0
all_low p low (b ∷ bytes) h (suc i) = all_low p low bytes (and_parts (p b) _ h).1 i

-- what passes one test passes another
all_pass : (p q : ℕ → Bool) → ((b : ℕ) → p b ≡ true → q b ≡ true) → (bytes : List ℕ) → list_all p bytes ≡ true →
    list_all q bytes ≡ true
all_pass p q passes [] h = refl
all_pass p q passes (b ∷ bytes) h =
    let here = and_parts (p b) _ h in and_from (q b) _ (passes b here.0) (all_pass p q passes bytes here.1)

either : (v w x y : Bool) → (v || w) ≡ true → (v ≡ true → x ≡ true) → (w ≡ true → y ≡ true) → (x || y) ≡ true
either true w x y h one other = rw (one refl) refl
either false w true y h one other = refl
either false w false y h one other = other h

-- what lies in some ranges lies in these and more
lies_more : (ranges more : List (ℕ × ℕ)) (c : ℕ) → lies_in ranges c ≡ true → lies_in (ranges ++ more) c ≡ true
lies_more [] more c h = absurd (cc)
lies_more (range ∷ ranges) more c h = either _ (lies_in ranges c) _ (lies_in (ranges ++ more) c) h (λ here. here) (lies_more ranges more c)

-- characters of ASCII are Chars
plain_low : (b : ℕ) → is_plain b ≡ true → b < 128
plain_low b h = grind (arith, nat_tests)

plain_char : (b : ℕ) → is_plain b ≡ true → is_xml_char b ≡ true
unfolding is_xml_char
plain_char b h = grind (arith, nat_tests)

pub plain_text : (text : List ℕ) → list_all is_plain text ≡ true → list_all is_xml_char (chars text) ≡ true
plain_text text h =
    ap (list_all is_xml_char) (chars-IsAscii text (all_low is_plain plain_low text h)) ∙ all_pass is_plain is_xml_char plain_char text h

-- so are those that stand for themselves, and none of them ends a line
literal_low : (b : ℕ) → is_literal b ≡ true → b < 128
literal_low b h = grind (arith, nat_tests)

literal_char : (b : ℕ) → is_literal b ≡ true → is_xml_char b ≡ true
unfolding is_xml_char
literal_char b h = grind (arith, nat_tests)

literal_inside : (b : ℕ) → is_literal b ≡ true → b ≡ 10 → ⊥
literal_inside b h is = grind (arith, nat_tests)

pub literal_utf8 : (bytes : List ℕ) → list_all is_literal bytes ≡ true → IsUtf8 bytes
literal_utf8 bytes h = IsUtf8-from_ascii bytes (all_low is_literal literal_low bytes h)

-- a line of such characters is a text of Chars
pub literal_line : (bytes : List ℕ) → list_all is_literal bytes ≡ true → line_of bytes ≡ read_text bytes
literal_line bytes h =
    let text = is_utf8-from_IsUtf8 bytes (literal_utf8 bytes h) in
    let good : list_all is_xml_char (chars bytes) ≡ true =
    ap (list_all is_xml_char) (chars-IsAscii bytes (all_low is_literal literal_low bytes h))
    ∙ all_pass is_literal is_xml_char literal_char bytes h in
    rw (text, good) refl

-- no line ends within such characters
pub literal_front : (bytes : List ℕ) (len k : ℕ) → list_all is_literal (take len bytes) ≡ true → k < len →
    k < length bytes → get_or bytes k 0 ≡ 10 → ⊥
literal_front [] len k h less within is = absurd (omega arith)
literal_front (b ∷ bytes) zero k h less within is = absurd (omega arith)
literal_front (b ∷ bytes) (suc len) zero h less within is = literal_inside b (and_parts (is_literal b) _ h).0 is
literal_front (b ∷ bytes) (suc len) (suc k) h less within is =
    literal_front bytes len k (and_parts (is_literal b) _ h).1 (omega arith) (omega arith) is

-- those of names are NameChars
part_low : (b : ℕ) → is_plain_part b ≡ true → b < 128
part_low b h = grind (arith, nat_tests)

start_start : (b : ℕ) → is_plain_start b ≡ true → is_name_start b ≡ true
unfolding is_name_start
start_start b h = lies_more ((65, 90) ∷ (95, 95) ∷ (97, 122) ∷ [])
    ((0xC0, 0xD6) ∷ (0xD8, 0xF6) ∷ (0xF8, 0x2FF) ∷ (0x370, 0x37D) ∷ (0x37F, 0x1FFF) ∷ (0x200C, 0x200D) ∷ (0x2070, 0x218F)
    ∷ (0x2C00, 0x2FEF) ∷ (0x3001, 0xD7FF) ∷ (0xF900, 0xFDCF) ∷ (0xFDF0, 0xFFFD) ∷ (0x1_0000, 0xE_FFFF) ∷ []) b h

part_char : (b : ℕ) → is_plain_part b ≡ true → is_name_char b ≡ true
unfolding is_name_char
part_char b h = either (is_plain_start b) (lies_in ((45, 46) ∷ (48, 57) ∷ []) b) (is_name_start b) _ h (start_start b)
    (lies_more ((45, 46) ∷ (48, 57) ∷ []) ((0xB7, 0xB7) ∷ (0x300, 0x36F) ∷ (0x203F, 0x2040) ∷ []) b)

pub plain_name : (name : List ℕ) → is_plain_name name ≡ true → is_qname name ≡ true
plain_name [] h = absurd (cc)
plain_name (b ∷ rest) h =
    let here = and_parts (is_plain_start b) _ h in
    let low = all_low is_plain_part part_low (b ∷ rest) (and_from (is_plain_part b) _ (or_left (is_plain_start b) _ here.0) here.1) in
    let ncname : is_ncname (b ∷ rest) ≡ true =
    ap is_ncname_of (chars-IsAscii (b ∷ rest) low)
    ∙ and_from (is_name_start b) _ (start_start b here.0) (all_pass is_plain_part is_name_char part_char rest here.1) in
    ap is_some (qname_splits.local (b ∷ rest) (IsUtf8-from_ascii (b ∷ rest) low) ncname)
