-- Escapes of a text's characters: written and undone they stay Chars.
use Rattle.std.proofs.Common.{◌≡◌, ℕ, suc, ◌<◌, ◌≤◌, ⊎_elim, Bool, true, false, cond, nat_eq, nat_le, List, [], ◌∷◌, ◌++◌, length, get_or, arith, refl, sym, ◌∙◌, ap}
use Rattle.std.proofs.lemmas.List.{append-nil}
use Rattle.std.specs.Prelude.{encode_utf8_all}
use Rattle.std.specs.Char.{encode_utf8, IsScalar}
use Rattle.std.specs.List.{list_all}
use Rattle.std.specs.Str.{chars, is_utf8, all_scalars}
use Rattle.std.proofs.lemmas.Bool.{cases_lt, and_parts, and_from}
use Rattle.std.proofs.lemmas.Bool.Decides.{nat_tests}
use Rattle.std.proofs.lemmas.Str.{chars-encodes, encodes-chars, encode_ascii, inside_one}
use Rattle.sch_base.specs.Characters.{is_xml_char}
use Rattle.pyx_core.specs.Escapes.{escape_of, escaped, undone, unescaped, unescaped_after}
use Rattle.pyx_core.specs.Nesting.{of_chars}
use Rattle.pyx_core.proofs.TextLemmas.{utf8_of, made_of}
use Rattle.pyx_core.proofs.Undoing.{kept_backslash, past_ascii}

-- bytes past ASCII
abbrev pub are_high : List ℕ → Bool
are_high bytes = list_all (λ b. nat_le 128 b) bytes

high_from : (bytes : List ℕ) → ((i : ℕ) → i < length bytes → 128 ≤ get_or bytes i 0) → are_high bytes ≡ true
high_from [] h = refl
high_from (b ∷ bytes) h =
    let first : nat_le 128 b ≡ true = grind (arith, nat_tests, h 0 (omega arith)) in
    rw first (high_from bytes (λ i less. h (suc i) (omega arith)))

high_byte : (c : ℕ) (i : ℕ) → 128 ≤ c → i < length (encode_utf8 c) → 128 ≤ get_or (encode_utf8 c) i 0
high_byte c i high less = ⊎_elim
    (λ (low : get_or (encode_utf8 c) i 0 < 128).
    let same : c ≡ get_or (encode_utf8 c) i 0 = inside_one c [] (encode_utf8 c) i (sym (append-nil (encode_utf8 c))) less low in
    absurd (omega arith))
    (λ (is : 128 ≤ get_or (encode_utf8 c) i 0). is) (cases_lt (get_or (encode_utf8 c) i 0) 128)

pub encode_high : (c : ℕ) → 128 ≤ c → are_high (encode_utf8 c) ≡ true
encode_high c high = high_from (encode_utf8 c) (λ i less. high_byte c i high less)

-- such bytes have no escapes
no_backslash : (b : ℕ) → nat_le 128 b ≡ true → nat_eq b 92 ≡ false
no_backslash b h = grind (arith, nat_tests)

plain_byte : (b : ℕ) → nat_le 128 b ≡ true → escape_of b ≡ b ∷ []
plain_byte b h =
    let n : nat_eq b 10 ≡ false = grind (arith, nat_tests) in
    let t : nat_eq b 9 ≡ false = grind (arith, nat_tests) in
    let r : nat_eq b 13 ≡ false = grind (arith, nat_tests) in
    rw (n, t, r, no_backslash b h) refl

unescaped_high : (bytes rest : List ℕ) → are_high bytes ≡ true → unescaped (bytes ++ rest) ≡ bytes ++ unescaped rest
unescaped_high [] rest h = refl
unescaped_high (b ∷ bytes) rest h =
    let here = and_parts (nat_le 128 b) _ h in
    rw (no_backslash b here.0) (ap (λ l. b ∷ l) (unescaped_high bytes rest here.1))

escaped_high : (bytes rest : List ℕ) → are_high bytes ≡ true → escaped (bytes ++ rest) ≡ bytes ++ escaped rest
escaped_high [] rest h = refl
escaped_high (b ∷ bytes) rest h =
    let here = and_parts (nat_le 128 b) _ h in
    rw (plain_byte b here.0) (ap (λ l. b ∷ l) (escaped_high bytes rest here.1))

high_test : (c : ℕ) → 128 ≤ c → nat_le 128 c ≡ true
high_test c high = grind (arith, nat_tests)

-- the text and its characters have their escapes undone alike
abbrev pub UndoesAlike : List ℕ → Type 0
UndoesAlike cs = (unescaped (encode_utf8_all cs) ≡ encode_utf8_all (unescaped cs))
    × (unescaped_after true (encode_utf8_all cs) ≡ encode_utf8_all (unescaped_after true cs))

pub one_low : (c : ℕ) (cs : List ℕ) → c < 128 → encode_utf8_all (c ∷ cs) ≡ c ∷ encode_utf8_all cs
one_low c cs low = ap (λ l. l ++ encode_utf8_all cs) (encode_ascii c low)

two_low : (c d : ℕ) (cs : List ℕ) → c < 128 → d < 128 → encode_utf8_all (c ∷ d ∷ cs) ≡ c ∷ d ∷ encode_utf8_all cs
two_low c d cs low lower = one_low c (d ∷ cs) low ∙ ap (λ l. c ∷ l) (one_low d cs lower)

-- what a backslash and an ASCII character stand for is ASCII
low_undone : (c : ℕ) (cs : List ℕ) → c < 128 → encode_utf8_all (undone c ++ cs) ≡ undone c ++ encode_utf8_all cs
low_undone c cs low =
    elim (nat_eq c 110) as (λ v. encode_utf8_all (cond v (10 ∷ []) (cond (nat_eq c 116) (9 ∷ []) (cond (nat_eq c 114) (13 ∷ []) (cond (nat_eq c 92) (92 ∷ []) (92 ∷ c ∷ [])))) ++ cs)
    ≡ cond v (10 ∷ []) (cond (nat_eq c 116) (9 ∷ []) (cond (nat_eq c 114) (13 ∷ []) (cond (nat_eq c 92) (92 ∷ []) (92 ∷ c ∷ [])))) ++ encode_utf8_all cs) [
      | true ↦ one_low 10 cs (omega arith)
      | false ↦ elim (nat_eq c 116) as (λ v. encode_utf8_all (cond v (9 ∷ []) (cond (nat_eq c 114) (13 ∷ []) (cond (nat_eq c 92) (92 ∷ []) (92 ∷ c ∷ []))) ++ cs)
          ≡ cond v (9 ∷ []) (cond (nat_eq c 114) (13 ∷ []) (cond (nat_eq c 92) (92 ∷ []) (92 ∷ c ∷ []))) ++ encode_utf8_all cs) [
            | true ↦ one_low 9 cs (omega arith)
            | false ↦ elim (nat_eq c 114) as (λ v. encode_utf8_all (cond v (13 ∷ []) (cond (nat_eq c 92) (92 ∷ []) (92 ∷ c ∷ [])) ++ cs)
                ≡ cond v (13 ∷ []) (cond (nat_eq c 92) (92 ∷ []) (92 ∷ c ∷ [])) ++ encode_utf8_all cs) [
                  | true ↦ one_low 13 cs (omega arith)
                  | false ↦ elim (nat_eq c 92) as (λ v. encode_utf8_all (cond v (92 ∷ []) (92 ∷ c ∷ []) ++ cs)
                      ≡ cond v (92 ∷ []) (92 ∷ c ∷ []) ++ encode_utf8_all cs) [
                        | true ↦ one_low 92 cs (omega arith)
                        | false ↦ one_low 92 (c ∷ cs) (omega arith) ∙ ap (λ l. 92 ∷ l) (one_low c cs low)
                      ]
                ]
          ]
    ]

undo_low_plain : (c : ℕ) (cs : List ℕ) (v : Bool) → nat_eq c 92 ≡ v → c < 128 → UndoesAlike cs →
    unescaped (c ∷ encode_utf8_all cs) ≡ encode_utf8_all (unescaped (c ∷ cs))
undo_low_plain c cs true is low rest = rw is rest.1
undo_low_plain c cs false is low rest = rw is (ap (λ l. c ∷ l) rest.0 ∙ sym (one_low c (unescaped cs) low))

undo_low : (c : ℕ) (cs : List ℕ) → c < 128 → UndoesAlike cs → UndoesAlike (c ∷ cs)
undo_low c cs low rest = (
  ap unescaped (one_low c cs low) ∙ undo_low_plain c cs (nat_eq c 92) refl low rest,
  ap (unescaped_after true) (one_low c cs low) ∙ (ap (λ l. undone c ++ l) rest.0 ∙ sym (low_undone c (unescaped cs) low)),
)

undo_high : (c : ℕ) (cs : List ℕ) → 128 ≤ c → UndoesAlike cs → UndoesAlike (c ∷ cs)
undo_high c cs high rest =
    let plain : nat_eq c 92 ≡ false = no_backslash c (high_test c high) in
    let kept = past_ascii c high in
    let bytes : unescaped (encode_utf8 c ++ encode_utf8_all cs) ≡ encode_utf8 c ++ encode_utf8_all (unescaped cs) =
    unescaped_high (encode_utf8 c) (encode_utf8_all cs) (encode_high c high)
    ∙ ap (λ l. encode_utf8 c ++ l) rest.0 in (
      bytes ∙ rw plain refl,
      kept_backslash c (encode_utf8 c ++ encode_utf8_all cs) (encode_utf8_all cs) refl kept
          ∙ (ap (λ l. 92 ∷ l) bytes ∙ rw kept (sym (one_low 92 (c ∷ unescaped cs) (omega arith)))),
    )

undo_chars : (cs : List ℕ) → UndoesAlike cs
undo_chars [] = (refl, sym (one_low 92 [] (omega arith)))
undo_chars (c ∷ cs) = ⊎_elim
    (λ (low : c < 128). undo_low c cs low (undo_chars cs))
    (λ (high : 128 ≤ c). undo_high c cs high (undo_chars cs)) (cases_lt c 128)

-- Chars are scalar values
xml_scalar : (c : ℕ) → is_xml_char c ≡ true → IsScalar c
unfolding is_xml_char
xml_scalar c h = grind (arith, nat_tests)

all_scalar : (cs : List ℕ) → list_all is_xml_char cs ≡ true → all_scalars cs ≡ true
all_scalar [] h = refl
all_scalar (c ∷ cs) h =
    let here = and_parts (is_xml_char c) _ h in
    let one : IsScalar c = xml_scalar c here.0 in
    and_from _ _ one (all_scalar cs here.1)

-- Chars spell a text
pub spelled : (cs : List ℕ) → list_all is_xml_char cs ≡ true → of_chars (encode_utf8_all cs) ≡ true
spelled cs h =
    let scalars = all_scalar cs h in
    made_of (encode_utf8_all cs) (cs, (scalars, refl)) (ap (list_all is_xml_char) (chars-encodes cs scalars) ∙ h)

-- the escapes of Chars undone are Chars
line_feed : is_xml_char 10 ≡ true
unfolding is_xml_char
line_feed = refl

tab : is_xml_char 9 ≡ true
unfolding is_xml_char
tab = refl

carriage_return : is_xml_char 13 ≡ true
unfolding is_xml_char
carriage_return = refl

backslash : is_xml_char 92 ≡ true
unfolding is_xml_char
backslash = refl

letter_n : is_xml_char 110 ≡ true
unfolding is_xml_char
letter_n = refl

letter_t : is_xml_char 116 ≡ true
unfolding is_xml_char
letter_t = refl

letter_r : is_xml_char 114 ≡ true
unfolding is_xml_char
letter_r = refl

abbrev all_made : List ℕ → Bool
all_made cs = list_all is_xml_char cs

undone_made : (c : ℕ) (cs : List ℕ) → is_xml_char c ≡ true → all_made cs ≡ true → all_made (undone c ++ cs) ≡ true
undone_made c cs made rest =
    elim (nat_eq c 110) as (λ v. all_made (cond v (10 ∷ []) (cond (nat_eq c 116) (9 ∷ []) (cond (nat_eq c 114) (13 ∷ []) (cond (nat_eq c 92) (92 ∷ []) (92 ∷ c ∷ [])))) ++ cs) ≡ true) [
      | true ↦ and_from _ _ line_feed rest
      | false ↦ elim (nat_eq c 116) as (λ v. all_made (cond v (9 ∷ []) (cond (nat_eq c 114) (13 ∷ []) (cond (nat_eq c 92) (92 ∷ []) (92 ∷ c ∷ []))) ++ cs) ≡ true) [
        | true ↦ and_from _ _ tab rest
        | false ↦ elim (nat_eq c 114) as (λ v. all_made (cond v (13 ∷ []) (cond (nat_eq c 92) (92 ∷ []) (92 ∷ c ∷ [])) ++ cs) ≡ true) [
          | true ↦ and_from _ _ carriage_return rest
          | false ↦ elim (nat_eq c 92) as (λ v. all_made (cond v (92 ∷ []) (92 ∷ c ∷ []) ++ cs) ≡ true) [
            | true ↦ and_from _ _ backslash rest
            | false ↦ and_from _ _ backslash (and_from _ _ made rest)
          ]
        ]
      ]
    ]

plain_made : (c : ℕ) (cs : List ℕ) (v : Bool) → nat_eq c 92 ≡ v → is_xml_char c ≡ true →
    all_made (unescaped cs) ≡ true → all_made (unescaped_after true cs) ≡ true → all_made (unescaped (c ∷ cs)) ≡ true
plain_made c cs true is made rest behind = rw is behind
plain_made c cs false is made rest behind = rw is (and_from _ _ made rest)

unescaped_all : (cs : List ℕ) → all_made cs ≡ true → (all_made (unescaped cs) ≡ true) × (all_made (unescaped_after true cs) ≡ true)
unescaped_all [] h = (refl, and_from _ _ backslash refl)
unescaped_all (c ∷ cs) h =
    let here = and_parts (is_xml_char c) _ h in
    let rest = unescaped_all cs here.1 in
    (plain_made c cs (nat_eq c 92) refl here.0 rest.0 rest.1, undone_made c (unescaped cs) here.0 rest.0)

-- so is a text with its escapes undone
pub unescaped_made : (text : List ℕ) → of_chars text ≡ true → of_chars (unescaped text) ≡ true
unescaped_made text h =
    let utf8 = utf8_of text h in
    let made = (and_parts (is_utf8 text) _ h).1 in
    let is : unescaped text ≡ encode_utf8_all (unescaped (chars text)) =
    ap unescaped (sym (encodes-chars text utf8)) ∙ (undo_chars (chars text)).0 in
    ap of_chars is ∙ spelled (unescaped (chars text)) (unescaped_all (chars text) made).0

-- the escapes of Chars written are Chars
escape_made : (c : ℕ) (cs : List ℕ) → is_xml_char c ≡ true → all_made cs ≡ true → all_made (escape_of c ++ cs) ≡ true
escape_made c cs made rest =
    elim (nat_eq c 10) as (λ v. all_made (cond v (92 ∷ 110 ∷ []) (cond (nat_eq c 9) (92 ∷ 116 ∷ []) (cond (nat_eq c 13) (92 ∷ 114 ∷ []) (cond (nat_eq c 92) (92 ∷ 92 ∷ []) (c ∷ [])))) ++ cs) ≡ true) [
      | true ↦ and_from _ _ backslash (and_from _ _ letter_n rest)
      | false ↦ elim (nat_eq c 9) as (λ v. all_made (cond v (92 ∷ 116 ∷ []) (cond (nat_eq c 13) (92 ∷ 114 ∷ []) (cond (nat_eq c 92) (92 ∷ 92 ∷ []) (c ∷ []))) ++ cs) ≡ true) [
        | true ↦ and_from _ _ backslash (and_from _ _ letter_t rest)
        | false ↦ elim (nat_eq c 13) as (λ v. all_made (cond v (92 ∷ 114 ∷ []) (cond (nat_eq c 92) (92 ∷ 92 ∷ []) (c ∷ [])) ++ cs) ≡ true) [
          | true ↦ and_from _ _ backslash (and_from _ _ letter_r rest)
          | false ↦ elim (nat_eq c 92) as (λ v. all_made (cond v (92 ∷ 92 ∷ []) (c ∷ []) ++ cs) ≡ true) [
            | true ↦ and_from _ _ backslash (and_from _ _ backslash rest)
            | false ↦ and_from _ _ made rest
          ]
        ]
      ]
    ]

escaped_all : (cs : List ℕ) → all_made cs ≡ true → all_made (escaped cs) ≡ true
escaped_all [] h = refl
escaped_all (c ∷ cs) h = let here = and_parts (is_xml_char c) _ h in escape_made c (escaped cs) here.0 (escaped_all cs here.1)

low_escape : (c : ℕ) (cs : List ℕ) → c < 128 → encode_utf8_all (escape_of c ++ cs) ≡ escape_of c ++ encode_utf8_all cs
low_escape c cs low =
    elim (nat_eq c 10) as (λ v. encode_utf8_all (cond v (92 ∷ 110 ∷ []) (cond (nat_eq c 9) (92 ∷ 116 ∷ []) (cond (nat_eq c 13) (92 ∷ 114 ∷ []) (cond (nat_eq c 92) (92 ∷ 92 ∷ []) (c ∷ [])))) ++ cs)
    ≡ cond v (92 ∷ 110 ∷ []) (cond (nat_eq c 9) (92 ∷ 116 ∷ []) (cond (nat_eq c 13) (92 ∷ 114 ∷ []) (cond (nat_eq c 92) (92 ∷ 92 ∷ []) (c ∷ [])))) ++ encode_utf8_all cs) [
      | true ↦ two_low 92 110 cs (omega arith) (omega arith)
      | false ↦ elim (nat_eq c 9) as (λ v. encode_utf8_all (cond v (92 ∷ 116 ∷ []) (cond (nat_eq c 13) (92 ∷ 114 ∷ []) (cond (nat_eq c 92) (92 ∷ 92 ∷ []) (c ∷ []))) ++ cs)
          ≡ cond v (92 ∷ 116 ∷ []) (cond (nat_eq c 13) (92 ∷ 114 ∷ []) (cond (nat_eq c 92) (92 ∷ 92 ∷ []) (c ∷ []))) ++ encode_utf8_all cs) [
            | true ↦ two_low 92 116 cs (omega arith) (omega arith)
            | false ↦ elim (nat_eq c 13) as (λ v. encode_utf8_all (cond v (92 ∷ 114 ∷ []) (cond (nat_eq c 92) (92 ∷ 92 ∷ []) (c ∷ [])) ++ cs)
                ≡ cond v (92 ∷ 114 ∷ []) (cond (nat_eq c 92) (92 ∷ 92 ∷ []) (c ∷ [])) ++ encode_utf8_all cs) [
                  | true ↦ two_low 92 114 cs (omega arith) (omega arith)
                  | false ↦ elim (nat_eq c 92) as (λ v. encode_utf8_all (cond v (92 ∷ 92 ∷ []) (c ∷ []) ++ cs)
                      ≡ cond v (92 ∷ 92 ∷ []) (c ∷ []) ++ encode_utf8_all cs) [
                        | true ↦ two_low 92 92 cs (omega arith) (omega arith)
                        | false ↦ one_low c cs low
                      ]
                ]
          ]
    ]

escape_one : (c : ℕ) (cs : List ℕ) → escaped (encode_utf8_all cs) ≡ encode_utf8_all (escaped cs) →
    escaped (encode_utf8_all (c ∷ cs)) ≡ encode_utf8_all (escaped (c ∷ cs))
escape_one c cs rest = ⊎_elim
    (λ (low : c < 128). ap escaped (one_low c cs low) ∙ (ap (λ l. escape_of c ++ l) rest ∙ sym (low_escape c (escaped cs) low)))
    (λ (high : 128 ≤ c). escaped_high (encode_utf8 c) (encode_utf8_all cs) (encode_high c high)
    ∙ (ap (λ l. encode_utf8 c ++ l) rest ∙ sym (ap (λ l. encode_utf8_all (l ++ escaped cs)) (plain_byte c (high_test c high)))))
    (cases_lt c 128)

escape_chars : (cs : List ℕ) → escaped (encode_utf8_all cs) ≡ encode_utf8_all (escaped cs)
escape_chars [] = refl
escape_chars (c ∷ cs) = escape_one c cs (escape_chars cs)

pub escaped_made : (text : List ℕ) → of_chars text ≡ true → of_chars (escaped text) ≡ true
escaped_made text h =
    let utf8 = utf8_of text h in
    let made = (and_parts (is_utf8 text) _ h).1 in
    let is : escaped text ≡ encode_utf8_all (escaped (chars text)) =
    ap escaped (sym (encodes-chars text utf8)) ∙ escape_chars (chars text) in
    ap of_chars is ∙ spelled (escaped (chars text)) (escaped_all (chars text) made)
