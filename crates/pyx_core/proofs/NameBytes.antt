-- Names have no byte that stands for another thing in a line.
use Rattle.std.proofs.Common.{◌≡◌, ℕ, suc, ◌<◌, ◌≤◌, ⊎_elim, Bool, true, false, cond, nat_eq, List, [], ◌∷◌, ◌++◌, length, get_or, Option, None, arith, refl, sym, ◌∙◌, ap}
use Rattle.std.specs.Prelude.{IsUtf8}
use Rattle.std.specs.List.{list_any, list_all, position_or_len, before_first, after_first}
use Rattle.std.specs.Option.{is_some}
use Rattle.std.specs.Str.{chars, NoCharPasses, NonePass}
use Rattle.std.proofs.Math.Seq.{take-append_seam, drop-append-add}
use Rattle.std.proofs.lemmas.Bool.{cases_lt, eqb-true, and_parts}
use Rattle.std.proofs.lemmas.Bool.Decides.{nat_tests}
use Rattle.std.proofs.lemmas.Grind.{common_steps}
use Rattle.std.proofs.lemmas.Str.{encodes-chars, NoCharPasses-byte}
use Rattle.sch_base.specs.Characters.{is_name_start, is_name_char}
use Rattle.sch_base.specs.Names.{is_ncname, is_ncname_of, is_colon}
use Rattle.pyx_core.specs.LineTable.{is_qname, is_space}
use Rattle.pyx_core.specs.Nesting.{of_chars}
use Rattle.pyx_core.proofs.TextLemmas.{utf8_of, front_ascii, behind_front, cut_at}

-- whether a byte stands in a text
abbrev pub holds : ℕ → List ℕ → Bool
holds d text = list_any (λ b. nat_eq b d) text

-- an ASCII character that stands in no name
pub record NoName (d : ℕ) : Type 0 where
  pub low : d < 128
  pub no_start : is_name_start d ≡ false
  pub no_char : is_name_char d ≡ false

pub space_no_name : NoName 32
unfolding is_name_start is_name_char
space_no_name = record { low = omega arith; no_start = refl; no_char = refl }

pub line_end_no_name : NoName 10
unfolding is_name_start is_name_char
line_end_no_name = record { low = omega arith; no_start = refl; no_char = refl }

differs : (p : ℕ → Bool) (c d : ℕ) (v : Bool) → nat_eq c d ≡ v → p c ≡ true → p d ≡ false → nat_eq c d ≡ false
differs p c d true is passes fails = let same : p c ≡ p d = ap p (eqb-true c d is) in absurd (cc)
differs p c d false is passes fails = is

rest_without : (d : ℕ) (cs : List ℕ) → NoName d → list_all is_name_char cs ≡ true → NonePass (λ b. nat_eq b d) cs
rest_without d [] free h = tt
rest_without d (c ∷ cs) free h =
    let here = and_parts (is_name_char c) _ h in
    (differs is_name_char c d (nat_eq c d) refl here.0 free.no_char, rest_without d cs free here.1)

name_without : (d : ℕ) (cs : List ℕ) → NoName d → is_ncname_of cs ≡ true → NonePass (λ b. nat_eq b d) cs
name_without d [] free h = tt
name_without d (c ∷ cs) free h =
    let here = and_parts (is_name_start c) _ h in
    (differs is_name_start c d (nat_eq c d) refl here.0 free.no_start, rest_without d cs free here.1)

high_differs : (b d : ℕ) → d < 128 → 128 ≤ b → nat_eq b d ≡ false
high_differs b d low high = grind (arith, nat_tests)

byte_without : (d : ℕ) (name : List ℕ) (i : ℕ) → d < 128 → NoCharPasses (λ b. nat_eq b d) name → i < length name →
    nat_eq (get_or name i 0) d ≡ false
byte_without d name i low none less = ⊎_elim
    (λ (here : get_or name i 0 < 128). NoCharPasses-byte (λ b. nat_eq b d) name i none less here)
    (λ (high : 128 ≤ get_or name i 0). high_differs (get_or name i 0) d low high) (cases_lt (get_or name i 0) 128)

no_byte : (d : ℕ) (name : List ℕ) → ((i : ℕ) → i < length name → nat_eq (get_or name i 0) d ≡ false) → holds d name ≡ false
no_byte d [] none = refl
no_byte d (b ∷ name) none = rw (none 0 (omega arith)) (no_byte d name (λ i less. none (suc i) (omega arith)))

pub ncname_without : (d : ℕ) (name : List ℕ) → NoName d → IsUtf8 name → is_ncname name ≡ true → holds d name ≡ false
ncname_without d name free utf8 h =
    let none : NoCharPasses (λ b. nat_eq b d) name = (chars name, encodes-chars name utf8, name_without d (chars name) free h) in
    no_byte d name (λ i less. byte_without d name i free.low none less)

holds_append : (d : ℕ) (xs ys : List ℕ) → holds d xs ≡ false → holds d ys ≡ false → holds d (xs ++ ys) ≡ false
holds_append d [] ys one other = other
holds_append d (b ∷ xs) ys one other = grind (arith, common_steps, holds_append d xs ys)

some_split : (v : Bool) (at : Option (ℕ × ℕ)) → is_some (cond v at None) ≡ true → v ≡ true
some_split true at h = refl
some_split false at h = absurd (cc)

qname_by : (d : ℕ) (name : List ℕ) (v : Bool) → list_any is_colon name ≡ v → NoName d → nat_eq 58 d ≡ false →
    of_chars name ≡ true → is_qname name ≡ true → holds d name ≡ false
qname_by d name true some free colon made h =
    let cut : name ≡ before_first is_colon name ++ 58 ∷ after_first is_colon name = cut_at 58 name some in
    let parts_made : of_chars (before_first is_colon name ++ 58 ∷ after_first is_colon name) ≡ true = ap of_chars (sym cut) ∙ made in
    let front = front_ascii 58 (before_first is_colon name) (after_first is_colon name) (omega arith) parts_made in
    let back = behind_front 58 (before_first is_colon name) (after_first is_colon name) (omega arith) parts_made in
    let names = and_parts (is_ncname (before_first is_colon name)) (is_ncname (after_first is_colon name))
    (some_split _ _ (rw some at h)) in
    let one = ncname_without d (before_first is_colon name) free (utf8_of _ front) names.0 in
    let other = ncname_without d (after_first is_colon name) free (utf8_of _ back) names.1 in
    ap (holds d) cut ∙ holds_append d (before_first is_colon name) (58 ∷ after_first is_colon name) one (rw colon other)
qname_by d name false none free colon made h =
    ncname_without d name free (utf8_of name made) (some_split _ _ (rw none at h))

pub qname_without : (d : ℕ) (name : List ℕ) → NoName d → nat_eq 58 d ≡ false → of_chars name ≡ true → is_qname name ≡ true →
    holds d name ≡ false
qname_without d name free colon made h = qname_by d name (list_any is_colon name) refl free colon made h

-- a name without a space, and what is after the space
space_place : (name text : List ℕ) → list_any is_space name ≡ false → position_or_len is_space (name ++ 32 ∷ text) ≡ length name
space_place [] text none = refl
space_place (b ∷ name) text none = grind (arith, common_steps, space_place name text)

pub before_space : (name text : List ℕ) → list_any is_space name ≡ false → before_first is_space (name ++ 32 ∷ text) ≡ name
before_space name text none = rw (space_place name text none) (take-append_seam name (32 ∷ text))

pub after_space : (name text : List ℕ) → list_any is_space name ≡ false → after_first is_space (name ++ 32 ∷ text) ≡ text
after_space name text none = rw (space_place name text none) (drop-append-add name (32 ∷ text) 1)
