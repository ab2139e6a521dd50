-- A name has no colon, and how a QName is split at its colon.
use Rattle.std.proofs.Common.{◌≡◌, ℕ, suc, ◌<◌, ◌≤◌, ⊎_elim, true, false, List, [], ◌∷◌, ◌++◌, length, get_or, arith, refl}
use Rattle.std.specs.Prelude.{IsUtf8}
use Rattle.std.specs.List.{list_any, list_all, position_or_len, before_first, after_first}
use Rattle.std.specs.Str.{chars, NoCharPasses, NonePass}
use Rattle.std.proofs.Math.Seq.{take-append_seam, drop-append-add}
use Rattle.std.proofs.lemmas.Bool.{and_parts, cases_lt}
use Rattle.std.proofs.lemmas.Bool.Decides.{nat_tests}
use Rattle.std.proofs.Math.Bool.{or-true}
use Rattle.std.proofs.lemmas.Grind.{common_steps}
use Rattle.std.proofs.lemmas.Str.{encodes-chars, NoCharPasses-byte}
use Rattle.sch_base.specs.Characters.{is_name_start, is_name_char}
use Rattle.sch_base.specs.Names.{is_ncname, is_ncname_of, is_colon, QNamesSplit}

-- no name has a colon
pub start_is_no_colon : (c : ℕ) → is_name_start c ≡ true → is_colon c ≡ false
unfolding is_name_start
start_is_no_colon c h = grind (arith, nat_tests)

pub char_is_no_colon : (c : ℕ) → is_name_char c ≡ true → is_colon c ≡ false
unfolding is_name_char is_name_start
char_is_no_colon c h = grind (arith, nat_tests)

-- the place of the first colon
pub colon_place : (prefix name : List ℕ) → list_any is_colon prefix ≡ false →
    position_or_len is_colon (prefix ++ 58 ∷ name) ≡ length prefix
colon_place [] name none = refl
colon_place (b ∷ prefix) name none = grind (arith, common_steps, colon_place prefix name)

pub has_colon : (prefix name : List ℕ) → list_any is_colon (prefix ++ 58 ∷ name) ≡ true
has_colon [] name = refl
has_colon (b ∷ prefix) name = rw (has_colon prefix name) (or-true (is_colon b))

pub before_colon : (prefix name : List ℕ) → list_any is_colon prefix ≡ false →
    before_first is_colon (prefix ++ 58 ∷ name) ≡ prefix
before_colon prefix name none = rw (colon_place prefix name none) (take-append_seam prefix (58 ∷ name))

pub after_colon : (prefix name : List ℕ) → list_any is_colon prefix ≡ false →
    after_first is_colon (prefix ++ 58 ∷ name) ≡ name
after_colon prefix name none = rw (colon_place prefix name none) (drop-append-add prefix (58 ∷ name) 1)

-- no character of a name is a colon, and so no byte
rest_without : (cs : List ℕ) → list_all is_name_char cs ≡ true → NonePass is_colon cs
rest_without [] h = tt
rest_without (c ∷ cs) h =
    let here = and_parts (is_name_char c) _ h in (char_is_no_colon c here.0, rest_without cs here.1)

name_without : (cs : List ℕ) → is_ncname_of cs ≡ true → NonePass is_colon cs
name_without [] h = tt
name_without (c ∷ cs) h =
    let here = and_parts (is_name_start c) _ h in (start_is_no_colon c here.0, rest_without cs here.1)

high_byte : (b : ℕ) → 128 ≤ b → is_colon b ≡ false
high_byte b high = grind (arith, nat_tests)

byte_without : (name : List ℕ) (i : ℕ) → NoCharPasses is_colon name → i < length name → is_colon (get_or name i 0) ≡ false
byte_without name i none less = ⊎_elim
    (λ (low : get_or name i 0 < 128). NoCharPasses-byte is_colon name i none less low)
    (λ (high : 128 ≤ get_or name i 0). high_byte (get_or name i 0) high) (cases_lt (get_or name i 0) 128)

no_byte : (name : List ℕ) → ((i : ℕ) → i < length name → is_colon (get_or name i 0) ≡ false) →
    list_any is_colon name ≡ false
no_byte [] none = refl
no_byte (b ∷ name) none = rw (none 0 (omega arith)) (no_byte name (λ i less. none (suc i) (omega arith)))

pub without_colon : (name : List ℕ) → IsUtf8 name → is_ncname name ≡ true → list_any is_colon name ≡ false
without_colon name utf8 h =
    let none : NoCharPasses is_colon name = (chars name, encodes-chars name utf8, name_without (chars name) h) in
    no_byte name (λ i less. byte_without name i none less)

pub qname_splits : QNamesSplit
qname_splits = record {
  local = λ name utf8 h. rw (without_colon name utf8 h, h) refl;
  prefixed = λ prefix name utf8 h_prefix h_name.
      let none = without_colon prefix utf8 h_prefix in
      rw (has_colon prefix name, before_colon prefix name none, after_colon prefix name none, h_prefix, h_name) refl;
}
