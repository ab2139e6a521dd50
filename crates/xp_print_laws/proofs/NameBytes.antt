-- The bytes of names: Namespaces in XML 1.0, section 3.
use Rattle.std.proofs.Common.{◌≡◌, ℕ, suc, ◌≤◌, ◌<◌, Bool, true, false, nat_le, ◌||◌, not, List, [], ◌∷◌, ◌++◌, length, length-append, get_or, encode_utf8, encode_utf8_all, ⊎_elim, refl, sym, subst, ap, arith}
use Rattle.std.specs.List.{list_all}
use Rattle.std.specs.Str.{chars, NoCharPasses, NonePass}
use Rattle.std.proofs.lemmas.Bool.{cases_lt}
use Rattle.std.proofs.lemmas.Bool.Decides.{nat_tests}
use Rattle.std.proofs.lemmas.Str.{encodes-chars, NoCharPasses-byte, char_from_byte, length-encode, len_utf8_bounds}
use Rattle.sch_base.specs.Characters.{is_name_start, is_name_char}
use Rattle.sch_base.specs.Names.{is_ncname_of}
use Rattle.xp_lexicon.specs.Lexicon.{IsNcname}
use Rattle.xp_print_laws.proofs.Fronts.{both}

-- a byte of a name, and one that a name begins with
abbrev pub is_name_byte : ℕ → Bool
is_name_byte b = nat_le 128 b || is_name_char b

abbrev pub is_start_byte : ℕ → Bool
is_start_byte b = nat_le 128 b || is_name_start b

pub record NameBytes (bytes : List ℕ) : Type 0 where
  pub first : ℕ
  pub others : List ℕ
  pub is : bytes ≡ first ∷ others
  pub start : is_start_byte first ≡ true
  pub all : list_all is_name_byte bytes ≡ true

high-name : (b : ℕ) → 128 ≤ b → is_name_byte b ≡ true
high-name b high = let test : nat_le 128 b ≡ true = grind (arith, nat_tests) in ap (λ t. t || is_name_char b) test

high-start : (b : ℕ) → 128 ≤ b → is_start_byte b ≡ true
high-start b high = let test : nat_le 128 b ≡ true = grind (arith, nat_tests) in ap (λ t. t || is_name_start b) test

either : (a b : Bool) → b ≡ true → (a || b) ≡ true
either true b h = refl
either false b h = h

former : (a b : Bool) → a ≡ true → (a || b) ≡ true
former true b h = refl
former false b h = absurd (cc)

not-false : (a : Bool) → not a ≡ false → a ≡ true
not-false true h = refl
not-false false h = absurd (cc)

start-char : (c : ℕ) → is_name_start c ≡ true → is_name_char c ≡ true
unfolding is_name_char
start-char c h = former (is_name_start c) _ h

none-pass : (cs : List ℕ) → list_all is_name_char cs ≡ true → NonePass (λ c. not (is_name_char c)) cs
none-pass [] h = tt
none-pass (c ∷ cs) h = let here = both (is_name_char c) (list_all is_name_char cs) h in (ap not here.0, none-pass cs here.1)

all-bytes : (name : List ℕ) → ((i : ℕ) → i < length name → is_name_byte (get_or name i 0) ≡ true) → list_all is_name_byte name ≡ true
all-bytes [] each = refl
all-bytes (b ∷ name) each = rw (each 0 (omega arith)) (all-bytes name (λ i less. each (suc i) (omega arith)))

byte-of : (bytes : List ℕ) (i : ℕ) → NoCharPasses (λ c. not (is_name_char c)) bytes → i < length bytes → is_name_byte (get_or bytes i 0) ≡ true
byte-of bytes i none less = ⊎_elim
    (λ (low : get_or bytes i 0 < 128).
    either (nat_le 128 (get_or bytes i 0)) (is_name_char (get_or bytes i 0)) (not-false (is_name_char (get_or bytes i 0)) (NoCharPasses-byte (λ c. not (is_name_char c)) bytes i none less low)))
    (λ (high : 128 ≤ get_or bytes i 0). high-name (get_or bytes i 0) high) (cases_lt (get_or bytes i 0) 128)

start-of : (b c : ℕ) (bs rest : List ℕ) → b ∷ bs ≡ encode_utf8 c ++ rest → is_name_start c ≡ true → is_start_byte b ≡ true
start-of b c bs rest e h = ⊎_elim
    (λ (low : b < 128). let same : c ≡ b = char_from_byte (b ∷ bs) rest c e low (omega arith) in
    either (nat_le 128 b) (is_name_start b) (subst (λ x. is_name_start x ≡ true) same h))
    (λ (high : 128 ≤ b). high-start b high) (cases_lt b 128)

spelled-name : (bytes : List ℕ) (c : ℕ) (cs : List ℕ) → encode_utf8_all (c ∷ cs) ≡ bytes → is_name_start c ≡ true → list_all is_name_char cs ≡ true → NameBytes bytes
spelled-name [] c cs e h all = absurd (omega (arith, ap length e, length-append (encode_utf8 c) (encode_utf8_all cs), length-encode c, (len_utf8_bounds c).0))
spelled-name (b ∷ bs) c cs e h all =
    let none : NoCharPasses (λ c. not (is_name_char c)) (b ∷ bs) = (c ∷ cs, e, (ap not (start-char c h), none-pass cs all)) in
    record {
      first = b;
      others = bs;
      is = refl;
      start = start-of b c bs (encode_utf8_all cs) (sym e) h;
      all = all-bytes (b ∷ bs) (λ i less. byte-of (b ∷ bs) i none less);
    }

name-of : (bytes cs : List ℕ) → encode_utf8_all cs ≡ bytes → is_ncname_of cs ≡ true → NameBytes bytes
name-of bytes [] e h = absurd (cc)
name-of bytes (c ∷ cs) e h = let here = both (is_name_start c) (list_all is_name_char cs) h in spelled-name bytes c cs e here.0 here.1

pub name-bytes : (bytes : List ℕ) → IsNcname bytes → NameBytes bytes
name-bytes bytes n = name-of bytes (chars bytes) (encodes-chars bytes n.utf8) n.name

-- ---- bytes that no name has

pub colon-ends : is_name_byte 58 ≡ false
unfolding is_name_char is_name_start
colon-ends = refl

pub star-starts-no-name : is_start_byte 42 ≡ false
unfolding is_name_start
star-starts-no-name = refl

pub colon-starts-no-name : is_start_byte 58 ≡ false
unfolding is_name_start
colon-starts-no-name = refl
