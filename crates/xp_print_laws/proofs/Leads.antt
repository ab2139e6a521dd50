-- What lexemes begin with: XPath 1.0, section 3.7.
use Rattle.std.proofs.Common.{◌≡◌, ℕ, ◌≤◌, Bool, true, false, ◌==◌, if◌then◌else◌, ◌&&◌, ◌||◌, List, [], ◌∷◌, ◌++◌, length, Option, Some, None, refl, sym, subst, ap, arith}
use Rattle.std.specs.Char.{is_ascii_digit}
use Rattle.std.specs.List.{list_any}
use Rattle.std.specs.Str.{bytes_eq, all_ascii_digits}
use Rattle.std.specs.Cmp.Lexicographic.{same_text}
use Rattle.xp_grammar.specs.declared.token.Token.{Token}
use Rattle.xp_lexicon.specs.declared.lexeme.Lexeme.{Lexeme}
use Rattle.xp_lexicon.specs.declared.lexeme.Lexeme.TheVariants as lexeme
use Rattle.xp_lexicon.specs.Lexicon.{symbols, are_digits, IsNumber, whole_number, ending_point, inner_point, leading_point, is_quote, IsLexeme, symbol_lexeme, star_lexeme, literal_lexeme, number_lexeme, variable_lexeme, prefixed_variable_lexeme, name_lexeme, prefixed_name_lexeme, prefix_star_lexeme}
use Rattle.sch_base.specs.Named.{named}
use Rattle.xp_print_laws.proofs.Fronts.{both, same-heads, same-tails}
use Rattle.xp_print_laws.proofs.NameBytes.{is_start_byte, NameBytes, name-bytes}

-- ---- tables

abbrev pub Each : {A : Type 0} → (List ℕ → A → Type 0) → List (List ℕ × A) → Type 0
Each P [] = Unit {0}
Each P (entry ∷ table) = P entry.0 entry.1 × Each P table

abbrev held_or : {A : Type 0} → A → Option A → A
held_or d None = d
held_or d (Some a) = a

pub some-same : {A : Type 0} (a b : A) → Some a ≡ Some b → a ≡ b
some-same a b e = ap (held_or a) e

entry-or-rest : {A : Type 0} (P : List ℕ → A → Type 0) (entry : List ℕ × A) (next : Option A) (text : List ℕ) (a : A) → P entry.0 entry.1 → (next ≡ Some a → P text a) →
    (b : Bool) → bytes_eq text entry.0 ≡ b → (if b then Some entry.1 else next) ≡ Some a → P text a
entry-or-rest P entry next text a here on true is found =
    subst (λ x. P text x) (some-same entry.1 a found) (subst (λ x. P x entry.1) (sym (same_text text entry.0 (sym is))) here)
entry-or-rest P entry next text a here on false is found = on found

pub named-each : {A : Type 0} (P : List ℕ → A → Type 0) (table : List (List ℕ × A)) → Each P table → (text : List ℕ) (a : A) → named table text ≡ Some a → P text a
named-each P [] each text a e = absurd (cc)
named-each {A} P (entry ∷ table) each text a e =
    entry-or-rest P entry (named table text) text a each.0 (λ rest. named-each P table each.1 text a rest) (bytes_eq text entry.0) refl e

-- ---- symbols

abbrev pub signs : List ℕ
signs = 40 ∷ 41 ∷ 91 ∷ 93 ∷ 46 ∷ 64 ∷ 44 ∷ 58 ∷ 47 ∷ 124 ∷ 43 ∷ 45 ∷ 61 ∷ 33 ∷ 60 ∷ 62 ∷ []

abbrev pub is_sign : ℕ → Bool
is_sign b = list_any (λ x. b == x) signs

-- the two signs are one symbol
abbrev pub is_pair : ℕ → ℕ → Bool
is_pair a c = list_any (λ (x : ℕ × ℕ). a == x.0 && c == x.1) ((46, 46) ∷ (58, 58) ∷ (47, 47) ∷ (33, 61) ∷ (60, 61) ∷ (62, 61) ∷ [])

pub data Short : List ℕ → Type 0 where
  one_sign : (a : ℕ) → is_sign a ≡ true → Short (a ∷ [])
  two_signs : (a c : ℕ) → is_sign a ≡ true → is_pair a c ≡ true → Short (a ∷ c ∷ [])

symbols-short : Each (λ text t. Short text) symbols
symbols-short = (
  one_sign 40 refl,
  (
    one_sign 41 refl,
    (
      one_sign 91 refl,
      (
        one_sign 93 refl,
        (
          one_sign 46 refl,
          (
            two_signs 46 46 refl refl,
            (
              one_sign 64 refl,
              (
                one_sign 44 refl,
                (
                  two_signs 58 58 refl refl,
                  (
                    one_sign 47 refl,
                    (
                      two_signs 47 47 refl refl,
                      (
                        one_sign 124 refl,
                        (
                          one_sign 43 refl,
                          (
                            one_sign 45 refl,
                            (
                              one_sign 61 refl,
                              (
                                two_signs 33 61 refl refl,
                                (
                                  one_sign 60 refl,
                                  (
                                    two_signs 60 61 refl refl,
                                    (one_sign 62 refl, (two_signs 62 61 refl refl, tt)),
                                  ),
                                ),
                              ),
                            ),
                          ),
                        ),
                      ),
                    ),
                  ),
                ),
              ),
            ),
          ),
        ),
      ),
    ),
  ),
)

pub symbol-short : (bytes : List ℕ) (t : Token) → named symbols bytes ≡ Some t → Short bytes
symbol-short bytes t e = named-each (λ text t. Short text) symbols symbols-short bytes t e

-- ---- the first byte of each kind

abbrev pub leads : Lexeme → ℕ → Bool
leads (lexeme.Symbol t) b = is_sign b
leads lexeme.Star b = b == 42
leads (lexeme.Literal value) b = is_quote b
leads (lexeme.Number digits) b = is_ascii_digit b || b == 46
leads (lexeme.Variable name) b = b == 36
leads (lexeme.Name name) b = is_start_byte b
leads (lexeme.PrefixedName name) b = is_start_byte b
leads (lexeme.PrefixStar prefix) b = is_start_byte b

-- a test that the first byte passes
abbrev pub First : (ℕ → Bool) → List ℕ → Type 0
First p [] = ⊥
First p (b ∷ bs) = p b ≡ true

short-first : (bytes : List ℕ) → Short bytes → First is_sign bytes
short-first bytes (one_sign a h) = h
short-first bytes (two_signs a c h pair) = h

digits-first : (digits rest : List ℕ) → are_digits digits ≡ true → First (λ b. is_ascii_digit b || b == 46) (digits ++ rest)
digits-first [] rest h = absurd (cc)
digits-first (d ∷ ds) rest h = ap (λ t. t || d == 46) (both (is_ascii_digit d) (all_ascii_digits ds) h).0

digits-first-alone : (digits : List ℕ) → are_digits digits ≡ true → First (λ b. is_ascii_digit b || b == 46) digits
digits-first-alone [] h = absurd (cc)
digits-first-alone (d ∷ ds) h = ap (λ t. t || d == 46) (both (is_ascii_digit d) (all_ascii_digits ds) h).0

pub number-first : (bytes : List ℕ) → IsNumber bytes → First (λ b. is_ascii_digit b || b == 46) bytes
number-first bytes (whole_number digits h) = digits-first-alone digits h
number-first bytes (ending_point b digits e h) = subst (First (λ b. is_ascii_digit b || b == 46)) (sym e) (digits-first digits (46 ∷ []) h)
number-first bytes (inner_point b digits fraction e h g) = subst (First (λ b. is_ascii_digit b || b == 46)) (sym e) (digits-first digits (46 ∷ fraction) h)
number-first bytes (leading_point fraction h) = last_or (is_ascii_digit 46)
  where
    last_or : (a : Bool) → (a || true) ≡ true
    last_or true = refl
    last_or false = refl

pub name-first : (name rest : List ℕ) → NameBytes name → First is_start_byte (name ++ rest)
name-first name rest n = subst (λ x. First is_start_byte (x ++ rest)) (sym n.is) n.start

name-first-alone : (name : List ℕ) → NameBytes name → First is_start_byte name
name-first-alone name n = subst (First is_start_byte) (sym n.is) n.start

first-of : {bytes : List ℕ} {l : Lexeme} → IsLexeme bytes l → First (leads l) bytes
first-of (symbol_lexeme bytes t e) = short-first bytes (symbol-short bytes t e)
first-of star_lexeme = refl
first-of (literal_lexeme bytes value quote is none e) = subst (First is_quote) (sym e) is
first-of (number_lexeme bytes n) = number-first bytes n
first-of (variable_lexeme name n) = refl
first-of (prefixed_variable_lexeme name n) = refl
first-of (name_lexeme bytes n) = name-first-alone bytes (name-bytes bytes n)
first-of (prefixed_name_lexeme bytes n) =
    subst (First is_start_byte) (sym n.joined) (name-first n.prefix (58 ∷ n.local) (name-bytes n.prefix n.prefix_name))
first-of (prefix_star_lexeme bytes prefix e n) = subst (First is_start_byte) (sym e) (name-first prefix (58 ∷ 42 ∷ []) (name-bytes prefix n))

-- the longest lexeme is found by the kinds that its first byte can lead
pub longest-by : (b : ℕ) (text : List ℕ) (n : ℕ) →
    ((l : Lexeme) (bs after : List ℕ) → leads l b ≡ true → IsLexeme (b ∷ bs) l → text ≡ bs ++ after → length (b ∷ bs) ≤ n) →
    (more after : List ℕ) (l : Lexeme) → b ∷ text ≡ more ++ after → IsLexeme more l → length more ≤ n
longest-by b text n on [] after l e L = omega arith
longest-by b text n on (x ∷ xs) after l e L =
    let same : x ≡ b = sym (same-heads b x text (xs ++ after) e) in
    let M : IsLexeme (b ∷ xs) l = subst (λ y. IsLexeme (y ∷ xs) l) same L in
    on l xs after (first-of M) M (same-tails b x text (xs ++ after) e)

-- ---- the kinds apart

pub symbol-of : {bytes : List ℕ} {t : Token} → IsLexeme bytes (lexeme.Symbol t) → named symbols bytes ≡ Some t
symbol-of (symbol_lexeme bytes t e) = e

-- no kind but symbols begins with the byte
pub record Sign (b : ℕ) : Type 0 where
  pub star : (b == 42) ≡ false
  pub quote : is_quote b ≡ false
  pub digit : (is_ascii_digit b || b == 46) ≡ false
  pub dollar : (b == 36) ≡ false
  pub start : is_start_byte b ≡ false

pub only-symbols : (b : ℕ) → Sign b → (n : ℕ) (bs after text : List ℕ) → ((t : Token) → named symbols (b ∷ bs) ≡ Some t → length (b ∷ bs) ≤ n) →
    (l : Lexeme) → leads l b ≡ true → IsLexeme (b ∷ bs) l → length (b ∷ bs) ≤ n
only-symbols b s n bs after text on (lexeme.Symbol t) led L = on t (symbol-of L)
only-symbols b s n bs after text on lexeme.Star led L = absurd (let none = s.star in cc)
only-symbols b s n bs after text on (lexeme.Literal value) led L = absurd (let none = s.quote in cc)
only-symbols b s n bs after text on (lexeme.Number digits) led L = absurd (let none = s.digit in cc)
only-symbols b s n bs after text on (lexeme.Variable name) led L = absurd (let none = s.dollar in cc)
only-symbols b s n bs after text on (lexeme.Name name) led L = absurd (let none = s.start in cc)
only-symbols b s n bs after text on (lexeme.PrefixedName name) led L = absurd (let none = s.start in cc)
only-symbols b s n bs after text on (lexeme.PrefixStar prefix) led L = absurd (let none = s.start in cc)
