-- The first character of a lexeme tells its form.
use Rattle.std.proofs.Common.{◌≡◌, ℕ, ◌<◌, ◌≤◌, Bool, true, false, nat_lt, List, [], ◌∷◌, ◌++◌, length, Option, Some, None, MatchOption, refl, sym, ap, subst, ◌∙◌, append_assoc, arith, lit<, ⊎_elim, inl, inr, ◌⊎◌}
use Rattle.std.specs.Prelude.{encode_utf8, encode_utf8_all, ◌==◌}
use Rattle.std.specs.Char.{is_ascii_digit}
use Rattle.std.specs.List.{list_any, list_all}
use Rattle.std.proofs.lemmas.Bool.{and_parts, both_ways, or_cases, eqb-true, ne_eqb, false_from_ne_true, ltb-true}
use Rattle.std.proofs.lemmas.Bool.Decides.{nat_tests}
use Rattle.std.proofs.lemmas.Str.{encode_ascii, encode_same}
use Rattle.sch_base.specs.Characters.{is_name_start}
use Rattle.xp_grammar.specs.declared.token.Token.{Token}
use Rattle.xp_lexicon.specs.declared.lexeme.Lexeme.{Lexeme}
use Rattle.xp_lexicon.specs.declared.lexeme.Lexeme.TheVariants as lexeme
use Rattle.xp_lexicon.specs.declared.lexeme.Form.{Form}
use Rattle.xp_lexicon.specs.declared.lexeme.Form.TheVariants as form
use Rattle.xp_lexicon.specs.declared.lexeme.Scanned.{Scanned}
use Rattle.xp_lexicon.specs.Lexicon.{symbols, is_quote, are_digits, IsNumber, whole_number, ending_point, inner_point, leading_point, IsNcname, IsLexeme, symbol_lexeme, star_lexeme, literal_lexeme, number_lexeme, variable_lexeme, prefixed_variable_lexeme, name_lexeme, prefixed_name_lexeme, prefix_star_lexeme}
use Rattle.xp_lexicon.specs.inner.Scanning.{form_of, fits, is_symbol, is_star, is_number, is_pointed, LongestOf, NoneOf, LongestAt, NoLexeme}
use Rattle.xp_lexicon.proofs.Symbols.{in_table}
use Rattle.xp_lexicon.proofs.Forms.{stars}
use Rattle.xp_lexicon.proofs.Literals.{quote_is_low}
use Rattle.xp_lexicon.proofs.Names.{name_parts}
use Rattle.xp_lexicon.proofs.LongNumbers.{digit_is_low}

-- the characters that symbols begin with
abbrev pub signs : List ℕ
signs = 40 ∷ 41 ∷ 91 ∷ 93 ∷ 46 ∷ 64 ∷ 44 ∷ 58 ∷ 47 ∷ 124 ∷ 43 ∷ 45 ∷ 61 ∷ 33 ∷ 60 ∷ 62 ∷ []

abbrev pub is_sign : ℕ → Bool
is_sign c = list_any (λ b. c == b) signs

pub sign_passes : (test : ℕ → Bool) (c : ℕ) (bs : List ℕ) → list_all test bs ≡ true → list_any (λ b. c == b) bs ≡ true → test c ≡ true
sign_passes test c [] all any = absurd (cc)
sign_passes test c (b ∷ bs) all any =
    let p = and_parts (test b) (list_all test bs) all in
    ⊎_elim (λ (e : (c == b) ≡ true). subst (λ x. test x ≡ true) (sym (eqb-true c b e)) p.0)
    (λ (e : list_any (λ b. c == b) bs ≡ true). sign_passes test c bs p.1 e) (or_cases (c == b) (list_any (λ b. c == b) bs) any)

is_variable_at : (c : ℕ) → c ≡ 36 → form_of c ≡ form.Variable
is_variable_at c e = subst (λ x. form_of x ≡ form.Variable) (sym e) refl

is_star_at : (c : ℕ) → c ≡ 42 → form_of c ≡ form.Star
is_star_at c e = subst (λ x. form_of x ≡ form.Star) (sym e) refl

is_point_at : (c : ℕ) → c ≡ 46 → form_of c ≡ form.Point
is_point_at c e = subst (λ x. form_of x ≡ form.Point) (sym e) refl

pub is_literal_at : (c : ℕ) → is_quote c ≡ true → form_of c ≡ form.Literal
is_literal_at c h =
    ⊎_elim (λ (e : (c == 39) ≡ true). subst (λ x. form_of x ≡ form.Literal) (sym (eqb-true c 39 e)) refl)
    (λ (e : (c == 34) ≡ true). subst (λ x. form_of x ≡ form.Literal) (sym (eqb-true c 34 e)) refl) (or_cases (c == 39) (c == 34) h)

not_there : (test : ℕ → Bool) (c n : ℕ) → test c ≡ true → test n ≡ false → (c == n) ≡ false
not_there test c n h none = ne_eqb c n (λ e. both_ways (test n) none (subst (λ x. test x ≡ true) e h))

pub is_digit_at : (c : ℕ) → is_ascii_digit c ≡ true → form_of c ≡ form.Digit
is_digit_at c h =
    rw (
      not_there is_ascii_digit c 36 h refl,
      not_there is_ascii_digit c 39 h refl,
      not_there is_ascii_digit c 34 h refl,
      not_there is_ascii_digit c 42 h refl,
      h,
    ) refl

start_is_no_digit : (c : ℕ) → is_name_start c ≡ true → is_ascii_digit c ≡ true → ⊥
unfolding is_name_start
start_is_no_digit c h d = grind (arith, nat_tests)

no_start_36 : is_name_start 36 ≡ false
unfolding is_name_start
no_start_36 = refl

no_start_39 : is_name_start 39 ≡ false
unfolding is_name_start
no_start_39 = refl

no_start_34 : is_name_start 34 ≡ false
unfolding is_name_start
no_start_34 = refl

pub no_start_42 : is_name_start 42 ≡ false
unfolding is_name_start
no_start_42 = refl

no_start_46 : is_name_start 46 ≡ false
unfolding is_name_start
no_start_46 = refl

pub is_name_at : (c : ℕ) → is_name_start c ≡ true → form_of c ≡ form.Name
is_name_at c h =
    rw (
      not_there is_name_start c 36 h no_start_36,
      not_there is_name_start c 39 h no_start_39,
      not_there is_name_start c 34 h no_start_34,
      not_there is_name_start c 42 h no_start_42,
      false_from_ne_true (is_ascii_digit c) (start_is_no_digit c h),
      not_there is_name_start c 46 h no_start_46,
      h,
    ) refl

abbrev pub is_symbol_form : Form → Bool
is_symbol_form form.Point = true
is_symbol_form form.Symbol = true
is_symbol_form _ = false

pub signs_tell : list_all (λ c. is_symbol_form (form_of c)) signs ≡ true
unfolding is_name_start
signs_tell = refl

symbol_form_fits : (f : Form) (t : Token) → is_symbol_form f ≡ true → fits f (lexeme.Symbol t) ≡ true
symbol_form_fits form.Variable t h = absurd (cc)
symbol_form_fits form.Literal t h = absurd (cc)
symbol_form_fits form.Star t h = absurd (cc)
symbol_form_fits form.Digit t h = absurd (cc)
symbol_form_fits form.Point t h = refl
symbol_form_fits form.Name t h = absurd (cc)
symbol_form_fits form.Symbol t h = refl

along : (f g : Form) (m : Lexeme) → f ≡ g → fits g m ≡ true → fits f m ≡ true
along f g m e h = subst (λ x. fits x m ≡ true) (sym e) h

-- an ASCII character in front is the first one
first_is : (d b : ℕ) (behind more : List ℕ) → encode_utf8 d ++ behind ≡ b ∷ more → b < 128 → d ≡ b
first_is d b behind more e low = (encode_same d b behind more (e ∙ ap (λ l. l ++ more) (sym (encode_ascii b low)))).0

abbrev pub begins_symbol : List ℕ → Bool
begins_symbol [] = false
begins_symbol (b ∷ bs) = is_sign b

pub sign_is_low : (b : ℕ) → is_sign b ≡ true → b < 128
sign_is_low b h = ltb-true b 128 (sign_passes (λ c. nat_lt c 128) b signs refl h)

symbol_fits : (d : ℕ) (behind more after : List ℕ) (t : Token) → begins_symbol more ≡ true → encode_utf8 d ++ behind ≡ more ++ after →
    fits (form_of d) (lexeme.Symbol t) ≡ true
symbol_fits d behind [] after t h e = absurd (cc)
symbol_fits d behind (b ∷ more) after t h e =
    symbol_form_fits (form_of d) t
    (subst (λ x. is_symbol_form (form_of x) ≡ true) (sym (first_is d b behind (more ++ after) e (sign_is_low b h)))
    (sign_passes (λ c. is_symbol_form (form_of c)) b signs signs_tell h))

digits_fit : (d : ℕ) (behind digits after digits2 : List ℕ) → are_digits digits ≡ true → encode_utf8 d ++ behind ≡ digits ++ after →
    fits (form_of d) (lexeme.Number digits2) ≡ true
digits_fit d behind [] after digits2 are e = absurd (cc)
digits_fit d behind (b ∷ digits) after digits2 are e =
    let p = and_parts _ _ are in
    let same = first_is d b behind (digits ++ after) e (digit_is_low b p.0) in
    along (form_of d) form.Digit (lexeme.Number digits2) (is_digit_at d (subst (λ x. is_ascii_digit x ≡ true) (sym same) p.0)) refl

number_fits : (d : ℕ) (behind after more : List ℕ) → IsNumber more → encode_utf8 d ++ behind ≡ more ++ after →
    fits (form_of d) (lexeme.Number more) ≡ true
number_fits d behind after more (whole_number _ are) e = digits_fit d behind more after more are e
number_fits d behind after more (ending_point _ ds joined are) e =
    digits_fit d behind ds (46 ∷ after) more are (e ∙ ap (λ l. l ++ after) joined ∙ append_assoc ds (46 ∷ []) after)
number_fits d behind after more (inner_point _ ds f joined are are2) e =
    digits_fit d behind ds (46 ∷ (f ++ after)) more are (e ∙ ap (λ l. l ++ after) joined ∙ append_assoc ds (46 ∷ f) after)
number_fits d behind after more (leading_point f are) e =
    along (form_of d) form.Point (lexeme.Number (46 ∷ f)) (is_point_at d (first_is d 46 behind (f ++ after) e (lit< tt))) refl

name_fits : (d : ℕ) (behind name after : List ℕ) → IsNcname name → encode_utf8 d ++ behind ≡ name ++ after → form_of d ≡ form.Name
name_fits d behind name after n e =
    let p = name_parts name n in
    let same = encode_same d p.first behind (encode_utf8_all p.others ++ after)
    (e ∙ ap (λ l. l ++ after) (sym p.spelled) ∙ append_assoc (encode_utf8 p.first) (encode_utf8_all p.others) after) in
    is_name_at d (subst (λ x. is_name_start x ≡ true) (sym same.0) p.start)

-- the form of each lexeme in front is the one that the first character tells
pub form_fits : (d : ℕ) (behind after more : List ℕ) (m : Lexeme) → IsLexeme more m → encode_utf8 d ++ behind ≡ more ++ after →
    fits (form_of d) m ≡ true
form_fits d behind after more m (symbol_lexeme _ t known) e =
    symbol_fits d behind more after t (in_table begins_symbol symbols more t refl known) e
form_fits d behind after more m star_lexeme e =
    along (form_of d) form.Star lexeme.Star (is_star_at d (first_is d 42 behind after e (lit< tt))) refl
form_fits d behind after more m (literal_lexeme _ value q quoted none is) e =
    let same = first_is d q behind ((value ++ q ∷ []) ++ after) (e ∙ ap (λ l. l ++ after) is) (quote_is_low q quoted) in
    along (form_of d) form.Literal (lexeme.Literal value) (is_literal_at d (subst (λ x. is_quote x ≡ true) (sym same) quoted)) refl
form_fits d behind after more m (number_lexeme _ is) e = number_fits d behind after more is e
form_fits d behind after more m (variable_lexeme name is) e =
    along (form_of d) form.Variable (lexeme.Variable name) (is_variable_at d (first_is d 36 behind (name ++ after) e (lit< tt))) refl
form_fits d behind after more m (prefixed_variable_lexeme name is) e =
    along (form_of d) form.Variable (lexeme.Variable name) (is_variable_at d (first_is d 36 behind (name ++ after) e (lit< tt))) refl
form_fits d behind after more m (name_lexeme _ is) e =
    along (form_of d) form.Name (lexeme.Name more) (name_fits d behind more after is e) refl
form_fits d behind after more m (prefixed_name_lexeme _ is) e =
    along (form_of d) form.Name (lexeme.PrefixedName more)
    (name_fits d behind is.prefix (58 ∷ (is.local ++ after)) is.prefix_name
    (e ∙ ap (λ l. l ++ after) is.joined ∙ append_assoc is.prefix (58 ∷ is.local) after)) refl
form_fits d behind after more m (prefix_star_lexeme _ prefix joined is) e =
    along (form_of d) form.Name (lexeme.PrefixStar prefix)
    (name_fits d behind prefix (58 ∷ 42 ∷ after) is (e ∙ ap (λ l. l ++ after) joined ∙ append_assoc prefix (58 ∷ 42 ∷ []) after)) refl

-- what was found of the form that the first character tells
pub found : (d : ℕ) (text behind : List ℕ) (f : Form) (r : Option Scanned) → text ≡ encode_utf8 d ++ behind → f ≡ form_of d →
    MatchOption r (NoneOf (fits f) text) (λ s. LongestOf (fits f) text s.rest.now s.lexeme) →
    MatchOption r (NoLexeme text) (λ s. LongestAt text s.rest.now s.lexeme)
found d text behind f None split e none = λ more after m front is.
    none more after m (along f (form_of d) m e (form_fits d behind after more m is (sym split ∙ front))) front is
found d text behind f (Some s) split e some = record {
  bytes = some.bytes;
  longest = record {
    at_front = some.at_front;
    is = some.is;
    longest = λ more after m front is.
        some.longest more after m (along f (form_of d) m e (form_fits d behind after more m is (sym split ∙ front))) front is;
  };
}

ascii_text : (d b : ℕ) (text behind : List ℕ) → text ≡ encode_utf8 d ++ behind → d ≡ b → b < 128 → b ∷ behind ≡ text
ascii_text d b text behind split e low =
    ap (λ l. l ++ behind) (sym (encode_ascii b low)) ∙ ap (λ x. encode_utf8 x ++ behind) (sym e) ∙ sym split

-- the same for a form whose text was given by its first character
pub found_behind : (d b : ℕ) (text behind : List ℕ) (f : Form) (r : Option Scanned) → text ≡ encode_utf8 d ++ behind → d ≡ b → b < 128 → f ≡ form_of d →
    MatchOption r (NoneOf (fits f) (b ∷ behind)) (λ s. LongestOf (fits f) (b ∷ behind) s.rest.now s.lexeme) →
    MatchOption r (NoLexeme text) (λ s. LongestAt text s.rest.now s.lexeme)
found_behind d b text behind f r split is low e got =
    found d text behind f r split e
    (subst (λ t. MatchOption r (NoneOf (fits f) t) (λ s. LongestOf (fits f) t s.rest.now s.lexeme)) (ascii_text d b text behind split is low) got)

pub first_of_variable : (d : ℕ) → form.Variable ≡ form_of d → d ≡ 36
first_of_variable d e = grind (arith, nat_tests)

pub first_of_star : (d : ℕ) → form.Star ≡ form_of d → d ≡ 42
first_of_star d e = grind (arith, nat_tests)

pub first_of_literal : (d : ℕ) → form.Literal ≡ form_of d → is_quote d ≡ true
first_of_literal d e = grind (arith, nat_tests)

pub longest_star : (behind : List ℕ) → LongestOf is_star (42 ∷ behind) behind lexeme.Star
longest_star behind = record {
  bytes = 42 ∷ [];
  at_front = refl;
  is = star_lexeme;
  longest = λ more after m fit e is. stars (λ bs _. length bs ≤ 1) (omega arith) more m fit is;
}

-- numbers and symbols together
symbol_or_number : (m : Lexeme) → is_pointed m ≡ true → (is_symbol m ≡ true) ⊎ (is_number m ≡ true)
symbol_or_number (lexeme.Symbol t) h = inl refl
symbol_or_number lexeme.Star h = absurd (cc)
symbol_or_number (lexeme.Literal value) h = absurd (cc)
symbol_or_number (lexeme.Number digits) h = inr refl
symbol_or_number (lexeme.Variable name) h = absurd (cc)
symbol_or_number (lexeme.Name name) h = absurd (cc)
symbol_or_number (lexeme.PrefixedName name) h = absurd (cc)
symbol_or_number (lexeme.PrefixStar prefix) h = absurd (cc)

with_no_number : (text : List ℕ) (r : Option Scanned) → NoneOf is_number text →
    MatchOption r (NoneOf is_symbol text) (λ s. LongestOf is_symbol text s.rest.now s.lexeme) →
    MatchOption r (NoneOf is_pointed text) (λ s. LongestOf is_pointed text s.rest.now s.lexeme)
with_no_number text None none got = λ more after m fit e is.
    ⊎_elim (λ (h : is_symbol m ≡ true). got more after m h e is) (λ (h : is_number m ≡ true). none more after m h e is) (symbol_or_number m fit)
with_no_number text (Some s) none got = record {
  bytes = got.bytes;
  at_front = got.at_front;
  is = got.is;
  longest = λ more after m fit e is.
      ⊎_elim (λ (h : is_symbol m ≡ true). got.longest more after m h e is)
      (λ (h : is_number m ≡ true). absurd (none more after m h e is)) (symbol_or_number m fit);
}

pub point_alone : (text behind : List ℕ) (r : Option Scanned) → text ≡ 46 ∷ behind → NoneOf is_number text →
    MatchOption r (NoneOf is_symbol (encode_utf8 46 ++ behind)) (λ s. LongestOf is_symbol (encode_utf8 46 ++ behind) s.rest.now s.lexeme) →
    MatchOption r (NoneOf is_pointed text) (λ s. LongestOf is_pointed text s.rest.now s.lexeme)
point_alone text behind r split none got =
    with_no_number text r none
    (subst (λ t. MatchOption r (NoneOf is_symbol t) (λ s. LongestOf is_symbol t s.rest.now s.lexeme))
    (ap (λ l. l ++ behind) (encode_ascii 46 (lit< tt)) ∙ sym split) got)
