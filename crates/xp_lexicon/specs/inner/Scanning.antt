-- How the longest lexeme at the front of a text is found.
use Rattle.std.specs.Prelude.{◌≡◌, ◌≤◌, ℕ, Bool, true, false, ◌==◌, if◌then◌else◌, List, ◌∷◌, ◌++◌, length, encode_utf8, encode_utf8_all}
use Rattle.std.specs.Char.{is_ascii_digit}
use Rattle.std.specs.List.{list_all}
use Rattle.std.specs.Str.{all_scalars}
use Rattle.sch_base.specs.Characters.{is_name_start, is_name_char, is_whitespace}
use Rattle.xp_grammar.specs.declared.token.Token.{Token}
use Rattle.xp_lexicon.specs.declared.lexeme.Lexeme.{Lexeme}
use Rattle.xp_lexicon.specs.declared.lexeme.Lexeme.TheVariants as lexeme
use Rattle.xp_lexicon.specs.declared.lexeme.Form.{Form}
use Rattle.xp_lexicon.specs.declared.lexeme.Form.TheVariants as form
use Rattle.xp_lexicon.specs.declared.run.Class.{Class}
use Rattle.xp_lexicon.specs.declared.run.Class.TheVariants as class
use Rattle.xp_lexicon.specs.Lexicon.{IsNcname, is_quote, IsLexeme, IsLongest, IsRead}

-- whether a character is of a class
abbrev pub holds : Class → ℕ → Bool
holds class.Digit c = is_ascii_digit c
holds class.NameChar c = is_name_char c
holds class.Whitespace c = is_whitespace c

-- no character that passes a test stands in front
abbrev pub Stops : (ℕ → Bool) → List ℕ → Type 0
Stops test text = (c : ℕ) (after : List ℕ) → text ≡ encode_utf8 c ++ after → test c ≡ false

-- the characters in front that pass a test were taken
pub record Ran (test : ℕ → Bool) (text rest : List ℕ) : Type 0 where
  pub run : List ℕ
  pub split : text ≡ encode_utf8_all run ++ rest
  pub scalars : all_scalars run ≡ true
  pub pass : list_all test run ≡ true
  pub stops : Stops test rest

-- a character that passes a test stands in front
pub record StartsWith (test : ℕ → Bool) (text : List ℕ) : Type 0 where
  pub first : ℕ
  pub behind : List ℕ
  pub split : text ≡ encode_utf8 first ++ behind
  pub pass : test first ≡ true

-- a name stands in front, and what is after it goes on with no character of a name
pub record IsHead (text name rest : List ℕ) : Type 0 where
  pub split : text ≡ name ++ rest
  pub is : IsNcname name
  pub stops : Stops is_name_char rest

pub record NameAt (text rest : List ℕ) : Type 0 where
  pub name : List ℕ
  pub head : IsHead text name rest

pub record LocalAt (text rest : List ℕ) : Type 0 where
  pub behind : List ℕ
  pub colon : text ≡ 58 ∷ behind
  pub name : NameAt behind rest

abbrev pub NoName : List ℕ → Type 0
NoName text = (name after : List ℕ) → text ≡ name ++ after → IsNcname name → ⊥

abbrev pub NoLocal : List ℕ → Type 0
NoLocal text = (behind : List ℕ) → text ≡ 58 ∷ behind → NoName behind

abbrev pub NoStar : List ℕ → Type 0
NoStar text = (rest : List ℕ) → text ≡ 58 ∷ 42 ∷ rest → ⊥

-- a second name with a colon before it was taken, if there is one
pub data EndsQname : List ℕ → List ℕ → Type 0 where
  with_local : (middle rest : List ℕ) → LocalAt middle rest → EndsQname middle rest
  without_local : (middle : List ℕ) → NoLocal middle → EndsQname middle middle

pub record QnameAt (text rest : List ℕ) : Type 0 where
  pub middle : List ℕ
  pub first : NameAt text middle
  pub second : EndsQname middle rest

-- digits stand in front, perhaps none, and a point with digits, perhaps none
pub data EndsNumber : List ℕ → List ℕ → Type 0 where
  with_point : (middle behind rest : List ℕ) → middle ≡ 46 ∷ behind → Ran is_ascii_digit behind rest → EndsNumber middle rest
  without_point : (middle : List ℕ) → ((behind : List ℕ) → middle ≡ 46 ∷ behind → ⊥) → EndsNumber middle middle

pub record NumberAt (text rest : List ℕ) : Type 0 where
  pub middle : List ℕ
  pub digits : Ran is_ascii_digit text middle
  pub second : EndsNumber middle rest

-- forms of lexemes
abbrev pub is_symbol : Lexeme → Bool
is_symbol (lexeme.Symbol t) = true
is_symbol _ = false

abbrev pub is_star : Lexeme → Bool
is_star lexeme.Star = true
is_star _ = false

abbrev pub is_literal : Lexeme → Bool
is_literal (lexeme.Literal value) = true
is_literal _ = false

abbrev pub is_number : Lexeme → Bool
is_number (lexeme.Number digits) = true
is_number _ = false

abbrev pub is_pointed : Lexeme → Bool
is_pointed (lexeme.Symbol t) = true
is_pointed (lexeme.Number digits) = true
is_pointed _ = false

abbrev pub is_variable : Lexeme → Bool
is_variable (lexeme.Variable name) = true
is_variable _ = false

abbrev pub is_name : Lexeme → Bool
is_name (lexeme.Name name) = true
is_name (lexeme.PrefixedName name) = true
is_name (lexeme.PrefixStar prefix) = true
is_name _ = false

-- what a lexeme's first character tells of its form
abbrev pub form_of : ℕ → Form
form_of c =
    if c == 36 then form.Variable
    else (if is_quote c then form.Literal
    else (if c == 42 then form.Star
    else (if is_ascii_digit c then form.Digit
    else (if c == 46 then form.Point
    else (if is_name_start c then form.Name
    else form.Symbol)))))

abbrev pub fits : Form → Lexeme → Bool
fits form.Variable m = is_variable m
fits form.Literal m = is_literal m
fits form.Star m = is_star m
fits form.Digit m = is_number m
fits form.Point m = is_pointed m
fits form.Name m = is_name m
fits form.Symbol m = is_symbol m

-- the longest lexeme of a form at the front of a text
pub record LongestOf (form : Lexeme → Bool) (text rest : List ℕ) (l : Lexeme) : Type 0 where
  pub bytes : List ℕ
  pub at_front : text ≡ bytes ++ rest
  pub is : IsLexeme bytes l
  pub longest : (more after : List ℕ) (m : Lexeme) → form m ≡ true → text ≡ more ++ after → IsLexeme more m →
      length more ≤ length bytes

abbrev pub NoneOf : (Lexeme → Bool) → List ℕ → Type 0
NoneOf form text = (more after : List ℕ) (m : Lexeme) → form m ≡ true → text ≡ more ++ after → IsLexeme more m → ⊥

pub record LongestAt (text rest : List ℕ) (l : Lexeme) : Type 0 where
  pub bytes : List ℕ
  pub longest : IsLongest text bytes rest l

abbrev pub NoLexeme : List ℕ → Type 0
NoLexeme text = (more after : List ℕ) (m : Lexeme) → text ≡ more ++ after → IsLexeme more m → ⊥

pub record ReadAt (behind_operand : Bool) (text rest : List ℕ) (t : Token) : Type 0 where
  pub bytes : List ℕ
  pub read : IsRead behind_operand text bytes rest t

abbrev pub NoToken : Bool → List ℕ → Type 0
NoToken behind_operand text = (bytes rest : List ℕ) (t : Token) → IsRead behind_operand text bytes rest t → ⊥
