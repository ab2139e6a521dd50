-- The forms of lexemes.
use Rattle.std.proofs.Common.{◌≡◌, ℕ, true, false, List, [], ◌∷◌, ◌++◌, Some}
use Rattle.std.specs.Prelude.{codes, ◌==◌}
use Rattle.std.specs.List.{list_any}
use Rattle.xp_grammar.specs.declared.token.Token.{Token}
use Rattle.xp_lexicon.specs.declared.lexeme.Lexeme.{Lexeme}
use Rattle.xp_lexicon.specs.declared.lexeme.Lexeme.TheVariants as lexeme
use Rattle.xp_lexicon.specs.Lexicon.{symbols, is_quote, IsNumber, IsNcname, IsPrefixed, IsLexeme, symbol_lexeme, star_lexeme, literal_lexeme, number_lexeme, variable_lexeme, prefixed_variable_lexeme, name_lexeme, prefixed_name_lexeme, prefix_star_lexeme}
use Rattle.sch_base.specs.Named.{named}
use Rattle.xp_lexicon.specs.inner.Scanning.{is_symbol, is_star, is_literal, is_number, is_pointed, is_variable, is_name}

pub names : (P : List ℕ → Lexeme → Type 0) → ((bytes : List ℕ) → IsNcname bytes → P bytes (lexeme.Name bytes)) → ((bytes : List ℕ) → IsPrefixed bytes → P bytes (lexeme.PrefixedName bytes)) →
    ((bytes prefix : List ℕ) → bytes ≡ prefix ++ codes ":*" → IsNcname prefix → P bytes (lexeme.PrefixStar prefix)) →
    (bytes : List ℕ) (m : Lexeme) → is_name m ≡ true → IsLexeme bytes m → P bytes m
names P one two star bytes m form (symbol_lexeme _ t is) = absurd (cc)
names P one two star bytes m form star_lexeme = absurd (cc)
names P one two star bytes m form (literal_lexeme _ value quote quoted inside is) = absurd (cc)
names P one two star bytes m form (number_lexeme _ is) = absurd (cc)
names P one two star bytes m form (variable_lexeme name is) = absurd (cc)
names P one two star bytes m form (prefixed_variable_lexeme name is) = absurd (cc)
names P one two star bytes m form (name_lexeme _ is) = one bytes is
names P one two star bytes m form (prefixed_name_lexeme _ is) = two bytes is
names P one two star bytes m form (prefix_star_lexeme _ prefix joined is) = star bytes prefix joined is

pub variables : (P : List ℕ → Lexeme → Type 0) → ((name : List ℕ) → IsNcname name → P (36 ∷ name) (lexeme.Variable name)) → ((name : List ℕ) → IsPrefixed name → P (36 ∷ name) (lexeme.Variable name)) →
    (bytes : List ℕ) (m : Lexeme) → is_variable m ≡ true → IsLexeme bytes m → P bytes m
variables P one two bytes m form (symbol_lexeme _ t is) = absurd (cc)
variables P one two bytes m form star_lexeme = absurd (cc)
variables P one two bytes m form (literal_lexeme _ value quote quoted inside is) = absurd (cc)
variables P one two bytes m form (number_lexeme _ is) = absurd (cc)
variables P one two bytes m form (variable_lexeme name is) = one name is
variables P one two bytes m form (prefixed_variable_lexeme name is) = two name is
variables P one two bytes m form (name_lexeme _ is) = absurd (cc)
variables P one two bytes m form (prefixed_name_lexeme _ is) = absurd (cc)
variables P one two bytes m form (prefix_star_lexeme _ prefix joined is) = absurd (cc)

pub numbers : (P : List ℕ → Lexeme → Type 0) → ((bytes : List ℕ) → IsNumber bytes → P bytes (lexeme.Number bytes)) →
    (bytes : List ℕ) (m : Lexeme) → is_number m ≡ true → IsLexeme bytes m → P bytes m
numbers P one bytes m form (symbol_lexeme _ t is) = absurd (cc)
numbers P one bytes m form star_lexeme = absurd (cc)
numbers P one bytes m form (literal_lexeme _ value quote quoted inside is) = absurd (cc)
numbers P one bytes m form (number_lexeme _ is) = one bytes is
numbers P one bytes m form (variable_lexeme name is) = absurd (cc)
numbers P one bytes m form (prefixed_variable_lexeme name is) = absurd (cc)
numbers P one bytes m form (name_lexeme _ is) = absurd (cc)
numbers P one bytes m form (prefixed_name_lexeme _ is) = absurd (cc)
numbers P one bytes m form (prefix_star_lexeme _ prefix joined is) = absurd (cc)

pub symbolic : (P : List ℕ → Lexeme → Type 0) → ((bytes : List ℕ) (t : Token) → named symbols bytes ≡ Some t → P bytes (lexeme.Symbol t)) →
    (bytes : List ℕ) (m : Lexeme) → is_symbol m ≡ true → IsLexeme bytes m → P bytes m
symbolic P one bytes m form (symbol_lexeme _ t is) = one bytes t is
symbolic P one bytes m form star_lexeme = absurd (cc)
symbolic P one bytes m form (literal_lexeme _ value quote quoted inside is) = absurd (cc)
symbolic P one bytes m form (number_lexeme _ is) = absurd (cc)
symbolic P one bytes m form (variable_lexeme name is) = absurd (cc)
symbolic P one bytes m form (prefixed_variable_lexeme name is) = absurd (cc)
symbolic P one bytes m form (name_lexeme _ is) = absurd (cc)
symbolic P one bytes m form (prefixed_name_lexeme _ is) = absurd (cc)
symbolic P one bytes m form (prefix_star_lexeme _ prefix joined is) = absurd (cc)

pub literals : (P : List ℕ → Lexeme → Type 0) → ((bytes value : List ℕ) (quote : ℕ) → is_quote quote ≡ true → list_any (λ b. b == quote) value ≡ false →
    bytes ≡ quote ∷ (value ++ quote ∷ []) → P bytes (lexeme.Literal value)) →
    (bytes : List ℕ) (m : Lexeme) → is_literal m ≡ true → IsLexeme bytes m → P bytes m
literals P one bytes m form (symbol_lexeme _ t is) = absurd (cc)
literals P one bytes m form star_lexeme = absurd (cc)
literals P one bytes m form (literal_lexeme _ value quote quoted inside is) = one bytes value quote quoted inside is
literals P one bytes m form (number_lexeme _ is) = absurd (cc)
literals P one bytes m form (variable_lexeme name is) = absurd (cc)
literals P one bytes m form (prefixed_variable_lexeme name is) = absurd (cc)
literals P one bytes m form (name_lexeme _ is) = absurd (cc)
literals P one bytes m form (prefixed_name_lexeme _ is) = absurd (cc)
literals P one bytes m form (prefix_star_lexeme _ prefix joined is) = absurd (cc)

pub pointed : (P : List ℕ → Lexeme → Type 0) → ((bytes : List ℕ) (t : Token) → named symbols bytes ≡ Some t → P bytes (lexeme.Symbol t)) →
    ((bytes : List ℕ) → IsNumber bytes → P bytes (lexeme.Number bytes)) → (bytes : List ℕ) (m : Lexeme) → is_pointed m ≡ true → IsLexeme bytes m → P bytes m
pointed P one two bytes m form (symbol_lexeme _ t is) = one bytes t is
pointed P one two bytes m form star_lexeme = absurd (cc)
pointed P one two bytes m form (literal_lexeme _ value quote quoted inside is) = absurd (cc)
pointed P one two bytes m form (number_lexeme _ is) = two bytes is
pointed P one two bytes m form (variable_lexeme name is) = absurd (cc)
pointed P one two bytes m form (prefixed_variable_lexeme name is) = absurd (cc)
pointed P one two bytes m form (name_lexeme _ is) = absurd (cc)
pointed P one two bytes m form (prefixed_name_lexeme _ is) = absurd (cc)
pointed P one two bytes m form (prefix_star_lexeme _ prefix joined is) = absurd (cc)

pub stars : (P : List ℕ → Lexeme → Type 0) → P (codes "*") lexeme.Star → (bytes : List ℕ) (m : Lexeme) → is_star m ≡ true → IsLexeme bytes m → P bytes m
stars P one bytes m form (symbol_lexeme _ t is) = absurd (cc)
stars P one bytes m form star_lexeme = one
stars P one bytes m form (literal_lexeme _ value quote quoted inside is) = absurd (cc)
stars P one bytes m form (number_lexeme _ is) = absurd (cc)
stars P one bytes m form (variable_lexeme name is) = absurd (cc)
stars P one bytes m form (prefixed_variable_lexeme name is) = absurd (cc)
stars P one bytes m form (name_lexeme _ is) = absurd (cc)
stars P one bytes m form (prefixed_name_lexeme _ is) = absurd (cc)
stars P one bytes m form (prefix_star_lexeme _ prefix joined is) = absurd (cc)
