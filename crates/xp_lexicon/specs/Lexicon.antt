-- The tokens of expressions: XPath 1.0, section 3.7. At each place the longest lexeme is taken, and the token before it
-- tells what it is.
use Rattle.std.specs.Prelude.{◌≡◌, ◌≤◌, ◌+◌, ℕ, suc, Bool, true, false, ◌&&◌, ◌||◌, ◌==◌, if◌then◌else◌, List, [], ◌∷◌, ◌++◌, length, Option, None, Some, IsUtf8, codes, nat_eq}
use Rattle.std.specs.Char.{is_ascii_digit}
use Rattle.std.specs.List.{list_any, starts_with}
use Rattle.std.specs.Option.{option_map}
use Rattle.std.specs.Str.{all_ascii_digits}
use Rattle.sch_base.specs.Characters.{is_whitespace}
use Rattle.sch_base.specs.Names.{is_ncname}
use Rattle.xp_tree.specs.declared.terms.Operator.TheVariants as operator
use Rattle.xp_tree.specs.AxisNames.{axis_names}
use Rattle.sch_base.specs.Named.{named}
use Rattle.xp_grammar.specs.declared.token.NodeType.{NodeType}
use Rattle.xp_grammar.specs.declared.token.NodeType.TheVariants as node_type
use Rattle.xp_grammar.specs.declared.token.Placed.{Placed}
use Rattle.xp_grammar.specs.declared.token.Token.{Token}
use Rattle.xp_grammar.specs.declared.token.Token.TheVariants as token
use Rattle.xp_lexicon.specs.declared.lexeme.Lexeme.{Lexeme}
use Rattle.xp_lexicon.specs.declared.lexeme.Lexeme.TheVariants as lexeme

-- the symbols that are the same token at each place
abbrev pub symbols : List (List ℕ × Token)
symbols = (codes "(", token.OpenParen)
    ∷ (codes ")", token.CloseParen)
    ∷ (codes "[", token.OpenBracket)
    ∷ (codes "]", token.CloseBracket)
    ∷ (codes ".", token.Dot)
    ∷ (codes "..", token.DoubleDot)
    ∷ (codes "@", token.At)
    ∷ (codes ",", token.Comma)
    ∷ (codes "::", token.DoubleColon)
    ∷ (codes "/", token.Slash)
    ∷ (codes "//", token.DoubleSlash)
    ∷ (codes "|", token.Operator operator.Union)
    ∷ (codes "+", token.Operator operator.Plus)
    ∷ (codes "-", token.Operator operator.Minus)
    ∷ (codes "=", token.Operator operator.Equal)
    ∷ (codes "!=", token.Operator operator.NotEqual)
    ∷ (codes "<", token.Operator operator.Less)
    ∷ (codes "<=", token.Operator operator.AtMost)
    ∷ (codes ">", token.Operator operator.Greater)
    ∷ (codes ">=", token.Operator operator.AtLeast)
    ∷ []

-- the names that are operators after an operand
abbrev pub operator_names : List (List ℕ × Token)
operator_names = (codes "and", token.Operator operator.And)
    ∷ (codes "or", token.Operator operator.Or)
    ∷ (codes "mod", token.Operator operator.Mod)
    ∷ (codes "div", token.Operator operator.Div)
    ∷ []

-- NodeType: section 2.3
abbrev pub node_types : List (List ℕ × NodeType)
node_types = (codes "comment", node_type.Comment)
    ∷ (codes "text", node_type.Chars)
    ∷ (codes "processing-instruction", node_type.Pi)
    ∷ (codes "node", node_type.Node)
    ∷ []

-- Digits
abbrev pub are_digits : List ℕ → Bool
are_digits [] = false
are_digits (c ∷ cs) = is_ascii_digit c && all_ascii_digits cs

-- Number: Digits ("." Digits?)? | "." Digits
pub data IsNumber : List ℕ → Type 0 where
  whole_number : (digits : List ℕ) → are_digits digits ≡ true → IsNumber digits
  ending_point : (bytes digits : List ℕ) → bytes ≡ digits ++ codes "." → are_digits digits ≡ true → IsNumber bytes
  inner_point : (bytes digits fraction : List ℕ) → bytes ≡ digits ++ 46 ∷ fraction →
      are_digits digits ≡ true → are_digits fraction ≡ true → IsNumber bytes
  leading_point : (fraction : List ℕ) → are_digits fraction ≡ true → IsNumber (46 ∷ fraction)

-- NCName: Namespaces in XML 1.0, section 3
pub record IsNcname (bytes : List ℕ) : Type 0 where
  pub utf8 : IsUtf8 bytes
  pub name : is_ncname bytes ≡ true

-- Prefix ":" LocalPart: Namespaces in XML 1.0, section 4
pub record IsPrefixed (bytes : List ℕ) : Type 0 where
  pub prefix : List ℕ
  pub local : List ℕ
  pub joined : bytes ≡ prefix ++ 58 ∷ local
  pub prefix_name : IsNcname prefix
  pub local_name : IsNcname local

-- `'` or `"`
abbrev pub is_quote : ℕ → Bool
is_quote b = b == 39 || b == 34

-- the bytes are a lexeme
pub data IsLexeme : List ℕ → Lexeme → Type 0 where
  symbol_lexeme : (bytes : List ℕ) (t : Token) → named symbols bytes ≡ Some t → IsLexeme bytes (lexeme.Symbol t)
  star_lexeme : IsLexeme (codes "*") lexeme.Star
  literal_lexeme : (bytes value : List ℕ) (quote : ℕ) → is_quote quote ≡ true → list_any (λ b. b == quote) value ≡ false →
      bytes ≡ quote ∷ (value ++ quote ∷ []) → IsLexeme bytes (lexeme.Literal value)
  number_lexeme : (bytes : List ℕ) → IsNumber bytes → IsLexeme bytes (lexeme.Number bytes)
  variable_lexeme : (name : List ℕ) → IsNcname name → IsLexeme (36 ∷ name) (lexeme.Variable name)
  prefixed_variable_lexeme : (name : List ℕ) → IsPrefixed name → IsLexeme (36 ∷ name) (lexeme.Variable name)
  name_lexeme : (bytes : List ℕ) → IsNcname bytes → IsLexeme bytes (lexeme.Name bytes)
  prefixed_name_lexeme : (bytes : List ℕ) → IsPrefixed bytes → IsLexeme bytes (lexeme.PrefixedName bytes)
  prefix_star_lexeme : (bytes prefix : List ℕ) → bytes ≡ prefix ++ codes ":*" → IsNcname prefix →
      IsLexeme bytes (lexeme.PrefixStar prefix)

-- the longest lexeme at the front of a text, and what follows it
pub record IsLongest (text bytes rest : List ℕ) (l : Lexeme) : Type 0 where
  pub at_front : text ≡ bytes ++ rest
  pub is : IsLexeme bytes l
  pub longest : (more after : List ℕ) (m : Lexeme) → text ≡ more ++ after → IsLexeme more m → length more ≤ length bytes

-- a text without the whitespace at its front
abbrev pub trimmed : List ℕ → List ℕ
trimmed [] = []
trimmed (b ∷ text) = if is_whitespace b then trimmed text else b ∷ text

-- whether a text goes on with these characters, possibly after whitespace
abbrev pub goes_on : List ℕ → List ℕ → Bool
goes_on mark text = starts_with nat_eq (trimmed text) mark

-- a name before `(`: a node type or a function
abbrev pub called : List ℕ → Option NodeType → Token
called name None = token.Function name
called name (Some t) = token.NodeType t

-- a name where no operand stands before it, with what follows it
abbrev pub name_token : List ℕ → List ℕ → Option Token
name_token name rest =
    if goes_on (codes "(") rest then Some (called name (named node_types name))
    else (if goes_on (codes "::") rest then option_map token.Axis (named axis_names name)
    else Some (token.Name name))

-- a prefix with a star where no operand stands before it, with what follows it: before `::` it is no axis
abbrev pub starred_token : List ℕ → List ℕ → Option Token
starred_token prefix rest = if goes_on (codes "::") rest then None else Some (token.PrefixStar prefix)

-- the token that a lexeme is, after an operand or not, with what follows it; None where no token can be read
abbrev pub token_of : Bool → Lexeme → List ℕ → Option Token
token_of behind_operand (lexeme.Symbol t) rest = Some t
token_of true lexeme.Star rest = Some (token.Operator operator.Times)
token_of false lexeme.Star rest = Some token.Star
token_of behind_operand (lexeme.Literal value) rest = Some (token.Literal value)
token_of behind_operand (lexeme.Number digits) rest = Some (token.Number digits)
token_of behind_operand (lexeme.Variable name) rest = Some (token.Variable name)
token_of true (lexeme.Name name) rest = named operator_names name
token_of false (lexeme.Name name) rest = name_token name rest
token_of true (lexeme.PrefixedName name) rest = Some (token.Name name)
token_of false (lexeme.PrefixedName name) rest = name_token name rest
token_of true (lexeme.PrefixStar prefix) rest = Some (token.PrefixStar prefix)
token_of false (lexeme.PrefixStar prefix) rest = starred_token prefix rest

-- whether an operand may end with the token: it is none of `@`, `::`, `(`, `[`, `,` and the operators
abbrev pub ends_operand : Token → Bool
ends_operand token.OpenParen = false
ends_operand token.OpenBracket = false
ends_operand token.At = false
ends_operand token.Comma = false
ends_operand token.DoubleColon = false
ends_operand token.Slash = false
ends_operand token.DoubleSlash = false
ends_operand (token.Operator o) = false
ends_operand _ = true

-- a token is read from these bytes at the front of a text
pub record IsRead (behind_operand : Bool) (text bytes rest : List ℕ) (t : Token) : Type 0 where
  pub lexeme : Lexeme
  pub longest : IsLongest text bytes rest lexeme
  pub token : token_of behind_operand lexeme rest ≡ Some t

-- the tokens of what is left of a text from an offset on, up to its end or to where no token can be read
pub data TokensFrom : Bool → ℕ → List ℕ → List Placed → Bool → ℕ → Type 0 where
  at_end : (behind_operand : Bool) (offset : ℕ) → TokensFrom behind_operand offset [] [] true offset
  whitespace : (behind_operand : Bool) (offset b : ℕ) (text : List ℕ) (tokens : List Placed) (whole : Bool) (end : ℕ) →
      is_whitespace b ≡ true → TokensFrom behind_operand (suc offset) text tokens whole end →
      TokensFrom behind_operand offset (b ∷ text) tokens whole end
  one_token : (behind_operand : Bool) (offset : ℕ) (text bytes rest : List ℕ) (t : Token) (tokens : List Placed) (whole : Bool) (end : ℕ) →
      IsRead behind_operand text bytes rest t → TokensFrom (ends_operand t) (offset + length bytes) rest tokens whole end →
      TokensFrom behind_operand offset text (record { offset = offset; token = t } ∷ tokens) whole end
  bad_token : (behind_operand : Bool) (offset b : ℕ) (text : List ℕ) →
      is_whitespace b ≡ false → ((bytes rest : List ℕ) (t : Token) → IsRead behind_operand (b ∷ text) bytes rest t → ⊥) →
      TokensFrom behind_operand offset (b ∷ text) [] false offset

-- the tokens of a text: all of it, and the end is its length in bytes, or up to the end, where no token can be read
abbrev pub Tokenized : List ℕ → List Placed → Bool → ℕ → Type 0
Tokenized text tokens whole end = TokensFrom false 0 text tokens whole end
