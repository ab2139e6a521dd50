-- Places in a list of tokens.
use Rattle.std.specs.Prelude.{◌≡◌, Bool, true, false, List, [], ◌∷◌, drop}
use Rattle.xp_tree.specs.declared.terms.Level.{Level}
use Rattle.xp_tree.specs.declared.terms.Operator.{Operator}
use Rattle.xp_tree.specs.declared.terms.Operator.TheVariants as operator
use Rattle.xp_grammar.specs.declared.token.Token.TheVariants as token
use Rattle.xp_grammar.specs.Parts.{level_of}
use Rattle.xp_grammar.specs.declared.token.Placed.{Placed}
use Rattle.xp_grammar.specs.declared.token.Token.{Token}
use Rattle.xp_parse.specs.declared.mark.Mark.{Mark}
use Rattle.xp_parse.specs.declared.mark.Mark.TheVariants as mark
use Rattle.xp_parse.specs.declared.parser.Parser.{Parser}
use Rattle.xp_parse.specs.declared.stop.Stop.{Stop}
use Rattle.xp_parse.specs.declared.stop.Stop.TheVariants as stop

-- the tokens that a parser has not taken yet
unfoldable pub rest_of : Parser → List Placed
rest_of p = drop p.at p.tokens.now

-- the token of a mark
abbrev pub token_of : Mark → Token
token_of mark.OpenParen = token.OpenParen
token_of mark.CloseParen = token.CloseParen
token_of mark.OpenBracket = token.OpenBracket
token_of mark.CloseBracket = token.CloseBracket
token_of mark.DoubleColon = token.DoubleColon
token_of mark.Comma = token.Comma
token_of mark.Minus = token.Operator operator.Minus

-- whether the second token is the first one
abbrev pub IsOrNot : Token → Token → Bool → Type 0
IsOrNot t x true = x ≡ t
IsOrNot t x false = x ≡ t → ⊥

-- the token stands first
pub record IsFirst (t : Token) (s : List Placed) : Type 0 where
  pub placed : Placed
  pub rest : List Placed
  pub is : s ≡ placed ∷ rest
  pub token : placed.token ≡ t

-- a token stands first
pub record IsThere (s : List Placed) : Type 0 where
  pub placed : Placed
  pub rest : List Placed
  pub is : s ≡ placed ∷ rest

-- the token stood first and was taken
pub record Took (t : Token) (s u : List Placed) : Type 0 where
  pub placed : Placed
  pub is : s ≡ placed ∷ u
  pub token : placed.token ≡ t

-- the token stood first and was taken, and the part before it was given back
pub record TookBehind {T : Type 0} (part : T) (t : Token) (s u : List Placed) (kept : T) : Type 0 where
  pub took : Took t s u
  pub same : kept ≡ part

-- the token does not stand first
abbrev pub NotAt : Token → List Placed → Type 0
NotAt t s = (p : Placed) (rest : List Placed) → s ≡ p ∷ rest → p.token ≡ t → ⊥

-- the token does not stand first, and nothing was taken
pub record Refused (t : Token) (s u : List Placed) (why : Stop) : Type 0 where
  pub why_is : why ≡ stop.Unexpected
  pub kept : u ≡ s
  pub not_at : NotAt t s

-- whether the token stands first
abbrev pub StandsFirst : Token → List Placed → Bool → Type 0
StandsFirst t s true = IsFirst t s
StandsFirst t s false = NotAt t s

-- an operator of the level stands first
pub record IsOperatorOf (n : Level) (o : Operator) (s : List Placed) : Type 0 where
  pub first : IsFirst (token.Operator o) s
  pub level : level_of o ≡ n

abbrev pub NoOperatorOf : Level → List Placed → Type 0
NoOperatorOf n s =
    (p : Placed) (rest : List Placed) (o : Operator) → s ≡ p ∷ rest → p.token ≡ token.Operator o → level_of o ≡ n → ⊥

-- whether a step may begin with the token
abbrev pub is_step_token : Token → Bool
is_step_token token.Dot = true
is_step_token token.DoubleDot = true
is_step_token token.At = true
is_step_token (token.Axis a) = true
is_step_token token.Star = true
is_step_token (token.PrefixStar prefix) = true
is_step_token (token.Name name) = true
is_step_token (token.NodeType t) = true
is_step_token _ = false

abbrev pub is_at_step : List Placed → Bool
is_at_step [] = false
is_at_step (p ∷ s) = is_step_token p.token

-- whether `/` or `//` stands first
abbrev pub is_slash : Token → Bool
is_slash token.Slash = true
is_slash token.DoubleSlash = true
is_slash _ = false

abbrev pub is_at_slash : List Placed → Bool
is_at_slash [] = false
is_at_slash (p ∷ s) = is_slash p.token

-- no path begins at the place, unless by an expression that is no path
pub record IsNoPath (s : List Placed) : Type 0 where
  pub no_step : is_at_step s ≡ false
  pub no_slash : NotAt token.Slash s
  pub no_double_slash : NotAt token.DoubleSlash s
