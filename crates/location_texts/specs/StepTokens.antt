-- The tokens of the steps of locations (XPath 1.0, section 3.7).
use Rattle.std.specs.Prelude.{ℕ, List, [], ◌∷◌, ◌++◌, codes}
use Rattle.std.specs.List.{flat_map}
use Rattle.std.specs.Fmt.{decimal}
use Rattle.xp_tree.specs.declared.terms.Operator.TheVariants as operators
use Rattle.xp_grammar.specs.declared.token.NodeType.{NodeType}
use Rattle.xp_grammar.specs.declared.token.NodeType.TheVariants as node_type
use Rattle.xp_grammar.specs.declared.token.Token.{Token}
use Rattle.xp_grammar.specs.declared.token.Token.TheVariants as token
use Rattle.location_texts.specs.LocationSteps.{KidKind, elements, texts, comments, instructions, LocationStep, to_kid, to_attribute}

-- a node type as a node test
abbrev pub type_tokens : NodeType → List Token
type_tokens t = token.NodeType t ∷ token.OpenParen ∷ token.CloseParen ∷ []

-- the node test of a kind
abbrev pub kind_tokens : KidKind → List Token
kind_tokens elements = token.Star ∷ []
kind_tokens texts = type_tokens node_type.Chars
kind_tokens comments = type_tokens node_type.Comment
kind_tokens instructions = type_tokens node_type.Pi

-- the predicate that is a number
abbrev pub place_tokens : ℕ → List Token
place_tokens place = token.OpenBracket ∷ token.Number (decimal place) ∷ token.CloseBracket ∷ []

-- a function of the context node, and the text that it equals
abbrev pub equation_tokens : List ℕ → List ℕ → List Token
equation_tokens function value =
    token.Function function ∷ token.OpenParen ∷ token.CloseParen ∷ token.Operator operators.Equal ∷ token.Literal value ∷ []

-- both parts of an expanded name
abbrev pub name_tokens : List ℕ → List ℕ → List Token
name_tokens local uri =
    equation_tokens (codes "local-name") local ++ (token.Operator operators.And ∷ equation_tokens (codes "namespace-uri") uri)

-- an attribute by its name alone, where it has no namespace
abbrev pub attribute_tokens : List ℕ → List ℕ → List Token
attribute_tokens local [] = token.At ∷ token.Name local ∷ []
attribute_tokens local (b ∷ uri) =
    token.At ∷ token.Star ∷ token.OpenBracket ∷ (name_tokens local (b ∷ uri) ++ (token.CloseBracket ∷ []))

-- a step without the slash before it
abbrev pub tokens_behind : LocationStep → List Token
tokens_behind (to_kid kind place) = kind_tokens kind ++ place_tokens place
tokens_behind (to_attribute local uri) = attribute_tokens local uri

abbrev pub step_tokens : LocationStep → List Token
step_tokens s = token.Slash ∷ tokens_behind s

abbrev pub steps_tokens : List LocationStep → List Token
steps_tokens steps = flat_map step_tokens steps
