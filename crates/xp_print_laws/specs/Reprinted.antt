-- The printed text of an expression is read as the same expression, but for offsets: XPath 1.0, section 3.7.
use Rattle.std.specs.Prelude.{◌≡◌, ℕ, false, true, List, [], ◌∷◌, map}
use Rattle.xp_tree.specs.declared.terms.Operator.{Operator}
use Rattle.xp_tree.specs.Tree.{Tree}
use Rattle.xp_grammar.specs.declared.token.Placed.{Placed}
use Rattle.xp_grammar.specs.declared.token.Token.TheVariants as token
use Rattle.xp_grammar.specs.Grammar.{Derives}
use Rattle.xp_print.specs.Printed.{is_name_like}
use Rattle.xp_print_laws.specs.Offsets.{without_offsets}
use Rattle.xp_print_laws.specs.PrintedTokens.{tokens_printed}

-- the first of the tokens is an operator that would be read as a name test after `/`
abbrev pub BeginsNameLike : List Placed → Type 0
BeginsNameLike [] = ⊥
BeginsNameLike (p ∷ s) = (o : Operator) × (p.token ≡ token.Operator o) × (is_name_like o ≡ true)

-- no such operator stands directly after `/`, where it would be read as a name test: section 3.7
abbrev pub NoneBehindSlash : List Placed → Type 0
NoneBehindSlash [] = Unit {0}
NoneBehindSlash (p ∷ s) = (p.token ≡ token.Slash → BeginsNameLike s → ⊥) × NoneBehindSlash s

-- the tokens of the printed text derive the same expression, but for offsets
abbrev pub PrintedTokensDeriveTheSame : Type 0
PrintedTokensDeriveTheSame =
    (limit : ℕ) (tokens s : List Placed) (e : Tree) → NoneBehindSlash tokens → Derives limit tokens e →
    map (λ p. p.token) s ≡ tokens_printed false e →
    (f : Tree) × Derives limit s f × (without_offsets f ≡ without_offsets e)
