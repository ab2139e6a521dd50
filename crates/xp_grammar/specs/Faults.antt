-- The first fault of a list of tokens, as an expression (XPath 1.0, section 3) or as a match pattern (XSLT 1.0, section
-- 5.2): the first token, or the end, with which nothing goes on that begins with the tokens before it.
use Rattle.std.specs.Prelude.{◌≡◌, ℕ, ◌⊎◌, Bool, true, false, List, [], ◌∷◌, ◌++◌}
use Rattle.xp_tree.specs.Tree.{Tree}
use Rattle.xp_tree.specs.PatternTree.{PathTree}
use Rattle.xp_grammar.specs.declared.token.Placed.{Placed}
use Rattle.xp_grammar.specs.declared.fault.SyntaxKind.{SyntaxKind}
use Rattle.xp_grammar.specs.declared.fault.SyntaxKind.TheVariants as kind
use Rattle.xp_grammar.specs.Grammar.{Derives}
use Rattle.xp_grammar.specs.PatternGrammar.{DerivesPattern}

-- something that the grammar derives, within the limit of nesting, begins with these tokens
abbrev pub BeginsIn : (A : Type 0) → (ℕ → List Placed → A → Type 0) → ℕ → List Placed → Type 0
BeginsIn A Grammar limit before = (after : List Placed) × (it : A) × Grammar limit (before ++ after) it

-- the first fault of tokens that were read up to a place: to the end of the text, or to where no token can be read
pub data IsFirstFaultIn (A : Type 0) (Grammar : ℕ → List Placed → A → Type 0) (limit : ℕ) :
    List Placed → Bool → ℕ → SyntaxKind → ℕ → Type 0 where
  unexpected_token : (before after : List Placed) (p : Placed) (whole : Bool) (end : ℕ) →
      BeginsIn A Grammar limit before → ((any : ℕ) → BeginsIn A Grammar any (before ++ p ∷ []) → ⊥) →
      IsFirstFaultIn A Grammar limit (before ++ p ∷ after) whole end kind.Unexpected p.offset
  too_nested : (before after : List Placed) (p : Placed) (whole : Bool) (end : ℕ) →
      BeginsIn A Grammar limit before → (BeginsIn A Grammar limit (before ++ p ∷ []) → ⊥) →
      (higher : ℕ) → BeginsIn A Grammar higher (before ++ p ∷ []) →
      IsFirstFaultIn A Grammar limit (before ++ p ∷ after) whole end kind.TooNested p.offset
  unexpected_end : (tokens : List Placed) (end : ℕ) →
      BeginsIn A Grammar limit tokens → ((it : A) → Grammar limit tokens it → ⊥) →
      IsFirstFaultIn A Grammar limit tokens true end kind.Unexpected end
  bad_token : (tokens : List Placed) (end : ℕ) →
      BeginsIn A Grammar limit tokens → IsFirstFaultIn A Grammar limit tokens false end kind.BadToken end

-- some expression begins with these tokens
abbrev pub Begins : ℕ → List Placed → Type 0
Begins limit before = BeginsIn Tree Derives limit before

-- some pattern begins with these tokens
abbrev pub BeginsPattern : ℕ → List Placed → Type 0
BeginsPattern limit before = BeginsIn (List PathTree) DerivesPattern limit before

-- the first fault of tokens as an expression
abbrev pub IsFirstFault : ℕ → List Placed → Bool → ℕ → SyntaxKind → ℕ → Type 0
IsFirstFault limit tokens whole end kind offset = IsFirstFaultIn Tree Derives limit tokens whole end kind offset

-- the first fault of tokens as a pattern
abbrev pub IsFirstPatternFault : ℕ → List Placed → Bool → ℕ → SyntaxKind → ℕ → Type 0
IsFirstPatternFault limit tokens whole end kind offset =
    IsFirstFaultIn (List PathTree) DerivesPattern limit tokens whole end kind offset

-- the tokens of a whole text derive something, or the tokens have a first fault
abbrev pub DerivesOrFails : (A : Type 0) → (ℕ → List Placed → A → Type 0) → ℕ → List Placed → Bool → ℕ → Type 0
DerivesOrFails A Grammar limit tokens whole end = ((whole ≡ true) × (it : A) × Grammar limit tokens it)
    ⊎ ((k : SyntaxKind) × (offset : ℕ) × IsFirstFaultIn A Grammar limit tokens whole end k offset)

-- each list of tokens derives an expression, or has a first fault as an expression
abbrev pub EachDerivesOrFails : Type 0
EachDerivesOrFails = (limit : ℕ) (tokens : List Placed) (whole : Bool) (end : ℕ) → DerivesOrFails Tree Derives limit tokens whole end

-- each list of tokens derives a pattern, or has a first fault as a pattern
abbrev pub EachDerivesAPatternOrFails : Type 0
EachDerivesAPatternOrFails =
    (limit : ℕ) (tokens : List Placed) (whole : Bool) (end : ℕ) → DerivesOrFails (List PathTree) DerivesPattern limit tokens whole end
