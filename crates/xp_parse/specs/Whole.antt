-- Whole expressions (XPath 1.0, section 3) and whole patterns (XSLT 1.0, section 5.2), and their first faults.
use Rattle.std.specs.Prelude.{◌≡◌, ℕ, Bool, true, List}
use Rattle.xp_tree.specs.Tree.{Tree}
use Rattle.xp_tree.specs.PatternTree.{PathTree}
use Rattle.xp_grammar.specs.declared.token.Placed.{Placed}
use Rattle.xp_grammar.specs.Grammar.{Derives}
use Rattle.xp_grammar.specs.PatternGrammar.{DerivesPattern}
use Rattle.xp_grammar.specs.Faults.{IsFirstFault, IsFirstPatternFault}
use Rattle.xp_parse.specs.declared.error.ParseError.{ParseError}
use Rattle.xp_parse.specs.declared.error.ParseError.TheVariants as error

-- the tokens are the whole text, and spell an expression with this tree
pub record IsWhole (limit : ℕ) (whole : Bool) (tokens : List Placed) (e : Tree) : Type 0 where
  pub to_the_end : whole ≡ true
  pub spells : Derives limit tokens e

-- the tokens are the whole text, and spell a pattern with these trees
pub record IsWholePattern (limit : ℕ) (whole : Bool) (tokens : List Placed) (paths : List PathTree) : Type 0 where
  pub to_the_end : whole ≡ true
  pub spells : DerivesPattern limit tokens paths

-- the answer is the first fault of the tokens as an expression, unless memory ran out
abbrev pub Faults : ℕ → List Placed → Bool → ℕ → ParseError → Type 0
Faults limit tokens whole end error.Memory = Unit {0}
Faults limit tokens whole end (error.Fault f) = IsFirstFault limit tokens whole end f.kind f.offset

-- the answer is the first fault of the tokens as a pattern, unless memory ran out
abbrev pub PatternFaults : ℕ → List Placed → Bool → ℕ → ParseError → Type 0
PatternFaults limit tokens whole end error.Memory = Unit {0}
PatternFaults limit tokens whole end (error.Fault f) = IsFirstPatternFault limit tokens whole end f.kind f.offset
