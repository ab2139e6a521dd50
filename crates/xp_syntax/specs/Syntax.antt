-- What texts spell, expressions (XPath 1.0, section 3) and match patterns (XSLT 1.0, section 5.2), and their first faults.
use Rattle.std.specs.Prelude.{ℕ, Bool, true, List, length}
use Rattle.xp_tree.specs.Tree.{Tree}
use Rattle.xp_tree.specs.PatternTree.{PathTree}
use Rattle.xp_grammar.specs.declared.token.Placed.{Placed}
use Rattle.xp_grammar.specs.declared.fault.SyntaxKind.{SyntaxKind}
use Rattle.xp_grammar.specs.Grammar.{Derives}
use Rattle.xp_grammar.specs.Faults.{IsFirstFault}
use Rattle.xp_lexicon.specs.Lexicon.{Tokenized}
use Rattle.xp_grammar.specs.PatternGrammar.{DerivesPattern}
use Rattle.xp_grammar.specs.Faults.{IsFirstPatternFault}
use Rattle.xp_parse.specs.declared.error.ParseError.{ParseError}
use Rattle.xp_parse.specs.declared.error.ParseError.TheVariants as error

-- the tokens of the whole text derive an expression with this tree, in which brackets and signs nest up to the limit
pub record Spells (limit : ℕ) (text : List ℕ) (e : Tree) : Type 0 where
  pub tokens : List Placed
  pub tokenized : Tokenized text tokens true (length text)
  pub derived : Derives limit tokens e

-- the first fault of a text: at the first token, or at the end, with which no expression goes on that begins with the
-- tokens before it, or where no token can be read
pub record IsSyntaxFault (limit : ℕ) (text : List ℕ) (kind : SyntaxKind) (offset : ℕ) : Type 0 where
  pub tokens : List Placed
  pub whole : Bool
  pub end : ℕ
  pub tokenized : Tokenized text tokens whole end
  pub first : IsFirstFault limit tokens whole end kind offset

-- the tokens of the whole text derive a pattern, whose path patterns have these trees
pub record SpellsPattern (limit : ℕ) (text : List ℕ) (paths : List PathTree) : Type 0 where
  pub tokens : List Placed
  pub tokenized : Tokenized text tokens true (length text)
  pub derived : DerivesPattern limit tokens paths

-- the first fault of a text as a pattern
pub record IsPatternFault (limit : ℕ) (text : List ℕ) (kind : SyntaxKind) (offset : ℕ) : Type 0 where
  pub tokens : List Placed
  pub whole : Bool
  pub end : ℕ
  pub tokenized : Tokenized text tokens whole end
  pub first : IsFirstPatternFault limit tokens whole end kind offset

-- an error is a fault, unless memory ran out
abbrev pub UnlessMemory : (SyntaxKind → ℕ → Type 0) → ParseError → Type 0
UnlessMemory P error.Memory = Unit {0}
UnlessMemory P (error.Fault f) = P f.kind f.offset
