-- What holds of the trees of texts and of tokens, and of their first faults.
use Rattle.std.specs.Prelude.{◌≡◌, ℕ, Bool, true, false, List, [], ◌∷◌, ◌++◌, map}
use Rattle.xp_tree.specs.declared.terms.AxisName.TheVariants as axis
use Rattle.xp_tree.specs.Tree.{Tree}
use Rattle.xp_tree.specs.PatternTree.{PathTree}
use Rattle.xp_grammar.specs.declared.fault.SyntaxKind.{SyntaxKind}
use Rattle.xp_grammar.specs.declared.token.NodeType.TheVariants as node_type
use Rattle.xp_grammar.specs.declared.token.Placed.{Placed}
use Rattle.xp_grammar.specs.declared.token.Token.{Token}
use Rattle.xp_grammar.specs.declared.token.Token.TheVariants as token
use Rattle.xp_grammar.specs.Grammar.{Derives}
use Rattle.xp_syntax.specs.Syntax.{Spells, SpellsPattern, IsSyntaxFault, IsPatternFault}

-- a text spells at most one expression: no limit of nesting changes it
abbrev pub OneSpelling : Type 0
OneSpelling = (limit higher : ℕ) (text : List ℕ) (e f : Tree) → Spells limit text e → Spells higher text f → e ≡ f

-- a text spells at most one pattern
abbrev pub OnePatternSpelling : Type 0
OnePatternSpelling =
    (limit higher : ℕ) (text : List ℕ) (ps qs : List PathTree) → SpellsPattern limit text ps → SpellsPattern higher text qs → ps ≡ qs

-- a text has no two first faults
abbrev pub FirstFaultsAreUnique : Type 0
FirstFaultsAreUnique =
    (limit : ℕ) (text : List ℕ) (kind other_kind : SyntaxKind) (offset other_offset : ℕ) → IsSyntaxFault limit text kind offset →
    IsSyntaxFault limit text other_kind other_offset → (kind ≡ other_kind) × (offset ≡ other_offset)

-- a text has no two first faults as a pattern
abbrev pub FirstPatternFaultsAreUnique : Type 0
FirstPatternFaultsAreUnique =
    (limit : ℕ) (text : List ℕ) (kind other_kind : SyntaxKind) (offset other_offset : ℕ) → IsPatternFault limit text kind offset →
    IsPatternFault limit text other_kind other_offset → (kind ≡ other_kind) × (offset ≡ other_offset)

-- a text with a fault spells no expression
abbrev pub FaultyTextsSpellNothing : Type 0
FaultyTextsSpellNothing =
    (limit : ℕ) (text : List ℕ) (kind : SyntaxKind) (offset : ℕ) (e : Tree) → IsSyntaxFault limit text kind offset → Spells limit text e → ⊥

-- a text with a fault as a pattern spells no pattern
abbrev pub FaultyTextsSpellNoPattern : Type 0
FaultyTextsSpellNoPattern =
    (limit : ℕ) (text : List ℕ) (kind : SyntaxKind) (offset : ℕ) (paths : List PathTree) → IsPatternFault limit text kind offset →
    SpellsPattern limit text paths → ⊥

-- no text neither spells an expression nor has a fault
abbrev pub NoTextIsUnjudged : Type 0
NoTextIsUnjudged =
    (limit : ℕ) (text : List ℕ) → ((e : Tree) → Spells limit text e → ⊥) →
    ((kind : SyntaxKind) (offset : ℕ) → IsSyntaxFault limit text kind offset → ⊥) → ⊥

-- no text neither spells a pattern nor has a fault as a pattern
abbrev pub NoTextIsUnjudgedAsAPattern : Type 0
NoTextIsUnjudgedAsAPattern =
    (limit : ℕ) (text : List ℕ) → ((paths : List PathTree) → SpellsPattern limit text paths → ⊥) →
    ((kind : SyntaxKind) (offset : ℕ) → IsPatternFault limit text kind offset → ⊥) → ⊥

-- the tokens, all at one offset
abbrev pub placed_at : ℕ → List Token → List Placed
placed_at offset tokens = map (λ t. record { offset = offset; token = t }) tokens

-- wherever the token stands in an expression, the longer form in its place, at its offset, derives the same tree
abbrev pub IsShortFor : Token → List Token → Type 0
IsShortFor short long =
    (limit : ℕ) (before after : List Placed) (p : Placed) (e : Tree) → p.token ≡ short →
    Derives limit (before ++ (p ∷ after)) e → Derives limit (before ++ (placed_at p.offset long ++ after)) e

-- what a node test begins with: section 2.3
abbrev pub begins_test : Token → Bool
begins_test token.Star = true
begins_test (token.PrefixStar prefix) = true
begins_test (token.Name name) = true
begins_test (token.NodeType t) = true
begins_test _ = false

-- what an axis ends with: section 2.2
abbrev pub ends_axis : Token → Bool
ends_axis token.At = true
ends_axis token.DoubleColon = true
ends_axis _ = false

-- whether an axis stands at the end of the tokens; at the start of all it is as told
abbrev pub axis_named : Bool → List Placed → Bool
axis_named told [] = told
axis_named told (p ∷ s) = axis_named (ends_axis p.token) s

-- wherever a step names no axis, `child::` before its node test, at its offset, derives the same tree
abbrev pub ChildIsTheDefaultAxis : Type 0
ChildIsTheDefaultAxis =
    (limit : ℕ) (before after : List Placed) (p : Placed) (e : Tree) →
    begins_test p.token ≡ true → axis_named false before ≡ false → Derives limit (before ++ (p ∷ after)) e →
    Derives limit (before ++ (placed_at p.offset (token.Axis axis.Child ∷ token.DoubleColon ∷ []) ++ (p ∷ after))) e

-- the node test `node()`
abbrev pub any_node : List Token
any_node = token.NodeType node_type.Node ∷ token.OpenParen ∷ token.CloseParen ∷ []

-- an abbreviated step and the step that it is short for are of one tree: section 2.5
pub record AbbreviationsAreWrittenOut : Type 0 where
  -- `child::` can be left out
  pub child : ChildIsTheDefaultAxis
  -- `@` is short for `attribute::`
  pub at_sign : IsShortFor token.At (token.Axis axis.Attribute ∷ token.DoubleColon ∷ [])
  -- `//` is short for `/descendant-or-self::node()/`
  pub double_slash : IsShortFor token.DoubleSlash
      (token.Slash ∷ token.Axis axis.DescendantOrSelf ∷ token.DoubleColon ∷ (any_node ++ (token.Slash ∷ [])))
  -- `.` is short for `self::node()`
  pub dot : IsShortFor token.Dot (token.Axis axis.SelfNode ∷ token.DoubleColon ∷ any_node)
  -- `..` is short for `parent::node()`
  pub double_dot : IsShortFor token.DoubleDot (token.Axis axis.Parent ∷ token.DoubleColon ∷ any_node)
