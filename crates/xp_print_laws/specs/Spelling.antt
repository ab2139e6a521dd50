-- What the printed text of an expression spells: XPath 1.0, sections 3 and 3.7.
use Rattle.std.specs.Prelude.{◌≡◌, ℕ, true, false, List, length, map}
use Rattle.xp_tree.specs.Tree.{Tree}
use Rattle.xp_grammar.specs.declared.token.Placed.{Placed}
use Rattle.xp_lexicon.specs.Lexicon.{Tokenized}
use Rattle.xp_print.specs.Printed.{printed}
use Rattle.xp_syntax.specs.Syntax.{Spells}
use Rattle.xp_print_laws.specs.Offsets.{without_offsets}
use Rattle.xp_print_laws.specs.PrintedTokens.{tokens_printed}

-- the whole of the printed text of an expression that some text spells is read as the printed tokens
abbrev pub PrintedTextHasThePrintedTokens : Type 0
PrintedTextHasThePrintedTokens =
    (limit : ℕ) (text : List ℕ) (e : Tree) → Spells limit text e →
    (tokens : List Placed) × Tokenized (printed false e) tokens true (length (printed false e)) × (map (λ p. p.token) tokens ≡ tokens_printed false e)

-- the printed text of an expression that some text spells, spells the same expression but for offsets, and needs no
-- deeper nesting than the limit of that text
abbrev pub PrintedSpellsTheSame : Type 0
PrintedSpellsTheSame =
    (limit : ℕ) (text : List ℕ) (e : Tree) → Spells limit text e →
    (f : Tree) × Spells limit (printed false e) f × (without_offsets f ≡ without_offsets e)

-- whatever the printed text of an expression spells that some text spells is the same expression, but for offsets
abbrev pub PrintedSpellsNothingElse : Type 0
PrintedSpellsNothingElse =
    (limit higher : ℕ) (text : List ℕ) (e f : Tree) → Spells limit text e → Spells higher (printed false e) f →
    without_offsets f ≡ without_offsets e
