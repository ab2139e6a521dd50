-- The grammar of match patterns, XSLT 1.0, section 5.2, is unambiguous.
use Rattle.std.specs.Prelude.{◌≡◌, ℕ, List}
use Rattle.xp_tree.specs.PatternTree.{PathTree}
use Rattle.xp_grammar.specs.declared.token.Placed.{Placed}
use Rattle.xp_grammar.specs.PatternGrammar.{DerivesPattern}

-- tokens derive the path patterns of at most one pattern: no limit of nesting changes them
abbrev pub OnePattern : Type 0
OnePattern =
    (limit higher : ℕ) (tokens : List Placed) (ps qs : List PathTree) → DerivesPattern limit tokens ps → DerivesPattern higher tokens qs → ps ≡ qs
