-- The grammar of XPath 1.0, sections 2 and 3, is unambiguous.
use Rattle.std.specs.Prelude.{◌≡◌, ℕ, List}
use Rattle.xp_tree.specs.Tree.{Tree}
use Rattle.xp_grammar.specs.declared.token.Placed.{Placed}
use Rattle.xp_grammar.specs.Grammar.{Derives}

-- tokens derive at most one tree: no limit of nesting changes it
abbrev pub OneTree : Type 0
OneTree = (limit higher : ℕ) (tokens : List Placed) (e f : Tree) → Derives limit tokens e → Derives higher tokens f → e ≡ f
