-- A text is read in one way, and its tokens derive one tree.
use Rattle.std.proofs.Common.{◌≡◌, ℕ, true, List, length, sym, subst}
use Rattle.xp_tree.specs.Tree.{Tree}
use Rattle.xp_tree.specs.PatternTree.{PathTree}
use Rattle.xp_grammar.specs.Grammar.{Derives}
use Rattle.xp_lexicon.specs.Laws.{TextsReadOnce}
use Rattle.xp_grammar_laws.specs.OneTree.{OneTree}
use Rattle.xp_grammar_laws.specs.OnePattern.{OnePattern}
use Rattle.xp_grammar.specs.PatternGrammar.{DerivesPattern}
use Rattle.xp_syntax.specs.Syntax.{Spells, SpellsPattern}

pub one-spelling : TextsReadOnce → OneTree → (limit higher : ℕ) (text : List ℕ) (e f : Tree) → Spells limit text e → Spells higher text f → e ≡ f
one-spelling once one limit higher text e f s u =
    let same = once text s.tokens u.tokens true true (length text) (length text) s.tokenized u.tokenized in
    one limit higher s.tokens e f s.derived (subst (λ l. Derives higher l f) (sym same.tokens_same) u.derived)

pub one-pattern : TextsReadOnce → OnePattern → (limit higher : ℕ) (text : List ℕ) (ps qs : List PathTree) → SpellsPattern limit text ps →
    SpellsPattern higher text qs → ps ≡ qs
one-pattern once one limit higher text ps qs s u =
    let same = once text s.tokens u.tokens true true (length text) (length text) s.tokenized u.tokenized in
    one limit higher s.tokens ps qs s.derived (subst (λ l. DerivesPattern higher l qs) (sym same.tokens_same) u.derived)
