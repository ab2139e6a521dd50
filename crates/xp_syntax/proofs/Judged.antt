-- Each text spells something or has a fault.
use Rattle.std.proofs.Common.{◌≡◌, ℕ, ◌⊎◌, Bool, true, List, length, subst, ap, ◌∙◌, sym, inl, inr}
use Rattle.xp_tree.specs.Tree.{Tree}
use Rattle.xp_tree.specs.PatternTree.{PathTree}
use Rattle.xp_grammar.specs.declared.token.Placed.{Placed}
use Rattle.xp_grammar.specs.Faults.{EachDerivesOrFails, EachDerivesAPatternOrFails}
use Rattle.xp_lexicon.specs.Lexicon.{Tokenized}
use Rattle.xp_lexicon.specs.Laws.{NoTextIsUnread, WholeTextsEnd}
use Rattle.xp_syntax.specs.Laws.{NoTextIsUnjudged, NoTextIsUnjudgedAsAPattern}

-- the tokens of a text that was read to its end
to_the_end : WholeTextsEnd → (text : List ℕ) (tokens : List Placed) (whole : Bool) (end : ℕ) → whole ≡ true → Tokenized text tokens whole end →
    Tokenized text tokens true (length text)
to_the_end ends text tokens whole end is T =
    let all = subst (λ w. Tokenized text tokens w end) is T in
    subst (λ n. Tokenized text tokens true n) (ends text tokens end all) all

pub none_unjudged : NoTextIsUnread → WholeTextsEnd → EachDerivesOrFails → NoTextIsUnjudged
none_unjudged read ends each limit text spells_none no_fault =
    read text (λ tokens whole end T.
    elim (each limit tokens whole end) [
      | inl (is, e, D) ↦ spells_none e (record { tokens = tokens; tokenized = to_the_end ends text tokens whole end is T; derived = D })
      | inr (kind, offset, F) ↦ no_fault kind offset (record { tokens = tokens; whole = whole; end = end; tokenized = T; first = F })
    ])

pub none_unjudged_as_a_pattern : NoTextIsUnread → WholeTextsEnd → EachDerivesAPatternOrFails → NoTextIsUnjudgedAsAPattern
none_unjudged_as_a_pattern read ends each limit text spells_none no_fault =
    read text (λ tokens whole end T.
    elim (each limit tokens whole end) [
      | inl (is, paths, D) ↦ spells_none paths (record { tokens = tokens; tokenized = to_the_end ends text tokens whole end is T; derived = D })
      | inr (kind, offset, F) ↦ no_fault kind offset (record { tokens = tokens; whole = whole; end = end; tokenized = T; first = F })
    ])
