-- The location of a node spells a path, whose type is that of its steps.
use Rattle.std.proofs.Common.{◌≡◌, ℕ, ◌≤◌, true, false, List, [], ◌∷◌, map, codes, refl, subst, arith}
use Rattle.sch_base.specs.declared.limits.TheConstants.{MAX_NESTING}
use Rattle.xp_tree.specs.Tree.{Tree, path, root, no_steps}
use Rattle.xp_tree.specs.declared.terms.Level.TheVariants as level
use Rattle.xp_grammar.specs.declared.token.Placed.{Placed}
use Rattle.xp_grammar.specs.declared.token.Token.TheVariants as token
use Rattle.xp_grammar.specs.Grammar.{Derives, IsPath, root_alone}
use Rattle.xp_lexicon.specs.Lexicon.{Tokenized}
use Rattle.xp_lexicon.specs.Laws.{WholeTextsEnd}
use Rattle.xp_print_laws.proofs.Reading.{as_chain}
use Rattle.xp_print_laws.proofs.Spelled.{ended, spelled-all, take_one}
use Rattle.xp_print_laws.proofs.Texts.{ReadsAs, reads_none, sign_reads}
use Rattle.xp_syntax.specs.Syntax.{Spells}
use Rattle.xp_typed_tree.specs.TypedTree.{TypedTree, location, at_root, no_more_steps}
use Rattle.xp_types.specs.Scope.{Scope}
use Rattle.xp_types.specs.HasType.{HasType}
use Rattle.location_texts.specs.LocationSteps.{LocationStep, AllSpellable, steps_text}
use Rattle.location_texts.specs.StepTypes.{typed_steps}
use Rattle.location_texts.specs.Laws.{TextsHaveTheirTokens, TokensDeriveTypedPaths}

-- a text spells an expression of a type
pub record SpellsTyped (text : List ℕ) (typed : TypedTree) : Type 0 where
  pub expression : Tree
  pub spelled : Spells MAX_NESTING text expression
  pub has_type : (S : Scope) → HasType S expression typed

spelled_whole : WholeTextsEnd → (text : List ℕ) (tokens : List Placed) (end : ℕ) (e : Tree) → Tokenized text tokens true end →
    Derives MAX_NESTING tokens e → Spells MAX_NESTING text e
spelled_whole ends text tokens end e T D =
    record { tokens = tokens; tokenized = subst (λ (n : ℕ). Tokenized text tokens true n) (ends text tokens end T) T; derived = D }

-- ---- the root

abbrev RootRead : List Placed → Type 0
RootRead tokens = (offset : ℕ) × Derives MAX_NESTING tokens (path offset root no_steps)

root_read : (tokens : List Placed) → map (λ p. p.token) tokens ≡ token.Slash ∷ [] → RootRead tokens
root_read tokens is =
    take_one (λ l. RootRead l) (spelled-all tokens (token.Slash ∷ []) is)
    (λ p r slash R.
    let room : 0 ≤ MAX_NESTING = omega arith in
    let alone : IsPath MAX_NESTING 0 (p ∷ r) [] (path p.offset root no_steps) =
    subst (λ l. IsPath MAX_NESTING 0 (p ∷ r) l (path p.offset root no_steps)) (ended R) (root_alone 0 p r slash) in
    (p.offset, as_chain (path p.offset root no_steps) level.Or (omega arith) room alone))

slash_reads : ReadsAs false (codes "/") (token.Slash ∷ [])
slash_reads = sign_reads false 47 token.Slash [] [] refl refl refl (reads_none false)

pub root_spelled : WholeTextsEnd → SpellsTyped (codes "/") (location at_root no_more_steps)
root_spelled ends =
    let (tokens, end, T, is) = slash_reads 0 in
    let (offset, D) = root_read tokens is in
    record {
      expression = path offset root no_steps;
      spelled = spelled_whole ends (codes "/") tokens end (path offset root no_steps) T D;
      has_type = λ S. (at_root, no_more_steps, refl, refl, refl);
    }

-- ---- steps

pub steps_spelled : WholeTextsEnd → TextsHaveTheirTokens → TokensDeriveTypedPaths → (s : LocationStep) (ss : List LocationStep) → AllSpellable (s ∷ ss) →
    SpellsTyped (steps_text (s ∷ ss)) (location at_root (typed_steps (s ∷ ss)))
steps_spelled ends texts derive s ss all =
    let (tokens, end, T, is) = texts (s ∷ ss) all in
    let room : 2 ≤ MAX_NESTING = omega arith in
    let (offset, steps, D, types) = derive MAX_NESTING s ss tokens room all is in
    record {
      expression = path offset root steps;
      spelled = spelled_whole ends (steps_text (s ∷ ss)) tokens end (path offset root steps) T D;
      has_type = λ S. (at_root, typed_steps (s ∷ ss), refl, types S, refl);
    }
