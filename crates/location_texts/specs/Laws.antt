-- Texts of locations are read as their steps, and these are steps of a path that is well typed.
use Rattle.std.specs.Prelude.{◌≡◌, ℕ, ◌≤◌, true, List, ◌∷◌, map}
use Rattle.xp_tree.specs.Tree.{Steps, path, root}
use Rattle.xp_grammar.specs.declared.token.Placed.{Placed}
use Rattle.xp_grammar.specs.Grammar.{Derives}
use Rattle.xp_lexicon.specs.Lexicon.{Tokenized}
use Rattle.xp_types.specs.Scope.{Scope}
use Rattle.xp_types.specs.HasType.{StepsHaveTypes}
use Rattle.location_texts.specs.LocationSteps.{LocationStep, AllSpellable, steps_text}
use Rattle.location_texts.specs.StepTokens.{steps_tokens}
use Rattle.location_texts.specs.StepTypes.{typed_steps}

-- the text of steps has their tokens (XPath 1.0, section 3.7)
abbrev pub TextsHaveTheirTokens : Type 0
TextsHaveTheirTokens =
    (steps : List LocationStep) → AllSpellable steps →
    (tokens : List Placed) × (end : ℕ) × Tokenized (steps_text steps) tokens true end × (map (λ p. p.token) tokens ≡ steps_tokens steps)

-- the tokens of steps derive a path from the root, with these steps whatever is in scope; brackets nest twice in it (section 2)
abbrev pub TokensDeriveTypedPaths : Type 0
TokensDeriveTypedPaths =
    (limit : ℕ) (s : LocationStep) (ss : List LocationStep) (tokens : List Placed) → 2 ≤ limit → AllSpellable (s ∷ ss) →
    map (λ p. p.token) tokens ≡ steps_tokens (s ∷ ss) →
    (offset : ℕ) × (steps : Steps) × Derives limit tokens (path offset root steps) × ((S : Scope) → StepsHaveTypes S steps (typed_steps (s ∷ ss)))
