-- What holds of the tokens of each text.
use Rattle.std.specs.Prelude.{◌≡◌, ℕ, Bool, true, List, length}
use Rattle.xp_grammar.specs.declared.token.Placed.{Placed}
use Rattle.xp_lexicon.specs.Lexicon.{Tokenized}

-- reading to the end ends at the text's length
abbrev pub WholeTextsEnd : Type 0
WholeTextsEnd = (text : List ℕ) (tokens : List Placed) (end : ℕ) → Tokenized text tokens true end → end ≡ length text

-- two readings are the same
pub record IsSameReading (tokens others : List Placed) (whole other_whole : Bool) (end other_end : ℕ) : Type 0 where
  pub tokens_same : tokens ≡ others
  pub whole_same : whole ≡ other_whole
  pub end_same : end ≡ other_end

-- a text is read in one way
abbrev pub TextsReadOnce : Type 0
TextsReadOnce =
    (text : List ℕ) (tokens others : List Placed) (whole other_whole : Bool) (end other_end : ℕ) → Tokenized text tokens whole end →
    Tokenized text others other_whole other_end → IsSameReading tokens others whole other_whole end other_end

-- no text is without tokens up to its end, or up to where no token can be read
abbrev pub NoTextIsUnread : Type 0
NoTextIsUnread =
    (text : List ℕ) → ((tokens : List Placed) (whole : Bool) (end : ℕ) → Tokenized text tokens whole end → ⊥) → ⊥
