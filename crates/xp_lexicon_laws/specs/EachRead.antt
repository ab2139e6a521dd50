-- Each text has tokens.
use Rattle.std.specs.Prelude.{ℕ, Bool, List}
use Rattle.xp_grammar.specs.declared.token.Placed.{Placed}
use Rattle.xp_lexicon.specs.Lexicon.{Tokenized}

-- each text has tokens up to its end, or up to where no token can be read
abbrev pub EachTextIsRead : Type 0
EachTextIsRead = (text : List ℕ) → (tokens : List Placed) × (whole : Bool) × (end : ℕ) × Tokenized text tokens whole end
