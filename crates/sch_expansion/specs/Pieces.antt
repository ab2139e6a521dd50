-- The pieces of which a filled text is made.
use Rattle.std.specs.Prelude.{◌≡◌, ℕ, ◌<◌, List, [], ◌++◌, length, slice_get}
use Rattle.std.specs.Option.{option_map_or}
use Rattle.sch_model.specs.declared.raw.Param.{Param}
use Rattle.sch_expansion.specs.declared.filling.Piece.{Piece}
use Rattle.sch_expansion.specs.declared.filling.Piece.TheVariants.{Kept, Value}
use Rattle.sch_expansion.specs.Filled.{filled}

-- the value of the parameter at a place
abbrev pub value_at : List Param → ℕ → List ℕ
value_at params place = option_map_or (λ param. param.value) (slice_get params place) []

-- the text of a piece
abbrev pub piece_text : List Param → Piece → List ℕ
piece_text params (Kept text) = text.now
piece_text params (Value place) = value_at params place

-- a piece is no value, or that of one of so many parameters
abbrev pub IsPlaced : ℕ → Piece → Type 0
IsPlaced params (Kept text) = Unit {0}
IsPlaced params (Value place) = place < params

-- a text is filled by a piece in front, and by the rest filled
pub record IsNextPiece (params : List Param) (text : List ℕ) (piece : Piece) (rest : List ℕ) : Type 0 where
  pub filled : filled params text ≡ piece_text params piece ++ filled params rest
  pub placed : IsPlaced (length params) piece
  pub shorter : length rest < length text
