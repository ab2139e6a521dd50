-- What a call that writes a text has done to its sink.
use Rattle.std.specs.Prelude.{◌≡◌, ℕ, List, [], ◌∷◌, ◌++◌, Result, MatchResult}
use Rattle.std.specs.Borrow.{Bor}
pub use Rattle.std.specs.Io.KnownBytes.{Appends}
use Rattle.sch_io.specs.Counts.{faults_after}
use Rattle.sch_io.specs.SinkLog.{SinkLog}

-- the text was appended whole and no fault counted, or the call failed with one fault more, and a front of the text
-- was appended
pub record Wrote {T E : Type 0} (old new : SinkLog) (text : List ℕ) (result : Result T E) : Type 0 where
  pub counted : new.faults ≡ faults_after result old.faults
  pub grown : MatchResult result (λ _. Appends old.written new.written text)
      (λ _. (done left : List ℕ) × (text ≡ done ++ left) × Appends old.written new.written done)

-- the pieces one after another
abbrev pub joined : List (Bor (List ℕ)) → List ℕ
joined [] = []
joined (piece ∷ pieces) = piece.now ++ joined pieces
