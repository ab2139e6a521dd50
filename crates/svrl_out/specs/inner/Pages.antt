-- Pages of a report.
use Rattle.std.specs.Prelude.{◌≡◌, ℕ, List, ◌++◌, Ok, Err, Result}
use Rattle.sch_io.specs.SinkLog.{SinkLog}
use Rattle.sch_io.specs.Wrote.{Wrote}
use Rattle.sch_io.specs.declared.error.Failed.{Failed}

-- a front of what stood on the page was written, and the rest still stands there; after an error a front was written
abbrev pub Turned : SinkLog → SinkLog → List ℕ → List ℕ → Result (Unit {0}) Failed → Type 0
Turned old new before after (Ok done) = (front : List ℕ) × (before ≡ front ++ after) × Wrote {T = Unit {0}} {E = Failed} old new front (Ok tt)
Turned old new before after (Err failed) = Wrote {T = Unit {0}} {E = Failed} old new before (Err failed)
