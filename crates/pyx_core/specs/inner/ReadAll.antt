-- A text that is fed whole.
use Rattle.std.specs.Prelude.{◌≡◌, ℕ, List, None, Some, Result, MatchResult}
use Rattle.pyx_core.specs.declared.fault.FeedError.{FeedError}
use Rattle.pyx_core.specs.declared.mode.Mode.{Mode}
use Rattle.pyx_core.specs.Reader.{ReaderState}
use Rattle.pyx_core.specs.Reading.{completed, events_of, fault_of, IfFault}

-- these bytes were fed as the whole text
abbrev pub ReadsAll : ReaderState → Mode → List ℕ → Result (Unit {0}) FeedError → Type 0
ReadsAll reader mode bytes result =
    MatchResult result (λ _. (fault_of mode bytes ≡ None) × (reader.waiting ≡ events_of mode bytes))
    (IfFault (λ fault. (fault_of mode bytes ≡ Some fault) × (reader.waiting ≡ completed mode bytes)))
