-- What the events that are kept tell of the lines that were read.
use Rattle.std.specs.Prelude.{◌≡◌, List, ◌++◌, Option, None, Some, Result, MatchResult}
use Rattle.pyx_core.specs.declared.begun.Begun.{Begun}
use Rattle.pyx_core.specs.declared.begun.Begun.TheVariants.{Nothing, Element, Text}
use Rattle.pyx_core.specs.declared.begun.Events.{Events}
use Rattle.pyx_core.specs.declared.event.Event.TheVariants as event
use Rattle.pyx_core.specs.declared.event.Located.{Located}
use Rattle.pyx_core.specs.Before.{located}
use Rattle.pyx_core.specs.Fronts.{IsFront}

-- the begun event
abbrev pub shown : Begun → Option Located
shown Nothing = None
shown (Element line name attrs) = Some (located line (event.Start name attrs))
shown (Text line text) = Some (located line (event.Chars text))

-- the items came after the old ones, or the list stayed as it was
abbrev pub Puts : {T E : Type 0} → List Located → List Located → List Located → Result T E → Type 0
Puts old new items result = MatchResult result (λ _. new ≡ old ++ items) (λ _. new ≡ old)

-- the events that were taken and those that wait are the completed ones, and one is begun
pub record Collected (events : Events) (taken done : List Located) (begun : Option Located) : Type 0 where
  pub completed : taken ++ events.waiting.items ≡ done
  pub begun_is : shown events.begun ≡ begun

-- more events were completed; without memory no more than these
abbrev pub Goes : {T E : Type 0} → Events → List Located → List Located → List Located → Option Located → Result T E → Type 0
Goes events taken done more begun result =
    MatchResult result (λ _. Collected events taken (done ++ more) begun) (λ _. IsFront (taken ++ events.waiting.items) (done ++ more))
