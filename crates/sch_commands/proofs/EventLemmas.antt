-- Writing events one after another.
use Rattle.std.proofs.Common.{◌≡◌, ℕ, ◌+◌, ◌<◌, List, [], ◌∷◌, ◌++◌, length, take, slice_index_or, Result, Ok, Err, IsErr, refl, ap}
use Rattle.std.specs.List.{flat_map}
use Rattle.sch_io.specs.SinkLog.{SinkLog}
use Rattle.sch_io.specs.Wrote.{Wrote}
use Rattle.sch_io.proofs.Writes as writes
use Rattle.pyx_core.specs.declared.event.Event.{Event}
use Rattle.pyx_core.specs.Written.{event_lines, text_of}

each_event : (events : List Event) → text_of events ≡ flat_map event_lines events
each_event [] = refl
each_event (event ∷ events) = ap (λ (text : List ℕ). event_lines event ++ text) (each_event events)

pub wrote_cut : {T T' E E' : Type 0} {a b c : SinkLog} {u : T} {e : E} (xs : List Event) (i : ℕ) (x : Event) (result : Result T' E') →
    IsErr result → x ≡ slice_index_or xs i x → i < length xs →
    Wrote {E = E} a b (text_of (take i xs)) (Ok u) → Wrote {T = T} b c (event_lines x) (Err e) → Wrote a c (text_of xs) result
wrote_cut xs i x result fails is less first next =
    rw (each_event xs) (writes.wrote_cut event_lines xs i x result fails is less (rw (each_event (take i xs)) at first) next)

pub wrote_next : {T T' E E' : Type 0} {a b c : SinkLog} {u : T} {v : T'} (xs : List Event) (i : ℕ) (x : Event) →
    x ≡ slice_index_or xs i x → i < length xs →
    Wrote {E = E} a b (text_of (take i xs)) (Ok u) → Wrote {E = E'} b c (event_lines x) (Ok v) →
    Wrote {E = E'} a c (text_of (take (i + 1) xs)) (Ok v)
wrote_next xs i x is less first next =
    rw (each_event (take (i + 1) xs)) (writes.wrote_next event_lines xs i x is less (rw (each_event (take i xs)) at first) next)
