-- The lines of the document of a schema are read back as its events.
use Rattle.std.specs.Prelude.{◌≡◌, Bool, true, false, not, ◌&&◌, List, [], ◌∷◌}
use Rattle.std.specs.List.{list_all}
use Rattle.pyx_core.specs.declared.event.Event.{Event}
use Rattle.pyx_core.specs.declared.event.Event.TheVariants.{Start, End, Chars, Pi, Comment}
use Rattle.pyx_core.specs.declared.mode.Mode.TheVariants.{Document}
use Rattle.pyx_core.specs.Nesting.{of_chars}
use Rattle.pyx_core.specs.Written.{Gives, text_of}
use Rattle.sch_model.specs.declared.flat.FlatSchema.{FlatSchema}
use Rattle.sch_flat.specs.FlatDocument.{flat_events}

-- whether the values and texts that an event gives are made of Chars (XML 1.0, section 2.2)
abbrev pub is_made : Event → Bool
is_made (Start name attrs) = list_all (λ attr. of_chars attr.value) attrs
is_made (End name) = true
is_made (Chars text) = of_chars text
is_made (Pi target body) = of_chars body
is_made (Comment text) = of_chars text

-- whether no two texts meet, where one stands in front of the events or none does
abbrev pub are_apart : Bool → List Event → Bool
are_apart after_text [] = true
are_apart after_text (Start name attrs ∷ events) = are_apart false events
are_apart after_text (End name ∷ events) = are_apart false events
are_apart after_text (Chars text ∷ events) = not after_text && are_apart true events
are_apart after_text (Pi target body ∷ events) = are_apart false events
are_apart after_text (Comment text ∷ events) = are_apart false events

-- the document of a schema whose texts are made of Chars, no two of which meet, is a document: its lines have no
-- fault, and give its events
abbrev pub FlatTextIsReadBack : Type 0
FlatTextIsReadBack = (schema : FlatSchema) →
    list_all is_made (flat_events schema) ≡ true → are_apart false (flat_events schema) ≡ true →
    Gives Document (text_of (flat_events schema)) (flat_events schema)
