-- How large a document is: its bytes in lines of PYX, and its nodes (XPath 1.0, section 5).
use Rattle.std.specs.Prelude.{ℕ, ◌+◌, ◌-◌, ◌^◌, suc, min, nat_le, Bool, ◌&&◌, List, [], ◌∷◌, length}
use Rattle.pyx_core.specs.declared.event.Event.{Event}
use Rattle.pyx_core.specs.declared.event.Event.TheVariants.{Start, End, Chars, Pi, Comment}
use Rattle.pyx_core.specs.Escapes.{escaped}
use Rattle.pyx_core.specs.Written.{text_of}
use Rattle.doc_tree.specs.limits.TheConstants.{MAX_LIVE_NODES}
use Rattle.name_scopes.specs.Declarations.{plain_attrs}
use Rattle.sch_base.specs.declared.limits.TheConstants.{MAX_TEXT_BYTES}
use Rattle.sch_model.specs.declared.flat.FlatSchema.{FlatSchema}
use Rattle.sch_flat.specs.declared.size.FlatSize.{FlatSize}
use Rattle.sch_flat.specs.FlatDocument.{flat_events}

-- the bytes of the lines of events
abbrev pub bytes_of : List Event → ℕ
bytes_of events = length (text_of events)

-- the nodes that an event brings: an element with its attributes, of which declarations are none; a text, a comment,
-- an instruction
abbrev pub nodes_at : Event → ℕ
nodes_at (Start name attrs) = suc (length (plain_attrs attrs))
nodes_at (End name) = 0
nodes_at (Chars text) = 1
nodes_at (Pi target body) = 1
nodes_at (Comment text) = 1

-- the nodes of events, all of which stand below the root
abbrev pub nodes_of : List Event → ℕ
nodes_of [] = 0
nodes_of (event ∷ events) = nodes_at event + nodes_of events

-- a count as a u64 carries it, which stands still at the last value
abbrev pub capped : ℕ → ℕ
capped n = min n (2 ^ 64 - 1)

-- the bytes of a text with its escapes
abbrev pub escapes_len : List ℕ → ℕ
escapes_len text = capped (length (escaped text))

-- how large events are
abbrev pub size_of : List Event → FlatSize
size_of events = record { bytes = capped (bytes_of events); nodes = capped (nodes_of events) }

-- whether the document of a schema has no more bytes than a text may have, nor, with its root, more nodes than a tree
abbrev pub is_small : FlatSchema → Bool
is_small schema = nat_le (bytes_of (flat_events schema)) MAX_TEXT_BYTES && nat_le (suc (nodes_of (flat_events schema))) MAX_LIVE_NODES
