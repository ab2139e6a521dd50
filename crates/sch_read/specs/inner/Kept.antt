-- The names that are used, as they are kept.
use Rattle.std.specs.Prelude.{List, [], ◌∷◌, Option, None, Some, string_bytes}
use Rattle.sch_read.specs.declared.keys.KeptKey.{KeptKey}
use Rattle.sch_read.specs.declared.keys.Use.{Use}
use Rattle.sch_rules.specs.Keys.{Key}

abbrev pub key_seen : KeptKey → Key
key_seen key = record { kind = key.kind; within = key.within; name = string_bytes key.name }

abbrev pub use_seen : Use → Key
use_seen name = record { kind = name.kind; within = name.within; name = name.name.now }

abbrev pub uses_seen : Option Use → List Key
uses_seen None = []
uses_seen (Some name) = use_seen name ∷ []
