-- Ids as the program keeps them.
use Rattle.std.specs.Prelude.{ℕ, Bool, List, String}
use Rattle.std.specs.List.{list_any}
use Rattle.std.specs.Str.{bytes_eq}
use Rattle.std.specs.String.{string_bytes}
use Rattle.std.specs.declared.alloc.Global.{Global}

-- whether an id is among keys
abbrev pub has_id : List (String Global) → List ℕ → Bool
has_id keys id = list_any (λ k. bytes_eq id (string_bytes k)) keys
