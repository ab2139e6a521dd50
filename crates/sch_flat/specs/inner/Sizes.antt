-- Sizes in their parts.
use Rattle.std.specs.Prelude.{ℕ, ◌+◌, List, length}
use Rattle.name_scopes.specs.Declarations.{plain_attrs}
use Rattle.pyx_core.specs.declared.event.Attr.{Attr}
use Rattle.pyx_core.specs.Written.{attr_lines}
use Rattle.sch_flat.specs.declared.size.FlatSize.{FlatSize}
use Rattle.sch_flat.specs.FlatSize.{capped}

abbrev pub sized : ℕ → ℕ → FlatSize
sized bytes nodes = record { bytes = capped bytes; nodes = capped nodes }

abbrev pub sum_of : FlatSize → FlatSize → FlatSize
sum_of size next = sized (size.bytes + next.bytes) (size.nodes + next.nodes)

-- how large attributes are
abbrev pub attrs_size : List Attr → FlatSize
attrs_size attrs = sized (length (attr_lines attrs)) (length (plain_attrs attrs))
