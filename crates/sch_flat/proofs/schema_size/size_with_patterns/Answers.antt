-- The document element round what it holds.
use Rattle.sch_flat.specs.FlatDocument.{held_events}
use Rattle.sch_flat.specs.SchemaParts.{schema_of}
use Rattle.sch_flat.proofs.schema_size.size_with_patterns.Goals as goal

pub returns : goal.returns
returns c = λ its is. c.element_size.ensures (held_events (schema_of c.args.parts its)) (c.held_size.ensures its is)
