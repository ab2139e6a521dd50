-- Which of two faults comes first: that with the lesser node number, and at one node that with the lesser rule. A schema's
-- elements are numbered in document order.
use Rattle.std.specs.Prelude.{Bool, ◌&&◌, ◌||◌, ◌==◌, nat_lt, Option, None, Some, if◌then◌else◌}
use Rattle.sch_model.specs.declared.fault.SchemaFault.{SchemaFault}

abbrev pub precedes : SchemaFault → SchemaFault → Bool
precedes f g = nat_lt f.node g.node || (f.node == g.node && nat_lt f.rule g.rule)

abbrev pub earlier : Option SchemaFault → Option SchemaFault → Option SchemaFault
earlier None g = g
earlier (Some f) None = Some f
earlier (Some f) (Some g) = if precedes g f then Some g else Some f
