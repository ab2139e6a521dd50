-- The first fault where one is found already, and these places follow.
use Rattle.std.specs.Prelude.{List, Option}
use Rattle.sch_model.specs.declared.fault.SchemaFault.{SchemaFault}
use Rattle.sch_references.specs.Places.{Place, earlier, first_among}

abbrev pub onto : Option SchemaFault → List Place → Option SchemaFault
onto first places = earlier first (first_among places)
