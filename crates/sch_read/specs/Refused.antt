-- A refused schema.
use Rattle.std.specs.Prelude.{◌≡◌, Some}
use Rattle.doc_tree.specs.Table.{Table}
use Rattle.sch_model.specs.declared.fault.SchemaError.{SchemaError}
use Rattle.sch_model.specs.declared.fault.SchemaError.TheVariants.{Fault, Memory}
use Rattle.sch_rules.specs.FirstBroken.{first_broken}

-- a refusal tells the first broken rule, or that there was no memory
abbrev pub Refused : Table → SchemaError → Type 0
Refused T (Fault f) = first_broken T ≡ Some f
Refused T Memory = Unit {0}
