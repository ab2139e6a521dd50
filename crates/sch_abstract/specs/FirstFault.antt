-- The first rule that a schema breaks, of those on its references and on its size: a reference comes before its size.
use Rattle.std.specs.Prelude.{◌≡◌, ◌⊎◌, List, [], ◌∷◌, Option, None, Some}
use Rattle.std.specs.Option.{option_or}
use Rattle.sch_model.specs.declared.fault.SchemaError.{SchemaError}
use Rattle.sch_model.specs.declared.fault.SchemaError.TheVariants.{Fault, Memory}
use Rattle.sch_model.specs.declared.fault.SchemaFault.{SchemaFault}
use Rattle.sch_model.specs.declared.raw.RawSchema.{RawSchema}
use Rattle.sch_references.specs.Ended.{Refuses}
use Rattle.sch_references.specs.Places.{IsFirstAmong, NoneBroken, first_among}
use Rattle.sch_references.specs.References.{reference_places}
use Rattle.sch_sizes.specs.Sizes.{size_places}

-- the first broken rule on its references; where none is broken, the first on its size
abbrev pub IsFirstFault : RawSchema → SchemaFault → Type 0
IsFirstFault schema f =
    IsFirstAmong (reference_places schema) f ⊎ (NoneBroken (reference_places schema) × IsFirstAmong (size_places schema) f)

-- the same as a function
abbrev pub first_fault : RawSchema → Option SchemaFault
first_fault schema = option_or (first_among (reference_places schema)) (first_among (size_places schema))

-- the function gives just the first broken rule, and none where no rule is broken
pub record FirstFaultAgrees (schema : RawSchema) : Type 0 where
  pub is_first : (f : SchemaFault) → first_fault schema ≡ Some f → IsFirstFault schema f
  pub is_found : (f : SchemaFault) → IsFirstFault schema f → first_fault schema ≡ Some f
  pub none_broken : first_fault schema ≡ None → NoneBroken (reference_places schema) × NoneBroken (size_places schema)

-- a refusal tells the first broken rule, or that there was no memory
abbrev pub Refused : RawSchema → SchemaError → Type 0
Refused schema error = Refuses (first_fault schema) error
