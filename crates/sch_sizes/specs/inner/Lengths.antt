-- The lengths of the values of parameters, with their escapes.
use Rattle.std.specs.Prelude.{ℕ, List, map}
use Rattle.sch_model.specs.declared.raw.Param.{Param}
use Rattle.sch_flat.specs.FlatSize.{escapes_len}

abbrev pub lens_of_values : List Param → List ℕ
lens_of_values params = map (λ param. escapes_len param.value) params
