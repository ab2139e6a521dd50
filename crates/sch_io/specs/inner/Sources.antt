-- The representation of a shelf over the host: what it has open.
use Rattle.std.specs.Prelude.{ℕ, List, [], Option, Some}
use Rattle.sch_io.specs.declared.host_shelf.Source.{Source}
use Rattle.sch_io.specs.declared.host_shelf.Source.TheVariants.{Nothing, File, StandardInput}

-- what is still to be read of the open file, as far as the host's files and its standard input tell it
abbrev pub rest_of_source : {F I : Type 0} → (F → Option (List ℕ)) → (I → Option (List ℕ)) → Source F I → Option (List ℕ)
rest_of_source of_file of_input Nothing = Some []
rest_of_source of_file of_input (File file) = of_file file
rest_of_source of_file of_input (StandardInput reader) = of_input reader
