-- What all units of a plan came to.
use Rattle.std.specs.Prelude.{◌≡◌, None, Some}
use Rattle.doc_tree.specs.Table.{Table}
use Rattle.sch_compiled.specs.declared.plan.Plan.{Plan}
use Rattle.sch_units.specs.Validity.{finds, first_fault}
use Rattle.state_run.specs.declared.scanning.Evaluated.{Evaluated}
use Rattle.state_run.specs.declared.scanning.Evaluated.TheVariants.{Whole, Faulted}

-- no unit has a fault, and it is known whether one has a finding; or this is the first fault
abbrev pub Evaluates : Plan → Table → Evaluated → Type 0
Evaluates plan T (Whole found) = (first_fault plan T ≡ None) × (found ≡ finds plan T)
Evaluates plan T (Faulted fault) = first_fault plan T ≡ Some fault
