-- The line that stands in the place of a report where an evaluation faulted: an instruction in PYX.
use Rattle.std.specs.Prelude.{◌≡◌, ℕ, ◌+◌, ◌<◌, true, List, [], ◌++◌, length, codes, Option, None, Some, slice_get}
use Rattle.std.specs.Fmt.{decimal}
use Rattle.std.specs.Option.{option_map_or}
use Rattle.pyx_write.specs.Written.{pi_line}
use Rattle.doc_tree.specs.Table.{Table, is_live}
use Rattle.xp_values.specs.FaultNames.{fault_name}
use Rattle.sch_compiled.specs.declared.plan.Plan.{Plan}
use Rattle.sch_compiled.specs.declared.state_fault.StateFault.{StateFault}
use Rattle.sch_compiled.specs.declared.state_fault.StateFault.TheVariants.{InLet, AtNode}
use Rattle.doc_locations.specs.Locations.{location_of}

-- the number of an active pattern, counted from 1
abbrev pub pattern_number : ℕ → List ℕ
pattern_number p = decimal (p + 1)

-- a fault in a let of that name: of the schema or the phase, or of an active pattern
abbrev pub let_fault : List ℕ → List ℕ → Option ℕ → List ℕ
let_fault kind name None = kind ++ (codes " let " ++ name)
let_fault kind name (Some p) = kind ++ (codes " pattern " ++ (pattern_number p ++ (codes " let " ++ name)))

-- a fault under an active pattern at a location
abbrev pub node_fault : List ℕ → ℕ → List ℕ → List ℕ
node_fault kind p location = kind ++ (codes " pattern " ++ (pattern_number p ++ (codes " at " ++ location)))

-- which fault it is, and where
abbrev pub fault_text : Plan → Table → StateFault → List ℕ
fault_text plan T (InLet slot kind) = option_map_or (λ held. let_fault (fault_name kind) held.name held.pattern) (slice_get plan.lets slot) []
fault_text plan T (AtNode p n kind) = node_fault (fault_name kind) p (location_of T n)

-- the line of a fault
abbrev pub fault_line : Plan → Table → StateFault → List ℕ
fault_line plan T fault = pi_line (codes "fault") (fault_text plan T fault)

-- the fault names a let of the plan, or a live node
abbrev pub IsFaultOf : Plan → Table → StateFault → Type 0
IsFaultOf plan T (InLet slot kind) = slot < length plan.lets
IsFaultOf plan T (AtNode p n kind) = is_live T n ≡ true
