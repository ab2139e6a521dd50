-- What a plan says of a tree (ISO/IEC 19757-3, clause 6): the outcome of each node under each active pattern, or the first
-- fault, and whether there is a finding.
use Rattle.std.specs.Prelude.{ℕ, ◌+◌, ◌==◌, Bool, false, not, List, [], ◌∷◌, length, Option, None, Some, Result, Ok, Err}
use Rattle.std.specs.Option.{option_or}
use Rattle.std.specs.List.{list_any, range_with_len}
use Rattle.doc_tree.specs.Table.{Table}
use Rattle.doc_tree.specs.Walks.{order}
use Rattle.xp_values.specs.declared.values.Value.{Value}
use Rattle.xp_values.specs.declared.values.EvalFault.{EvalFault}
use Rattle.xp_meaning.specs.Evaluation.{Lets}
use Rattle.sch_compiled.specs.declared.plan.Plan.{Plan}
use Rattle.sch_compiled.specs.declared.findings.Outcome.{Outcome}
use Rattle.sch_compiled.specs.declared.findings.Outcome.TheVariants.{NoRule, Fired, Fault}
use Rattle.sch_compiled.specs.declared.state_fault.StateFault.{StateFault}
use Rattle.sch_compiled.specs.declared.state_fault.StateFault.TheVariants.{InLet, AtNode}
use Rattle.sch_units.specs.Units.{unit_pair, lets_of}

-- an outcome, in which a fault is kept
abbrev pub outcome_of : Result Outcome EvalFault → Outcome
outcome_of (Ok outcome) = outcome
outcome_of (Err f) = Fault f

-- the outcome of a node under a pattern, under the lets in force of the tree
abbrev pub pair_outcome : Plan → Table → ℕ → ℕ → Outcome
pair_outcome plan T p n = outcome_of (unit_pair plan T (lets_of plan T) p n).answer

-- the first of some items that gives something
abbrev pub first_with : {A B : Type 0} → (A → Option B) → List A → Option B
first_with f [] = None
first_with f (x ∷ xs) = option_or (f x) (first_with f xs)

-- the fault of a let in a slot
abbrev pub let_fault : ℕ → Option (Result Value EvalFault) → Option StateFault
let_fault slot None = None
let_fault slot (Some (Ok v)) = None
let_fault slot (Some (Err f)) = Some (InLet slot f)

-- the first fault among lets; the first of them has the slot
abbrev pub first_let_fault : ℕ → Lets → Option StateFault
first_let_fault slot [] = None
first_let_fault slot (outcome ∷ outcomes) = option_or (let_fault slot outcome) (first_let_fault (slot + 1) outcomes)

-- the fault of a node under a pattern
abbrev pub pair_fault : ℕ → ℕ → Outcome → Option StateFault
pair_fault p n NoRule = None
pair_fault p n (Fired rule findings) = None
pair_fault p n (Fault f) = Some (AtNode p n f)

-- the numbers of the active patterns
abbrev pub pattern_numbers : Plan → List ℕ
pattern_numbers plan = range_with_len 0 (length plan.patterns)

-- the first fault of a pattern's nodes in document order
abbrev pub first_node_fault : Plan → Table → ℕ → Option StateFault
first_node_fault plan T p = first_with (λ n. pair_fault p n (pair_outcome plan T p n)) (order T)

-- the first fault: among the lets in force by slot, then among nodes under patterns, pattern by pattern in document order
abbrev pub first_fault : Plan → Table → Option StateFault
first_fault plan T = option_or (first_let_fault 0 (lets_of plan T)) (first_with (first_node_fault plan T) (pattern_numbers plan))

-- whether a rule fires with a finding
abbrev pub has_finding : Outcome → Bool
has_finding NoRule = false
has_finding (Fired rule findings) = not (length findings == 0)
has_finding (Fault f) = false

-- whether some node has a finding under some pattern
abbrev pub finds : Plan → Table → Bool
finds plan T = list_any (λ p. list_any (λ n. has_finding (pair_outcome plan T p n)) (order T)) (pattern_numbers plan)
