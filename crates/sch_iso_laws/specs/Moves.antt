-- What a plan says of a tree whose nodes are renumbered (ISO/IEC 19757-3, clause 6).
use Rattle.std.specs.Prelude.{◌≡◌, ℕ, map, option_map}
use Rattle.doc_tree.specs.Laws.{WellFormed}
use Rattle.doc_tree.specs.Table.{Table}
use Rattle.tree_iso.specs.Renumbering.{Renumbers}
use Rattle.xp_typed_tree.specs.TypedTree.{TypedTree}
use Rattle.xp_meaning.specs.Evaluation.{Lets}
use Rattle.xp_iso_laws.specs.Moved.{moved_lets, moved_value}
use Rattle.xp_iso_laws.specs.Moves.{Moves}
use Rattle.sch_compiled.specs.declared.findings.Finding.{Finding}
use Rattle.sch_compiled.specs.declared.findings.Outcome.{Outcome}
use Rattle.sch_compiled.specs.declared.findings.Outcome.TheVariants.{Fault, Fired, NoRule}
use Rattle.sch_compiled.specs.declared.plan.Plan.{Plan}
use Rattle.sch_compiled.specs.declared.state_fault.StateFault.{StateFault}
use Rattle.sch_compiled.specs.declared.state_fault.StateFault.TheVariants.{AtNode, InLet}
use Rattle.sch_units.specs.Units.{lets_of, unit_let, unit_pair}
use Rattle.sch_units.specs.Validity.{finds, first_fault, pair_outcome}

-- a finding, at the node to which its own went
abbrev pub moved_finding : (ℕ → ℕ) → Finding → Finding
moved_finding f finding = record finding { at = f finding.at }

-- an outcome, whose findings are
abbrev pub moved_found : (ℕ → ℕ) → Outcome → Outcome
moved_found f NoRule = NoRule
moved_found f (Fired rule findings) = Fired rule (map (moved_finding f) findings)
moved_found f (Fault kind) = Fault kind

-- under given lets
pub record GivenLetsMove : Type 0 where
  pub lets : (f : ℕ → ℕ) (T U : Table) (L : Lets) (expr : TypedTree) → WellFormed T → WellFormed U → Renumbers f T U →
      Moves f (moved_value f) (unit_let T L expr) (unit_let U (moved_lets f L) expr)
  pub pairs : (f : ℕ → ℕ) (plan : Plan) (T U : Table) (L : Lets) (p n : ℕ) → WellFormed T → WellFormed U → Renumbers f T U →
      Moves f (moved_found f) (unit_pair plan T L p n) (unit_pair plan U (moved_lets f L) p (f n))

-- under the lets in force of each tree
pub record OwnLetsMove : Type 0 where
  pub lets : (f : ℕ → ℕ) (plan : Plan) (T U : Table) → WellFormed T → WellFormed U → Renumbers f T U → lets_of plan U ≡ moved_lets f (lets_of plan T)
  pub outcomes : (f : ℕ → ℕ) (plan : Plan) (T U : Table) (p n : ℕ) → WellFormed T → WellFormed U → Renumbers f T U →
      pair_outcome plan U p (f n) ≡ moved_found f (pair_outcome plan T p n)

-- a fault at a node, at the one to which it went
abbrev pub moved_fault : (ℕ → ℕ) → StateFault → StateFault
moved_fault f (InLet place fault) = InLet place fault
moved_fault f (AtNode pattern n fault) = AtNode pattern (f n) fault

-- what stops a report, and whether there is a finding
pub record VerdictsMove : Type 0 where
  pub faults : (f : ℕ → ℕ) (plan : Plan) (T U : Table) → WellFormed T → WellFormed U → Renumbers f T U →
      first_fault plan U ≡ option_map (moved_fault f) (first_fault plan T)
  pub findings : (f : ℕ → ℕ) (plan : Plan) (T U : Table) → WellFormed T → WellFormed U → Renumbers f T U → finds plan U ≡ finds plan T
