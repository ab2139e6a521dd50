-- The plan of a phase: the schema's lets, then those of the phase, then each active pattern in order (ISO/IEC 19757-3, section 6.5).
use Rattle.std.specs.Prelude.{ℕ, ◌+◌, suc, Bool, nat_lt, List, [], ◌∷◌, ◌++◌, Option, None, Some, length, map}
use Rattle.sch_base.specs.declared.limits.TheConstants.{MAX_ACTIVE_PATTERNS}
use Rattle.sch_model.specs.declared.flat.FlatPattern.{FlatPattern}
use Rattle.sch_model.specs.declared.flat.FlatSchema.{FlatSchema}
use Rattle.sch_model.specs.declared.parts.Head.{Head}
use Rattle.sch_model.specs.declared.parts.LetDecl.{LetDecl}
use Rattle.sch_model.specs.declared.parts.Ns.{Ns}
use Rattle.sch_compiled.specs.declared.parts.LetInForce.{LetInForce}
use Rattle.sch_compiled.specs.declared.plan.Plan.{Plan}
use Rattle.sch_compiled.specs.declared.parts.PlanLet.{PlanLet}
use Rattle.sch_compiled.specs.declared.parts.PlanNs.{PlanNs}
use Rattle.sch_compiled.specs.declared.parts.PlanPattern.{PlanPattern}
use Rattle.sch_phases.specs.declared.phases.Choice.{Choice}
use Rattle.sch_plan.specs.declared.walker.PatternParts.{PatternParts}
use Rattle.sch_plan.specs.Broken.{too_many_patterns}
use Rattle.sch_plan.specs.Lets.{Seen, all_lets, nothing_before}
use Rattle.sch_phases.specs.Phases.{chosen}
use Rattle.sch_plan.specs.Rules.{Notes, all_patterns, notes_of}
use Rattle.sch_phases.specs.Walk.{Stretch, Then, Unless, goes}

abbrev pub lets_of_patterns : List FlatPattern → ℕ
lets_of_patterns [] = 0
lets_of_patterns (p ∷ ps) = length p.lets + lets_of_patterns ps

-- how many lets are in force
abbrev pub let_count : List LetDecl → Choice → ℕ
let_count lets choice = length lets + (length choice.lets + lets_of_patterns choice.patterns)

abbrev pub in_force : Option ℕ → PlanLet → LetInForce
in_force pattern its = record { pattern = pattern; name = its.name; expr = its.expr }

-- the lets of the patterns, which are counted from `place` on
abbrev pub pattern_lets : ℕ → List PatternParts → List LetInForce
pattern_lets place [] = []
pattern_lets place (p ∷ ps) = map (in_force (Some place)) p.lets ++ pattern_lets (suc place) ps

abbrev pub plan_pattern : PatternParts → PlanPattern
plan_pattern p = record { id = p.id; rules = p.rules }

abbrev pub plan_ns : Ns → PlanNs
plan_ns ns = record { prefix = ns.prefix; uri = ns.uri }

abbrev pub plan_of : Head → List Ns → Option (List ℕ) → List LetInForce → List PatternParts → Plan
plan_of head ns phase lets patterns = record {
  title = head.title;
  schema_version = head.schema_version;
  phase = phase;
  namespaces = map plan_ns ns;
  lets = lets ++ pattern_lets 0 patterns;
  patterns = map plan_pattern patterns;
}

-- the lets of the schema and of the phase
abbrev pub global_lets : Seen → List LetDecl → List LetDecl → Stretch (Seen × List LetInForce)
global_lets seen lets phase_lets =
    Then (all_lets seen lets) (λ own.
    Then (all_lets own.0 phase_lets) (λ its. goes (its.0, map (in_force None) (own.1 ++ its.1))))

abbrev pub walk : Head → List Ns → List LetDecl → Notes → Choice → Stretch Plan
walk head ns lets notes choice =
    Then (global_lets (nothing_before ns) lets choice.lets) (λ globals.
    Then (all_patterns notes (let_count lets choice) globals.0 choice.patterns) (λ patterns.
    goes (plan_of head ns choice.phase globals.1 patterns.1)))

abbrev pub are_too_many : List FlatPattern → Bool
are_too_many patterns = nat_lt MAX_ACTIVE_PATTERNS (length patterns)

-- 20, then 21, then what the walk meets
abbrev pub compiled : FlatSchema → List ℕ → Stretch Plan
compiled schema phase =
    Then (chosen schema.head schema.phases schema.patterns phase) (λ choice.
    Unless (are_too_many choice.patterns) (too_many_patterns schema.head.node)
    (walk schema.head schema.ns schema.lets (notes_of schema.diagnostics schema.properties) choice))
