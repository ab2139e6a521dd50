-- The choice of a phase (ISO/IEC 19757-3, sections 5.4.10 and 6.3): which lets besides the schema's are in force, and which patterns
-- are active.
use Rattle.std.specs.Prelude.{ℕ, Bool, true, false, List, [], ◌∷◌, Option, None, Some, codes, filter, if◌then◌else◌}
use Rattle.std.specs.List.{list_any}
use Rattle.std.specs.Str.{bytes_eq}
use Rattle.sch_model.specs.declared.fault.SchemaFault.{SchemaFault}
use Rattle.sch_model.specs.declared.flat.FlatPattern.{FlatPattern}
use Rattle.sch_model.specs.declared.parts.Active.{Active}
use Rattle.sch_model.specs.declared.parts.Head.{Head}
use Rattle.sch_model.specs.declared.parts.Phase.{Phase}
use Rattle.sch_phases.specs.declared.phases.Choice.{Choice}
use Rattle.sch_phases.specs.Walk.{Stretch, goes, stops}

-- 20: there is no such phase
abbrev pub no_phase : ℕ → List ℕ → SchemaFault
no_phase node phase = record { rule = 20; node = node; name = phase }

abbrev pub phase_of : List Phase → List ℕ → Option Phase
phase_of [] name = None
phase_of (p ∷ ps) name = if bytes_eq name p.id then Some p else phase_of ps name

abbrev pub default_name : Option (List ℕ) → List ℕ
default_name None = codes "#ALL"
default_name (Some name) = name

-- `#DEFAULT` is the schema's default, and all patterns for want of one
abbrev pub chosen_name : Head → List ℕ → List ℕ
chosen_name head phase = if bytes_eq phase (codes "#DEFAULT") then default_name head.default_phase else phase

-- whether an id is that of a pattern which a phase makes active
abbrev pub is_active : List Active → List ℕ → Bool
is_active active id = list_any (λ a. bytes_eq id a.pattern) active

abbrev pub is_named : (List ℕ → Bool) → Option (List ℕ) → Bool
is_named test None = false
is_named test (Some id) = test id

abbrev pub active_patterns : List Active → List FlatPattern → List FlatPattern
active_patterns active patterns = filter (λ p. is_named (is_active active) p.id) patterns

-- the choice of a phase: its own lets, and the patterns that it makes active, in the order of the schema
abbrev pub choice_of : List FlatPattern → Phase → Choice
choice_of patterns phase = record { phase = Some phase.id; lets = phase.lets; patterns = active_patterns phase.active patterns }

abbrev pub all_chosen : List FlatPattern → Choice
all_chosen patterns = record { phase = None; lets = []; patterns = patterns }

-- 20: the name is that of no phase
abbrev pub of_phase : ℕ → List ℕ → List FlatPattern → Option Phase → Stretch Choice
of_phase node name patterns None = stops (no_phase node name)
of_phase node name patterns (Some phase) = goes (choice_of patterns phase)

-- `#ALL` is no phase, and chooses all patterns
abbrev pub chosen_by : Bool → Head → List Phase → List FlatPattern → List ℕ → Stretch Choice
chosen_by true head phases patterns name = goes (all_chosen patterns)
chosen_by false head phases patterns name = of_phase head.node name patterns (phase_of phases name)

abbrev pub chosen : Head → List Phase → List FlatPattern → List ℕ → Stretch Choice
chosen head phases patterns phase = chosen_by (bytes_eq (chosen_name head phase) (codes "#ALL")) head phases patterns (chosen_name head phase)
