-- Lets, and what an expression sees: the prefixes of the schema, and the lets before it that are in scope (ISO/IEC 19757-3, sections
-- 5.4.6 and 5.4.7).
use Rattle.std.specs.Prelude.{ℕ, Bool, true, false, suc, List, [], ◌∷◌, ◌++◌, is_some, if◌then◌else◌}
use Rattle.sch_model.specs.declared.parts.LetDecl.{LetDecl}
use Rattle.sch_model.specs.declared.parts.Ns.{Ns}
use Rattle.xp_typed_tree.specs.declared.value_type.ValueType.{ValueType}
use Rattle.xp_typed_tree.specs.WellTyped.{type_of}
use Rattle.xp_types.specs.Scope.{Binding, Named, Scope, bound, variable_of}
use Rattle.sch_compiled.specs.declared.parts.PlanLet.{PlanLet}
use Rattle.sch_plan.specs.Broken.{second_let}
use Rattle.sch_plan.specs.Expressions.{expression}
use Rattle.sch_phases.specs.Walk.{Stretch, Then, Unless, each, goes}

-- what is seen at a place of the walk: prefixes, variables with the slots of their values, and the slot of the next let
pub record Seen : Type 0 where
  pub prefixes : List Binding
  pub variables : List Named
  pub next : ℕ

abbrev pub scope : Seen → Scope
scope seen = record { in_pattern = false; prefixes = seen.prefixes; variables = seen.variables }

abbrev pub pattern_scope : Seen → Scope
pattern_scope seen = record { in_pattern = true; prefixes = seen.prefixes; variables = seen.variables }

-- the prefixes of a schema; of two that are the same the first counts
abbrev pub with_prefix : List Binding → Ns → List Binding
with_prefix bindings ns = if is_some (bound bindings ns.prefix) then bindings else bindings ++ record { prefix = ns.prefix; uri = ns.uri } ∷ []

abbrev pub with_prefixes : List Binding → List Ns → List Binding
with_prefixes bindings [] = bindings
with_prefixes bindings (ns ∷ more) = with_prefixes (with_prefix bindings ns) more

-- what a schema's first let sees
abbrev pub nothing_before : List Ns → Seen
nothing_before ns = record { prefixes = with_prefixes [] ns; variables = []; next = 0 }

-- a let is seen by what comes after it
abbrev pub seen_after : Seen → List ℕ → ValueType → Seen
seen_after seen name type = record seen {
  variables = seen.variables ++ record { name = name; place = seen.next; type = type } ∷ [];
  next = suc seen.next;
}

abbrev pub is_seen : Seen → List ℕ → Bool
is_seen seen name = is_some (variable_of seen.variables name)

abbrev pub one_let : Seen → LetDecl → Stretch (Seen × PlanLet)
one_let seen its =
    Unless (is_seen seen its.name) (second_let its.node its.name)
    (Then (expression (scope seen) its.node its.value) (λ t. goes (seen_after seen its.name (type_of t), record { name = its.name; expr = t })))

abbrev pub all_lets : Seen → List LetDecl → Stretch (Seen × List PlanLet)
all_lets = each one_let
