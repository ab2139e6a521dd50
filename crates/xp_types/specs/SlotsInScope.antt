-- Slots of variables in scope.
use Rattle.std.specs.Prelude.{◌≡◌, ℕ, List, [], ◌∷◌, Some}
use Rattle.xp_typed_tree.specs.declared.value_type.ValueType.{ValueType}
use Rattle.xp_types.specs.Scope.{Scope, variable_of}

-- a slot and a type are those of one variable in scope
abbrev pub IsVariable : Scope → ℕ → ValueType → Type 0
IsVariable S slot type = (name : List ℕ) × (variable_of S.variables name ≡ Some (record { slot = slot; ty = type }))

abbrev pub AreVariables : Scope → List (ℕ × ValueType) → Type 0
AreVariables S [] = Unit {0}
AreVariables S (s ∷ slots) = IsVariable S s.0 s.1 × AreVariables S slots
