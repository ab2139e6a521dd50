-- How declarations in scope are kept: in the order in which they came, each with the number of its prefix and the place
-- of the one that it shadows.
use Rattle.std.specs.Prelude.{◌≡◌, ℕ, ◌<◌, ◌==◌, List, [], ◌∷◌, ◌++◌, length, Option, None, Some, if◌then◌else◌, slice_index_or}
use Rattle.name_scopes.specs.declared.scope.Binding.{Binding}
use Rattle.doc_tree.specs.Scope.{Decl}

-- a list with its last item first
abbrev pub newest_first : {A : Type 0} → List A → List A
newest_first [] = []
newest_first (x ∷ xs) = newest_first xs ++ x ∷ []

-- the declaration that a binding is, where these words are the prefixes
abbrev pub bound : List (List ℕ) → Binding → Decl
bound words binding = (slice_index_or words binding.number [], binding.uri)

abbrev pub uri_of : Binding → List ℕ
uri_of binding = binding.uri

-- the place of the nearest binding of a prefix, among bindings with the newest first
abbrev pub nearest_at : List Binding → ℕ → Option ℕ
nearest_at [] number = None
nearest_at (binding ∷ older) number = if binding.number == number then Some (length older) else nearest_at older number

-- each binding names the one that it shadows
abbrev pub Shadow : ℕ → List Binding → Type 0
Shadow count [] = Unit {0}
Shadow count (binding ∷ older) = (binding.number < count) × (binding.shadowed ≡ nearest_at older binding.number) × Shadow count older

-- what holds of what is kept
pub record Bound (words : List (List ℕ)) (bindings : List Binding) (latest : List (Option ℕ)) : Type 0 where
  pub shadow : Shadow (length words) (newest_first bindings)
  pub nearest : (number : ℕ) → slice_index_or latest number None ≡ nearest_at (newest_first bindings) number
