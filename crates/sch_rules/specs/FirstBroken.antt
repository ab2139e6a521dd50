-- The first broken rule: of the first place in document order the one with the least number.
use Rattle.std.specs.Prelude.{◌≡◌, ℕ, ◌≤◌, ◌⊎◌, true, false, List, [], ◌∷◌, ◌++◌, Option, None, Some, if◌then◌else◌}
use Rattle.std.specs.List.{flat_map}
use Rattle.std.specs.Option.{option_or}
use Rattle.doc_tree.specs.Lists.{mem}
use Rattle.doc_tree.specs.Table.{Table}
use Rattle.doc_tree.specs.Walks.{order}
use Rattle.sch_model.specs.declared.fault.SchemaFault.{SchemaFault}
use Rattle.sch_rules.specs.Elements.{is_ignored}
use Rattle.sch_rules.specs.Keys.{Key, keys_at}
use Rattle.sch_rules.specs.Rules.{rules}

-- one of the rules has this number and gives this name
abbrev pub Gives : List (ℕ × Option (List ℕ)) → ℕ → List ℕ → Type 0
Gives [] rule name = ⊥
Gives (r ∷ rs) rule name = ((r.0 ≡ rule) × (r.1 ≡ Some name)) ⊎ Gives rs rule name

-- a rule is broken at a place of the document, where the names of the places before it are used
pub record Broken (T : Table) (rule n : ℕ) (name : List ℕ) : Type 0 where
  pub before : List ℕ
  pub after : List ℕ
  pub place : order T ≡ before ++ n ∷ after
  pub counts : is_ignored T n ≡ false
  pub gives : Gives (rules T (flat_map (keys_at T) before) n) rule name

-- a rule is broken, and each broken rule stands at that place with no less number, or at a later place
pub record IsFirst (T : Table) (f : SchemaFault) : Type 0 where
  pub broken : Broken T f.rule f.node f.name
  pub no_other : (rule n : ℕ) (name : List ℕ) (other : Broken T rule n name) →
      ((f.node ≡ n) × (f.rule ≤ rule)) ⊎ (mem f.node other.before ≡ true)

-- the same as a function: the rules of a place by number, and the places in order
abbrev pub fault_of : ℕ → ℕ → Option (List ℕ) → Option SchemaFault
fault_of n rule None = None
fault_of n rule (Some name) = Some (record { rule = rule; node = n; name = name })

abbrev pub least : ℕ → List (ℕ × Option (List ℕ)) → Option SchemaFault
least n [] = None
least n (r ∷ rs) = option_or (fault_of n r.0 r.1) (least n rs)

abbrev pub fault_at : Table → List Key → ℕ → Option SchemaFault
fault_at T taken n = if is_ignored T n then None else least n (rules T taken n)

abbrev pub first_over : Table → List Key → List ℕ → Option SchemaFault
first_over T taken [] = None
first_over T taken (n ∷ ns) = option_or (fault_at T taken n) (first_over T (taken ++ keys_at T n) ns)

-- the first rule that a document breaks
abbrev pub first_broken : Table → Option SchemaFault
first_broken T = first_over T [] (order T)

-- the function gives just the first broken rule, and none where no rule is broken
pub record FirstAgrees (T : Table) : Type 0 where
  pub is_first : (f : SchemaFault) → first_broken T ≡ Some f → IsFirst T f
  pub is_found : (f : SchemaFault) → IsFirst T f → first_broken T ≡ Some f
  pub none_broken : first_broken T ≡ None → (rule n : ℕ) (name : List ℕ) → Broken T rule n name → ⊥
