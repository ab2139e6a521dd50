-- The findings of assertions, and the outcomes of nodes under patterns, as they are put and cleared.
use Rattle.std.specs.Prelude.{◌≡◌, ◌≢◌, ℕ, ◌<◌, Bool, true, false, ◌⊎◌, List, length, filter, slice_get, All, IsSomeAnd, Option, None, Some}
use Rattle.std.specs.FinMap as map
use Rattle.std.specs.Ordering.{nat_cmp, on, then_cmp}
use Rattle.std.specs.declared.cmp.Ordering.{Ordering}
use Rattle.doc_tree.specs.Lists.{mem}
use Rattle.doc_tree.specs.Table.{Table, is_live}
use Rattle.doc_tree.specs.Walks.{order}
use Rattle.sch_compiled.specs.declared.parts.PlanAssert.{PlanAssert}
use Rattle.sch_compiled.specs.declared.findings.Finding.{Finding}
use Rattle.sch_compiled.specs.declared.findings.Outcome.{Outcome}
use Rattle.sch_compiled.specs.declared.findings.Outcome.TheVariants.{NoRule, Fired, Fault}

-- a finding has a text for each diagnostic and for each property that the assertion names
pub record HasTextsOf (finding : Finding) (assertion : PlanAssert) : Type 0 where
  pub diagnostics : length finding.diagnostics ≡ length assertion.diagnostics
  pub properties : length finding.properties ≡ length assertion.properties

-- a finding is one of some assertions: it has the texts of the one that it names
abbrev pub IsFindingOf : List PlanAssert → Finding → Type 0
IsFindingOf assertions finding = IsSomeAnd (slice_get assertions finding.assertion) (HasTextsOf finding)

-- a finding is at a live node
abbrev pub IsAtLiveNode : Table → Finding → Type 0
IsAtLiveNode T finding = is_live T finding.at ≡ true

-- so is all that an outcome finds
abbrev pub FindsAtLiveNodes : Table → Outcome → Type 0
FindsAtLiveNodes T NoRule = Unit {0}
FindsAtLiveNodes T (Fired rule findings) = All (IsAtLiveNode T) findings
FindsAtLiveNodes T (Fault kind) = Unit {0}

-- the order of the pairs of a pattern and a node: by node, then by pattern
abbrev pub pair_cmp : (ℕ × ℕ) → (ℕ × ℕ) → Ordering
pair_cmp = then_cmp (on (λ pair. pair.1) nat_cmp) (on (λ pair. pair.0) nat_cmp)

-- for how many patterns, and the outcome of each pattern and node that has one
pub record OutcomeTable : Type 0 where
  pub patterns : ℕ
  pub outcomes : map.FinMap pair_cmp Outcome

-- the outcome of a node under a pattern, None where there is none
abbrev pub outcome_at : OutcomeTable → ℕ → ℕ → Option Outcome
outcome_at table pattern node = map.get table.outcomes (pattern, node)

-- an empty table for so many patterns
pub record IsEmptyFor (table : OutcomeTable) (count : ℕ) : Type 0 where
  pub patterns : table.patterns ≡ count
  pub empty : table.outcomes ≡ map.empty

-- the node has this outcome, or none, under the pattern; all else stays
pub record Puts (before after : OutcomeTable) (pattern node : ℕ) (outcome : Option Outcome) : Type 0 where
  pub patterns : after.patterns ≡ before.patterns
  pub there : outcome_at after pattern node ≡ outcome
  pub others : (p n : ℕ) → (p ≢ pattern) ⊎ (n ≢ node) → outcome_at after p n ≡ outcome_at before p n

-- whether an outcome is there and tells something: a rule fires, or a fault was met
abbrev pub is_told : Option Outcome → Bool
is_told None = false
is_told (Some NoRule) = false
is_told (Some (Fired rule findings)) = true
is_told (Some (Fault kind)) = true

-- these are the nodes of which something is told under one of the patterns
pub record AreTold (table : OutcomeTable) (nodes : List ℕ) : Type 0 where
  pub all : (pattern node : ℕ) → pattern < table.patterns → is_told (outcome_at table pattern node) ≡ true → mem node nodes ≡ true
  pub alone : (node : ℕ) → mem node nodes ≡ true → (pattern : ℕ) × (pattern < table.patterns) × (is_told (outcome_at table pattern node) ≡ true)

-- nodes of a tree in document order, among them all of which something is told
pub record ToldInOrder (T : Table) (table : OutcomeTable) (nodes : List ℕ) : Type 0 where
  pub among : ℕ → Bool
  pub in_order : nodes ≡ filter among (order T)
  pub all : (pattern node : ℕ) → pattern < table.patterns → is_told (outcome_at table pattern node) ≡ true → among node ≡ true
