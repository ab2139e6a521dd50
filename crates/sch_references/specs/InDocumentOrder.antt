-- The first broken rule on names by document order: the elements at which these rules can be broken stand in a document.
use Rattle.std.specs.Prelude.{◌≡◌, ℕ, ◌≤◌, ◌⊎◌, ◌↔◌, true, List}
use Rattle.doc_tree.specs.InOrder.{IsInOrder}
use Rattle.doc_tree.specs.Order.{is_before}
use Rattle.doc_tree.specs.Table.{Table}
use Rattle.sch_model.specs.declared.fault.SchemaFault.{SchemaFault}
use Rattle.sch_rules.specs.RawSchema.{raw_schema}
use Rattle.sch_references.specs.Places.{BrokenAmong, IsFirstAmong, Place}
use Rattle.sch_references.specs.References.{reference_places}

-- a rule is broken, and each broken rule stands at a later place in document order, or there with no less number
pub record IsFirstInOrder (T : Table) (places : List Place) (f : SchemaFault) : Type 0 where
  pub broken : BrokenAmong places f.rule f.node f.name
  pub no_other : (rule n : ℕ) (name : List ℕ) → BrokenAmong places rule n name → (is_before T f.node n ≡ true) ⊎ ((f.node ≡ n) × (f.rule ≤ rule))

-- where the numbers stand in document order, the first rule that a document breaks as a schema by numbers is the first in that order
abbrev pub FirstInOrder : Type 0
FirstInOrder = (T : Table) → IsInOrder T → (f : SchemaFault) →
    IsFirstAmong (reference_places (raw_schema T)) f ↔ IsFirstInOrder T (reference_places (raw_schema T)) f
