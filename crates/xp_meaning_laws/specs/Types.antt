-- Values and the types of expressions (XPath 1.0, section 1).
use Rattle.std.specs.Prelude.{◌≡◌, Bool, Ok}
use Rattle.doc_tree.specs.Table.{Table}
use Rattle.xp_typed_tree.specs.TypedTree.{TypedTree}
use Rattle.xp_typed_tree.specs.WellTyped.{WellTyped, type_of}
use Rattle.xp_typed_tree.specs.Slots.{slots_in}
use Rattle.xp_values.specs.declared.values.Value.{Value}
use Rattle.xp_meaning.specs.declared.context.Context.{Context}
use Rattle.xp_meaning.specs.Evaluation.{Lets, meaning}
use Rattle.xp_meaning_laws.specs.Slots.{type_in, SlotsFit}

-- a value of a well typed expression has the expression's type, where the slots that it names fit
abbrev pub ValuesHaveTypes : Table → Type 0
ValuesHaveTypes T =
    (p : Bool) (L : Lets) (t : TypedTree) (c : Context) (v : Value) → WellTyped p t → SlotsFit L (slots_in t) →
    (meaning T L t c).answer ≡ Ok v → type_in v ≡ type_of t
