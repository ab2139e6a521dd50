-- What a meaning depends on of the lets: the slots that the expression names.
use Rattle.std.specs.Prelude.{◌≡◌, ℕ, List}
use Rattle.std.specs.List.{AllByRecursion as Each}
use Rattle.doc_tree.specs.Table.{Table}
use Rattle.xp_typed_tree.specs.declared.value_type.ValueType.{ValueType}
use Rattle.xp_typed_tree.specs.TypedTree.{TypedTree}
use Rattle.xp_typed_tree.specs.Slots.{slots_in}
use Rattle.xp_outcome.specs.Slots.{in_slot}
use Rattle.xp_meaning.specs.declared.context.Context.{Context}
use Rattle.xp_meaning.specs.Evaluation.{Lets, meaning}

-- two tables of lets have the same in each of some slots
abbrev pub SlotsAgree : Lets → Lets → List (ℕ × ValueType) → Type 0
SlotsAgree L M slots = Each (λ s. in_slot L s.0 ≡ in_slot M s.0) slots

-- where they agree on the slots that an expression names, it gives the same, reads the same and costs the same
abbrev pub MeaningNeedsSlotsAlone : Type 0
MeaningNeedsSlotsAlone = (T : Table) (L M : Lets) (t : TypedTree) (c : Context) → SlotsAgree L M (slots_in t) → meaning T L t c ≡ meaning T M t c
