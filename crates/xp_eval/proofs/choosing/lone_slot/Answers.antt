use Rattle.std.proofs.Common.{◌≡◌, ℕ, Some, ◌∙◌, sym}
use Rattle.doc_tree.specs.Table.{Table}
use Rattle.xp_typed_tree.specs.TypedView.{typed_tree_of, typed_seen}
use Rattle.xp_outcome.specs.Evaluation.{visit, reading, variable}
use Rattle.xp_outcome.specs.Slots.{in_slot}
use Rattle.xp_meaning.specs.declared.context.Context.{Context}
use Rattle.xp_meaning.specs.Evaluation.{Lets, meaning, meanings, values, slot_value}
use Rattle.xp_eval.specs.inner.Wants.{wanted_by, lone_let}
use Rattle.xp_eval.proofs.LoneLets.{lifted, lone_values}
use Rattle.xp_eval.proofs.choosing.lone_slot.Goals as goal

pub returns-then-is_as_it_is : goal.returns-then-is_as_it_is
returns-then-is_as_it_is c =
    lifted
    (λ (slot : ℕ). (T : Table) (L : Lets) (at : Context) → meaning T L (typed_tree_of c.in-Some.operand.now) at ≡ visit (reading (variable slot) (slot_value (in_slot L slot))))
    (λ (slot : ℕ). (T : Table) (L : Lets) (at : Context) → values T (wanted_by (Some c.args.function)) (meanings T L (typed_seen c.args.operands.now)) at ≡ lone_let L slot)
    c.slot_of.result
    (λ slot is T L at. lone_values T L at c.args.function slot c.in-Some.operand.now c.args.operands.now c.in-Some.ensures (sym c.wanted.ensures ∙ c.is_as_it_is.ensures c.if-is_as_it_is.true) (is T L at))
    c.slot_of.ensures
