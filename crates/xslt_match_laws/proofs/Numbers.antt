-- Which expressions never have a number as their value: those of another type.
use Rattle.std.proofs.Common.{◌≡◌, ℕ, true, false, Ok, refl, ◌∙◌, ap, true≢false}
use Rattle.doc_tree.specs.Table.{Table}
use Rattle.xp_typed_tree.specs.declared.value_type.ValueType.{ValueType}
use Rattle.xp_typed_tree.specs.TypedTree.{TypedTree}
use Rattle.xp_typed_tree.specs.WellTyped.{type_of}
use Rattle.xp_values.specs.declared.values.Value.{Value}
use Rattle.xp_values.specs.declared.values.Value.TheVariants.{NodeSet, Truth, Number, Chars}
use Rattle.xp_values.specs.Conversions.{to_truth}
use Rattle.xp_meaning.specs.declared.context.Context.{Context}
use Rattle.xp_meaning.specs.Paths.{holds_at}
use Rattle.xp_meaning.specs.Evaluation.{Lets, meaning}
use Rattle.xp_meaning_laws.specs.Slots.{type_in}
use Rattle.xp_meaning_laws.proofs.Types.{values_have_types}
use Rattle.xslt_match.specs.Positional.{is_number_type}
use Rattle.xslt_match_laws.specs.inner.Fitted.{Fitted}

-- a value that is no number
abbrev pub Plain : Value → Type 0
Plain (NodeSet nodes) = Unit {0}
Plain (Truth truth) = Unit {0}
Plain (Number number) = ⊥
Plain (Chars characters) = Unit {0}

-- holds at each position, or at none
pub plain_holds : (v : Value) (i : ℕ) → Plain v → holds_at i v ≡ to_truth v
plain_holds (NodeSet nodes) i h = refl
plain_holds (Truth truth) i h = refl
plain_holds (Number number) i h = absurd h
plain_holds (Chars characters) i h = refl

type_plain : (v : Value) (type : ValueType) → type_in v ≡ type → is_number_type type ≡ false → Plain v
type_plain (NodeSet nodes) type is h = tt
type_plain (Truth truth) type is h = tt
type_plain (Number number) type is h = absurd (true≢false (ap is_number_type is ∙ h))
type_plain (Chars characters) type is h = tt

-- a value of an expression whose type isn't that of numbers
pub meaning_plain : (T : Table) (L : Lets) (t : TypedTree) (c : Context) (v : Value) → is_number_type (type_of t) ≡ false → Fitted L t → (meaning T L t c).answer ≡ Ok v → Plain v
meaning_plain T L t c v h fits is = type_plain v (type_of t) (values_have_types T true L t c v fits.0 fits.1 is) h
