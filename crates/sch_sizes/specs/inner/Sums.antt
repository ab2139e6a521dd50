-- What a pattern amounts to: as it is found, with what each name extends looked up, and as it is meant.
use Rattle.std.specs.Prelude.{ℕ, Bool, true, false, not, ◌&&◌, List, [], ◌∷◌, if◌then◌else◌, slice_get}
use Rattle.std.specs.Option.{option_map_or}
use Rattle.std.specs.List.{flat_map, list_any}
use Rattle.sch_model.specs.declared.flat.FlatPattern.{FlatPattern}
use Rattle.sch_model.specs.declared.flat.FlatRule.{FlatRule}
use Rattle.sch_model.specs.declared.raw.RawItem.{RawItem}
use Rattle.sch_model.specs.declared.raw.RawItem.TheVariants as item
use Rattle.sch_model.specs.declared.raw.RawPattern.{RawPattern}
use Rattle.sch_model.specs.declared.raw.RawRule.{RawRule}
use Rattle.sch_expansion.specs.Flat.{concrete_rules}
use Rattle.sch_expansion.specs.Stands.{replaced}
use Rattle.sch_references.specs.Extends.{is_id}
use Rattle.sch_sizes.specs.declared.amount.Amount.{Amount}
use Rattle.sch_sizes.specs.inner.Amounts.{cap, nothing, plus, sum_all}
use Rattle.sch_sizes.specs.inner.Weights.{FlatWeights, Weights}

-- the amount at a place
abbrev pub amount_at : List Amount → ℕ → Amount
amount_at amounts place = option_map_or (λ amount. amount) (slice_get amounts place) nothing

-- the amount of the first rule with this id, where the amounts of some rules in front are known
abbrev pub looked : List Amount → List RawRule → List ℕ → Amount
looked [] ordered name = nothing
looked (amount ∷ amounts) [] name = nothing
looked (amount ∷ amounts) (rule ∷ ordered) name = if is_id name rule.id then amount else looked amounts ordered name

-- as it is found
abbrev pub item_found : Weights → (List ℕ → Amount) → RawItem → Amount
item_found weights look (item.Let decl) = cap (weights.let_weight decl)
item_found weights look (item.Assertion assertion) = cap (weights.assertion_weight assertion)
item_found weights look (item.Extends node name) = look name

abbrev pub items_found : Weights → (List ℕ → Amount) → List RawItem → Amount
items_found weights look items = cap (sum_all (item_found weights look) items)

abbrev pub rule_found : Weights → (List ℕ → Amount) → RawRule → Amount
rule_found weights look rule =
    if rule.is_abstract then nothing else cap (plus (cap (weights.rule_weight rule)) (items_found weights look rule.items))

abbrev pub pattern_found : Weights → (List ℕ → Amount) → RawPattern → RawPattern → Amount
pattern_found weights look pattern origin =
    cap (plus (cap (weights.pattern_weight pattern))
    (cap (plus (cap (sum_all (λ decl. cap (weights.let_weight decl)) origin.lets)) (cap (sum_all (rule_found weights look) origin.rules)))))

-- as it is meant
abbrev pub item_meant : Weights → RawItem → Amount
item_meant weights (item.Let decl) = weights.let_weight decl
item_meant weights (item.Assertion assertion) = weights.assertion_weight assertion
item_meant weights (item.Extends node name) = nothing

abbrev pub items_meant : Weights → (List ℕ → List RawItem) → List RawItem → Amount
items_meant weights stands items = sum_all (item_meant weights) (flat_map (replaced stands) items)

abbrev pub rule_meant : Weights → (List ℕ → List RawItem) → RawRule → Amount
rule_meant weights stands rule = plus (weights.rule_weight rule) (items_meant weights stands rule.items)

abbrev pub pattern_meant : Weights → (List ℕ → List RawItem) → RawPattern → RawPattern → Amount
pattern_meant weights stands pattern origin =
    plus (weights.pattern_weight pattern)
    (plus (sum_all weights.let_weight origin.lets) (sum_all (rule_meant weights stands) (concrete_rules origin)))

-- what a pattern without abstract parts amounts to
abbrev pub flat_rule_amount : FlatWeights → FlatRule → Amount
flat_rule_amount weights rule =
    plus (weights.flat_rule rule) (plus (sum_all weights.flat_let rule.lets) (sum_all weights.flat_assertion rule.assertions))

abbrev pub flat_amount : FlatWeights → FlatPattern → Amount
flat_amount weights pattern =
    plus (weights.flat_pattern pattern)
    (plus (sum_all weights.flat_let pattern.lets) (sum_all (flat_rule_amount weights) pattern.rules))

-- whether an item is an `extends`, and whether a rule that isn't abstract has one
abbrev pub is_extends : RawItem → Bool
is_extends (item.Let _) = false
is_extends (item.Assertion _) = false
is_extends (item.Extends _ _) = true

abbrev pub extends_some : RawRule → Bool
extends_some rule = not rule.is_abstract && list_any is_extends rule.items
