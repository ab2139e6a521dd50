-- What an `extends` stands for (ISO/IEC 19757-3, section 5.4.5): the lets and assertions of an abstract rule.
use Rattle.std.specs.Prelude.{◌≡◌, ℕ, zero, suc, List, [], ◌∷◌, length}
use Rattle.std.specs.List.{flat_map}
use Rattle.sch_model.specs.declared.raw.RawItem.{RawItem}
use Rattle.sch_model.specs.declared.raw.RawItem.TheVariants as item
use Rattle.sch_model.specs.declared.raw.RawRule.{RawRule}
use Rattle.sch_references.specs.Extends.{items_named}

-- an item in its place: an `extends` gives way to what the rule that it names stands for
abbrev pub replaced : (List ℕ → List RawItem) → RawItem → List RawItem
replaced stands (item.Let decl) = item.Let decl ∷ []
replaced stands (item.Assertion assertion) = item.Assertion assertion ∷ []
replaced stands (item.Extends node name) = stands name

-- what the rule with an id stands for: its items, each `extends` among them replaced likewise, so many levels deep
abbrev pub stands : List RawRule → ℕ → List ℕ → List RawItem
stands rules zero name = []
stands rules (suc levels) name = flat_map (replaced (stands rules levels)) (items_named rules name)

-- the same with no bound on the levels: where no `extends` lies on a cycle, none goes deeper than there are abstract rules
abbrev pub stands_for : List RawRule → List ℕ → List RawItem
stands_for rules name = stands rules (length rules) name

-- each abstract rule stands for its items with each `extends` among them replaced
abbrev pub ExtendsAreReplaced : List RawRule → Type 0
ExtendsAreReplaced rules =
    (name : List ℕ) → stands_for rules name ≡ flat_map (replaced (stands_for rules)) (items_named rules name)
