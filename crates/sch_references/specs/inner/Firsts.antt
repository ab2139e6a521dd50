-- The first use of each id among rules.
use Rattle.std.specs.Prelude.{ℕ, ◌+◌, Bool, false, not, List, [], ◌∷◌, ◌++◌, Option, None, Some, if◌then◌else◌}
use Rattle.std.specs.List.{fold}
use Rattle.sch_model.specs.declared.raw.RawItem.{RawItem}
use Rattle.sch_model.specs.declared.raw.RawRule.{RawRule}
use Rattle.sch_references.specs.Extends.{is_named}

-- whether there is an id that none of the rules has
abbrev pub is_new : List RawRule → Option (List ℕ) → Bool
is_new rules None = false
is_new rules (Some id) = not (is_named rules id)

-- the rules, and one more if it has a new id
abbrev pub with_rule : List RawRule → RawRule → List RawRule
with_rule rules rule = if is_new rules rule.id then rules ++ rule ∷ [] else rules

-- the rules with more after them, each the first with its id
abbrev pub with_rules : List RawRule → List RawRule → List RawRule
with_rules rules more = fold with_rule rules more

-- what the rules weigh by their items whose ids the found ones do not have
abbrev pub left : (List RawItem → ℕ) → List RawRule → List RawRule → ℕ
left weight [] found = 0
left weight (rule ∷ rules) found = (if is_new found rule.id then weight rule.items else 0) + left weight rules found
