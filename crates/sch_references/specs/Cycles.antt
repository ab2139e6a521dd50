-- Cycles of `extends`.
use Rattle.std.specs.Prelude.{ℕ, zero, suc, Bool, ◌&&◌, ◌||◌, List, length}
use Rattle.std.specs.List.{list_any}
use Rattle.std.specs.Option.{option_to_list}
use Rattle.std.specs.Str.{bytes_eq}
use Rattle.sch_model.specs.declared.raw.RawRule.{RawRule}
use Rattle.sch_references.specs.Extends.{extended_by}

-- whether the first name leads to the second by `extends`, in at most so many steps
abbrev pub leads : List RawRule → ℕ → List ℕ → List ℕ → Bool
leads rules zero name id = bytes_eq name id
leads rules (suc steps) name id = bytes_eq name id || list_any (λ next. leads rules steps next id) (extended_by rules name)

-- the same with no bound on the steps: no way without a repetition is longer than there are abstract rules
abbrev pub leads_to : List RawRule → List ℕ → List ℕ → Bool
leads_to rules name id = leads rules (length rules) name id

-- whether what an `extends` of a rule names leads back to that rule, an abstract one
abbrev pub leads_back : List RawRule → RawRule → List ℕ → Bool
leads_back rules rule name = rule.is_abstract && list_any (leads_to rules name) (option_to_list rule.id)
