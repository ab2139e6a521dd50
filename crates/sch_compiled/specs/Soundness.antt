-- When a plan is sound: its counts fit the program's numbers, and each expression takes variables only from the slots of lets
-- that it sees, each for the type that the let's value has (ISO/IEC 19757-3, on `let`).
use Rattle.std.specs.Prelude.{◌≡◌, ℕ, suc, ◌+◌, ◌^◌, ◌<◌, ◌==◌, Bool, true, false, List, [], ◌∷◌, ◌++◌, length, take, All, Contains, Option, None, Some, IfSome, option_to_list, slice_get, if◌then◌else◌}
use Rattle.std.specs.List.{flat_map}
use Rattle.xp_typed_tree.specs.declared.value_type.ValueType.{ValueType}
use Rattle.xp_typed_tree.specs.declared.value_type.ValueType.TheVariants as types
use Rattle.xp_typed_tree.specs.TypedTree.{TypedTree}
use Rattle.xp_typed_tree.specs.Slots.{slots_in, slots_in_paths}
use Rattle.xp_typed_tree.specs.WellTyped.{type_of}
use Rattle.sch_compiled.specs.declared.parts.PlanLet.{PlanLet}
use Rattle.sch_compiled.specs.declared.parts.PlanPart.{PlanPart}
use Rattle.sch_compiled.specs.declared.parts.PlanPart.TheVariants.{Chars, ValueOf, Name}
use Rattle.sch_compiled.specs.declared.parts.PlanAssert.{PlanAssert}
use Rattle.sch_compiled.specs.declared.parts.PlanRule.{PlanRule}
use Rattle.sch_compiled.specs.declared.parts.LetInForce.{LetInForce}
use Rattle.sch_compiled.specs.declared.plan.Plan.{Plan}
use Rattle.sch_compiled.specs.Plan.{rules_of}

-- the plan has this rule as number r, from 0, of its pattern number p, from 0
abbrev pub HasRule : Plan → ℕ → ℕ → PlanRule → Type 0
HasRule plan p r rule = slice_get (rules_of plan p) r ≡ Some rule

-- the counts fit 32 bits: those of the plan, of each pattern's rules, of each rule's assertions and slots
pub record IsCounted (plan : Plan) : Type 0 where
  pub prefixes_few : length plan.namespaces < 2 ^ 32
  pub lets_few : length plan.lets < 2 ^ 32
  pub patterns_few : length plan.patterns < 2 ^ 32
  pub rules_few : (p : ℕ) → length (rules_of plan p) < 2 ^ 32
  pub asserts_few : (p r : ℕ) (rule : PlanRule) → HasRule plan p r rule → length rule.assertions < 2 ^ 32
  pub slots_few : (p r : ℕ) (rule : PlanRule) → HasRule plan p r rule → length plan.lets + length rule.lets < 2 ^ 32

-- whether what stands in a pattern, or in none, sees a let: those of schema and phase, which are in none, and its own pattern's
abbrev pub sees : Option ℕ → Option ℕ → Bool
sees here None = true
sees None (Some pattern) = false
sees (Some here) (Some pattern) = here == pattern

-- the slots that are seen of lets in force, which stand from a slot on, each with the type of its let's value
abbrev pub seen_from : ℕ → Option ℕ → List LetInForce → List (ℕ × ValueType)
seen_from slot here [] = []
seen_from slot here (t ∷ lets) = (if sees here t.pattern then (slot, type_of t.expr) ∷ [] else []) ++ seen_from (suc slot) here lets

-- the same of the first lets in force, whose slots begin at 0
abbrev pub seen_in : Option ℕ → List LetInForce → List (ℕ × ValueType)
seen_in here lets = seen_from 0 here lets

-- the slots of lets of a rule, which stand from a slot on, each with the type of its let's value
abbrev pub slots_from : ℕ → List PlanLet → List (ℕ × ValueType)
slots_from slot [] = []
slots_from slot (t ∷ lets) = (slot, type_of t.expr) ∷ slots_from (suc slot) lets

-- what is seen in a rule of a pattern behind some of the rule's lets, whose slots follow those of the lets in force
abbrev pub seen_behind : Plan → ℕ → List PlanLet → List (ℕ × ValueType)
seen_behind plan p lets = seen_in (Some p) plan.lets ++ slots_from (length plan.lets) lets

-- each of the slots is seen, with that type
abbrev pub AreSeen : List (ℕ × ValueType) → List (ℕ × ValueType) → Type 0
AreSeen seen slots = All (λ slot. Contains seen slot) slots

-- the expressions of a part of a message
abbrev pub expressions_in : PlanPart → List TypedTree
expressions_in (Chars text) = []
expressions_in (ValueOf expr) = expr ∷ []
expressions_in (Name path) = option_to_list path

-- the path of a part of a message, where it is a name with one
abbrev pub paths_in : PlanPart → List TypedTree
paths_in (Chars text) = []
paths_in (ValueOf expr) = []
paths_in (Name path) = option_to_list path

-- the parts of the texts of an assertion: those of its diagnostics, then of its properties, then of its message
abbrev pub parts_of : PlanAssert → List PlanPart
parts_of assertion = flat_map (λ diagnostic. diagnostic.message) (assertion.diagnostics ++ assertion.properties) ++ assertion.message

-- the expressions of an assertion: its test, its subject, then those of its texts
abbrev pub expressions_of : PlanAssert → List TypedTree
expressions_of assertion = assertion.test ∷ option_to_list assertion.subject ++ flat_map expressions_in (parts_of assertion)

-- the subjects in a rule: its own, then those of its assertions
abbrev pub subjects_of : PlanRule → List TypedTree
subjects_of rule = option_to_list rule.subject ++ flat_map (λ assertion. option_to_list assertion.subject) rule.assertions

-- a let in force belongs to the schema, the phase, or a pattern that is there
abbrev pub IsOwned : Plan → LetInForce → Type 0
IsOwned plan t = IfSome t.pattern (λ pattern. pattern < length plan.patterns)

-- a plan is sound
pub record IsSound (plan : Plan) : Type 0 where
  pub counted : IsCounted plan
  pub patterns : All (IsOwned plan) plan.lets
  -- a let in force sees those before it
  pub let_slots : (l : ℕ) (t : LetInForce) → slice_get plan.lets l ≡ Some t → AreSeen (seen_in t.pattern (take l plan.lets)) (slots_in t.expr)
  -- a context sees no let of its rule
  pub context_slots : (p r : ℕ) (rule : PlanRule) → HasRule plan p r rule → AreSeen (seen_in (Some p) plan.lets) (slots_in_paths rule.context)
  -- a let of a rule sees those of its rule before it
  pub rule_let_slots : (p r k : ℕ) (rule : PlanRule) (t : PlanLet) → HasRule plan p r rule → slice_get rule.lets k ≡ Some t →
      AreSeen (seen_behind plan p (take k rule.lets)) (slots_in t.expr)
  -- an assertion sees all lets of its rule
  pub assertion_slots : (p r : ℕ) (rule : PlanRule) → HasRule plan p r rule →
      AreSeen (seen_behind plan p rule.lets) (flat_map slots_in (flat_map expressions_of rule.assertions))
  -- the rule's own subject sees them too
  pub subject_slots : (p r : ℕ) (rule : PlanRule) → HasRule plan p r rule →
      AreSeen (seen_behind plan p rule.lets) (flat_map slots_in (option_to_list rule.subject))
  -- subjects are node-sets
  pub subjects : (p r : ℕ) (rule : PlanRule) → HasRule plan p r rule → All (λ subject. type_of subject ≡ types.NodeSet) (subjects_of rule)
  -- the paths of names are node-sets
  pub paths : (p r : ℕ) (rule : PlanRule) → HasRule plan p r rule →
      All (λ path. type_of path ≡ types.NodeSet) (flat_map paths_in (flat_map parts_of rule.assertions))
