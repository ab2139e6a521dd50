-- The rules on how large a schema without abstract parts may be. They stand at the schema's element, and tell the limit.
use Rattle.std.specs.Prelude.{ℕ, nat_lt, not, length, List, [], ◌∷◌, ◌++◌, Option, codes}
use Rattle.std.specs.List.{flat_map}
use Rattle.sch_base.specs.declared.limits.TheConstants.{MAX_ASSERTIONS, MAX_LETS, MAX_RULES}
use Rattle.sch_model.specs.declared.flat.FlatPattern.{FlatPattern}
use Rattle.sch_model.specs.declared.flat.FlatRule.{FlatRule}
use Rattle.sch_model.specs.declared.flat.FlatSchema.{FlatSchema}
use Rattle.sch_model.specs.declared.parts.Assertion.{Assertion}
use Rattle.sch_model.specs.declared.parts.LetDecl.{LetDecl}
use Rattle.sch_expansion.specs.Flat.{flat_schema}
use Rattle.sch_model.specs.declared.raw.RawSchema.{RawSchema}
use Rattle.sch_references.specs.Places.{Place}
use Rattle.sch_flat.specs.FlatSize.{is_small}
use Rattle.sch_rules.specs.Rules.{name_if}

-- the rules of a schema, and their assertions
abbrev pub all_rules : FlatSchema → List FlatRule
all_rules schema = flat_map (λ pattern. pattern.rules) schema.patterns

abbrev pub all_assertions : FlatSchema → List Assertion
all_assertions schema = flat_map (λ rule. rule.assertions) (all_rules schema)

-- its lets: its own, those of its phases, and those of its patterns and of their rules
abbrev pub pattern_lets : FlatPattern → List LetDecl
pattern_lets pattern = pattern.lets ++ flat_map (λ rule. rule.lets) pattern.rules

abbrev pub all_lets : FlatSchema → List LetDecl
all_lets schema = schema.lets ++ (flat_map (λ phase. phase.lets) schema.phases ++ flat_map pattern_lets schema.patterns)

-- 16 to 18: there are more rules, assertions, or lets than a schema may have; 19: its document is too large
abbrev pub size_rules : FlatSchema → List (ℕ × Option (List ℕ))
size_rules schema = (16, name_if (nat_lt MAX_RULES (length (all_rules schema))) (codes "4096"))
    ∷ (17, name_if (nat_lt MAX_ASSERTIONS (length (all_assertions schema))) (codes "16384"))
    ∷ (18, name_if (nat_lt MAX_LETS (length (all_lets schema))) (codes "1024"))
    ∷ (19, name_if (not (is_small schema)) (codes "16777216"))
    ∷ []

abbrev pub size_place : FlatSchema → Place
size_place schema = record { node = schema.head.node; rules = size_rules schema }

-- the place of a schema, by what it is without abstract parts
abbrev pub size_places : RawSchema → List Place
size_places schema = size_place (flat_schema schema) ∷ []
