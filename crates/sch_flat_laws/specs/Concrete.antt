-- Schemas without abstract parts: no `extends`, no instance, no abstract pattern and no abstract rule (ISO/IEC 19757-3,
-- sections 5.4.5, 5.4.8 and 5.4.12).
use Rattle.std.specs.Prelude.{Bool, true, false, not, ◌&&◌, is_none}
use Rattle.std.specs.List.{list_all}
use Rattle.sch_model.specs.declared.raw.RawItem.{RawItem}
use Rattle.sch_model.specs.declared.raw.RawItem.TheVariants.{Let, Assertion, Extends}
use Rattle.sch_model.specs.declared.raw.RawRule.{RawRule}
use Rattle.sch_model.specs.declared.raw.RawPattern.{RawPattern}
use Rattle.sch_model.specs.declared.raw.RawSchema.{RawSchema}

abbrev pub is_concrete_item : RawItem → Bool
is_concrete_item (Let _) = true
is_concrete_item (Assertion _) = true
is_concrete_item (Extends _ _) = false

abbrev pub is_concrete_rule : RawRule → Bool
is_concrete_rule rule = not rule.is_abstract && list_all is_concrete_item rule.items

abbrev pub is_concrete_pattern : RawPattern → Bool
is_concrete_pattern pattern = not pattern.is_abstract && (is_none pattern.is_a && list_all is_concrete_rule pattern.rules)

abbrev pub is_concrete : RawSchema → Bool
is_concrete schema = list_all is_concrete_pattern schema.patterns
