use Rattle.std.proofs.Common.{◌∙◌}
use Rattle.xp_meaning.proofs.Exits.{ran_done_at}
use Rattle.rule_run.proofs.validator.Validator.part_text.Goals as goal

pub returns-in_ok-copy-in-Chars : goal.returns-in_ok-copy-in-Chars
returns-in_ok-copy-in-Chars g c = rw c.in-Chars.is (ran_done_at _ _ _ (c.in_ok-copy-in-Chars.ensures ∙ c.as_str.ensures))

pub returns-in-ValueOf : goal.returns-in-ValueOf
returns-in-ValueOf g c = rw c.in-ValueOf.is c.value_text.ensures
