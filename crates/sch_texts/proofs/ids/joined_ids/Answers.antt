-- By what the ids are as one text.
use Rattle.std.proofs.Common.{rules}
use Rattle.sch_texts.proofs.ids.joined_ids.Goals as goal

pub returns-in_ok-spaced_ids-in-Some : goal.returns-in_ok-spaced_ids-in-Some
returns-in_ok-spaced_ids-in-Some c = search rules
