-- Its document breaks no rule, and reads as the schema.
use Rattle.sch_flat_laws.proofs.Rules.AcceptedAgain.{accepted_again}
use Rattle.sch_flat_laws.proofs.expansion_is_accepted_again.Goals as goal

pub returns : goal.returns
returns c =
    accepted_again c.scoped_trees_are_made.ensures c.flat_schemas_are_read_back.ensures c.expansion_stays.ensures c.flat_documents_break_no_rule.ensures c.readings_are_readable.ensures
