-- By the number of ancestors.
use Rattle.edit_paths.proofs.LeadingLemmas.{paths-lead}
use Rattle.edit_paths.proofs.paths_lead.Goals as goal

pub returns : goal.returns
returns c = paths-lead
