-- The schema was read from the document.
use Rattle.sch_rules.specs.RawSchema.{raw_schema}
use Rattle.sch_abstract.proofs.ToldLemmas.{agrees, single-references}
use Rattle.sch_abstract.proofs.laws.first_fault_agrees.Goals as goal

pub returns : goal.returns
returns c = λ T. agrees (raw_schema T) (single-references T)
