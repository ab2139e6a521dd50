-- Each part of a unit goes by what its expressions read.
use Rattle.unit_live_laws.proofs.UnitLemmas.{finds-live, gives-live, reads-live}
use Rattle.unit_live_laws.proofs.units_read_live_cells.Goals as goal

pub returns-clause-reads : goal.returns-clause-reads
returns-clause-reads c = reads-live

pub returns-clause-answers : goal.returns-clause-answers
returns-clause-answers c = gives-live

pub returns-clause-findings : goal.returns-clause-findings
returns-clause-findings c = finds-live
