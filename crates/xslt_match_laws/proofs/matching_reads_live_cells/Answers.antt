use Rattle.xslt_match_laws.proofs.Knowing.{matching_reads_live_cells}
use Rattle.xslt_match_laws.proofs.matching_reads_live_cells.Goals as goal

pub returns : goal.returns
returns c = λ T formed. matching_reads_live_cells T (c.well_formed_is_enough.ensures T formed).0 (c.well_formed_is_enough.ensures T formed).1
