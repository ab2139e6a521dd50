use Rattle.pyx_core.proofs.ReadBack.{written_back}
use Rattle.pyx_core.proofs.laws.written_is_read_back.Goals as goal

pub returns : goal.returns
returns c = written_back
