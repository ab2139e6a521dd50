use Rattle.std.proofs.Common.{rules}
use Rattle.sch_io.proofs.Writes.{writes}
use Rattle.pyx_write.proofs.lines.write_named_line.Goals as goal

pub returns-in_err-write_pieces : goal.returns-in_err-write_pieces
returns-in_err-write_pieces g c = search (rules, writes)

pub returns : goal.returns
returns g c = search (rules, writes)
