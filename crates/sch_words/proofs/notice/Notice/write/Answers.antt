-- The pieces are the lines, each with its end.
use Rattle.sch_words.proofs.notice.Notice.write.Goals as goal

pub returns-in-Help : goal.returns-in-Help
returns-in-Help g c = rw c.in-Help.is c.write_pieces.ensures
