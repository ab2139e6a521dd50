use Rattle.std.proofs.Common.{rules}
use Rattle.xslt_ways.proofs.looking.looks_at.Goals as goal

pub returns-in-DoubleSlash : goal.returns-in-DoubleSlash
returns-in-DoubleSlash c = search rules
