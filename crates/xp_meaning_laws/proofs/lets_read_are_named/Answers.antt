use Rattle.xp_meaning_laws.proofs.Knowing.{lets_read_are_named}
use Rattle.xp_meaning_laws.proofs.lets_read_are_named.Goals as goal

pub returns : goal.returns
returns c = lets_read_are_named
