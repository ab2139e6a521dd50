use Rattle.xp_syntax.proofs.Abbreviations.{all_written_out}
use Rattle.xp_syntax.proofs.laws.abbreviations_are_written_out.Goals as goal

pub returns : goal.returns
returns c = all_written_out
