use Rattle.pyx_core.proofs.Undoing.{unescaped-escaped}
use Rattle.pyx_core.proofs.laws.unescaped_undoes_escaped.Goals as goal

pub returns : goal.returns
returns c = unescaped-escaped
