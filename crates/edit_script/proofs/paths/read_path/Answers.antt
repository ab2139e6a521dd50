-- A path begins with a slash.
use Rattle.std.proofs.Common.{sym}
use Rattle.edit_script.proofs.PathLemmas.{path_none}
use Rattle.edit_script.proofs.paths.read_path.Goals as goal

pub returns-in-None : goal.returns-in-None
returns-in-None c = sym (path_none c.args.text.now c.in-None.ensures.cases)
