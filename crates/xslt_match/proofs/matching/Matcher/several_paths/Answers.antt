use Rattle.xp_outcome.specs.Running.{no_memory}
use Rattle.xp_meaning.proofs.Exits.{exit_memory}
use Rattle.xslt_match.proofs.NameReads.{read_err, read_ok}
use Rattle.xslt_match.proofs.matching.Matcher.several_paths.Goals as goal

pub returns-in_err-read_names-clause-ran : goal.returns-in_err-read_names-clause-ran
returns-in_err-read_names-clause-ran g c =
    exit_memory c.from_residual.result c.from_residual.ensures.1 (read_err _ tt _ no_memory (c.in_err-read_names.ensures _))

pub returns-clause-ran : goal.returns-clause-ran
returns-clause-ran g c = read_ok _ tt _ (c.in_ok-read_names.ensures _) c.some_path.ensures.ran
