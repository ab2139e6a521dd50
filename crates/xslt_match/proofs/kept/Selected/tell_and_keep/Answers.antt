use Rattle.xp_meaning.specs.Results.{shown}
use Rattle.xp_meaning.proofs.Exits.{exit_memory}
use Rattle.xslt_match.proofs.Repeating.{ran_wanting}
use Rattle.xslt_match.proofs.kept.Selected.tell_and_keep.Goals as goal

pub returns-in_err-keep-clause-told : goal.returns-in_err-keep-clause-told
returns-in_err-keep-clause-told c = λ m before after ran.
    exit_memory _ c.from_residual.ensures.1 (ran_wanting (shown c.tell-told.result) (c.tell-told.ensures m before after ran))
