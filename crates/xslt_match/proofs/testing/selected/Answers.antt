use Rattle.std.proofs.Common.{◌∙◌, ap, subst}
use Rattle.doc_tree.specs.Lists.{mem}
use Rattle.xp_outcome.specs.Recorded.{nothing_read}
use Rattle.xp_outcome.specs.Running.{Ran}
use Rattle.xp_meaning.specs.Results.{shown}
use Rattle.xp_meaning.proofs.Exits.{ran_is}
use Rattle.xslt_match.specs.inner.Keeping.{nodes_told}
use Rattle.xslt_match.proofs.Repeating.{ran_unread, ran_unselected}
use Rattle.xslt_match.proofs.testing.selected.Goals as goal

pub returns-in_err-index-in-Ok : goal.returns-in_err-index-in-Ok
returns-in_err-index-in-Ok c = λ m k before after ran. ran_unselected k _ c.from_residual.ensures.0 (ran_unread _ ran)

pub returns-in_ok-index-in-Ok : goal.returns-in_ok-index-in-Ok
returns-in_ok-index-in-Ok c = λ m k before after ran.
    ran_is (mem k c.in_ok-index-in-Ok.index) (c.in_ok-index-in-Ok.ensures k ∙ ap (mem k) c.as_slice.ensures)
    (subst (λ r. Ran m (nodes_told (shown r) k) nothing_read c.args.reads before after) c.in-Ok.is ran)

pub returns-in-Err-Memory : goal.returns-in-Err-Memory
returns-in-Err-Memory c = λ m k before after ran. ran_unread _ ran
