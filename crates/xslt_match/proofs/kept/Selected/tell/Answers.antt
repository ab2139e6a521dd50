use Rattle.std.proofs.Common.{sym, subst, Ok, Err}
use Rattle.doc_tree.specs.Lists.{mem}
use Rattle.xp_outcome.specs.Recorded.{nothing_read}
use Rattle.xp_outcome.specs.Running.{faulted, no_memory, Ran}
use Rattle.xp_meaning.proofs.Exits.{exit_memory, ran_is}
use Rattle.xslt_match.specs.Kept.{told}
use Rattle.xslt_match.proofs.Repeating.{ran_joined, ran_unread}
use Rattle.xslt_match.proofs.kept.Selected.tell.Goals as goal

pub returns-in_err-join : goal.returns-in_err-join
returns-in_err-join c = λ m before after ran.
    exit_memory _ c.from_residual.ensures.1
    (subst (λ now. Ran m (Err no_memory) c.args.reads.now now before after) (sym c.in_err-join.ensures.unchanged) (ran_unread (told c.args.self.now.nodes c.args.k) ran))

pub returns-in-Ok : goal.returns-in-Ok
returns-in-Ok c = λ m before after ran.
    ran_is c.has.result c.has.ensures
    (ran_joined (Ok (mem c.args.k c.in-Ok.nodes)) c.in_ok-join.ensures.joined
    (subst (λ r. Ran m (told r c.args.k) nothing_read c.args.self.now.reads before after) c.in-Ok.is ran))

pub returns-in-Err : goal.returns-in-Err
returns-in-Err c = λ m before after ran.
    ran_joined (Err (faulted c.in-Err.fault)) c.in_ok-join.ensures.joined
    (subst (λ r. Ran m (told r c.args.k) nothing_read c.args.self.now.reads before after) c.in-Err.is ran)
