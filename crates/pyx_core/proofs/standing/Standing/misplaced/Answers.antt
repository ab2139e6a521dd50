use Rattle.std.proofs.Common.{◌∙◌, ap}
use Rattle.pyx_core.proofs.StandingLemmas.{second, second_is}
use Rattle.pyx_core.proofs.standing.Standing.misplaced.Goals as goal

pub returns-in-Start : goal.returns-in-Start
returns-in-Start c = λ mode taken before reads.
    rw c.in-Start.is (c.then_some-in-Start.ensures ∙ (second_is _ ∙ ap second (rw c.in-Start.is at (c.is_second.ensures mode taken before reads))))

pub returns-in-Pi : goal.returns-in-Pi
returns-in-Pi c = λ mode taken before reads.
    rw c.in-Pi.is (c.then_some-in-Pi.ensures ∙ (second_is _ ∙ ap second (rw c.in-Pi.is at (c.is_second-in-Pi.ensures mode taken before reads))))

pub returns-in-Comment : goal.returns-in-Comment
returns-in-Comment c = λ mode taken before reads.
    rw c.in-Comment.is (c.then_some-in-Comment.ensures ∙ (second_is _ ∙ ap second (rw c.in-Comment.is at (c.is_second-in-Comment.ensures mode taken before reads))))
