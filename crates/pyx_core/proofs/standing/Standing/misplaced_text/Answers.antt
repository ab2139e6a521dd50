use Rattle.std.proofs.Common.{◌∙◌, ap, sym}
use Rattle.pyx_core.proofs.StandingLemmas.{second, second_is}
use Rattle.pyx_core.proofs.standing.Standing.misplaced_text.Goals as goal

pub returns-in-Fragment : goal.returns-in-Fragment
returns-in-Fragment c = λ mode taken before reads.
    let is = sym reads.mode_is ∙ c.in-Fragment.is in
    let h = c.is_second_text.ensures taken before (rw is at reads) in
    rw is (c.then_some-in-Fragment.ensures ∙ (second_is _ ∙ ap second (rw c.as_str-text.ensures at h)))
