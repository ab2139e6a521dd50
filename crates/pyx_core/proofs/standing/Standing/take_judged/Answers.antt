use Rattle.std.proofs.Common.{refl, sym, ◌∙◌}
use Rattle.std.proofs.lemmas.Result.{MatchResult-from_err}
use Rattle.pyx_core.specs.Reading.{judge}
use Rattle.pyx_core.proofs.EndLemmas.{good_named}
use Rattle.pyx_core.proofs.StandingLemmas.{takes_none}
use Rattle.pyx_core.proofs.standing.Standing.take_judged.Goals as goal

pub returns-in_err-line : goal.returns-in_err-line
returns-in_err-line c = λ mode taken before reads number.
    takes_none c.args.self.now mode taken before (judge mode before c.args.bytes.now) c.from_residual.result reads
    c.from_residual.ensures.0

pub returns-in_err-settle : goal.returns-in_err-settle
returns-in_err-settle c = λ mode taken before reads number.
    let good = sym (c.in_ok-line.ensures mode taken before reads) ∙ c.in-Ok.is in
    rw good
    (MatchResult-from_err c.from_residual-in_err-settle.result _ _ c.from_residual-in_err-settle.ensures.0
    (λ _. c.in_err-settle.ensures mode taken before reads number
    (good_named mode before c.args.bytes.now c.in-Ok.line good reads.named)))

pub returns : goal.returns
returns c = λ mode taken before reads number.
    let good = sym (c.in_ok-line.ensures mode taken before reads) ∙ c.in-Ok.is in
    rw good (
      refl,
      c.in_ok-settle.ensures mode taken before reads number (good_named mode before c.args.bytes.now c.in-Ok.line good reads.named),
    )
