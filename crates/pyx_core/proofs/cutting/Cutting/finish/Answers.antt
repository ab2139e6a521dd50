use Rattle.std.proofs.Common.{◌≡◌, suc, length, arith}
use Rattle.std.proofs.lemmas.Result.{MatchResult-from_err}
use Rattle.pyx_core.proofs.LinesLemmas.{few_ended}
use Rattle.pyx_core.specs.Lines.{ended_lines}
use Rattle.std.proofs.Common.{[]}
use Rattle.pyx_core.proofs.JudgeLemmas.{count_good}
use Rattle.pyx_core.proofs.CuttingLemmas.{finishes, finishes_none}
use Rattle.pyx_core.proofs.cutting.Cutting.finish.Goals as goal

pub returns-in_err-kind : goal.returns-in_err-kind
returns-in_err-kind c = λ mode fed taken keeps.
    let count = count_good mode [] (ended_lines fed) keeps.before keeps.good in
    let less = few_ended fed in
    let number : c.saturating_add-number.result ≡ suc (length keeps.before) =
    omega (arith, c.saturating_add-number.ensures, keeps.stands.count, keeps.few) in
    MatchResult-from_err c.from_residual.result _ _ c.from_residual.ensures.0
    (λ _. finishes_none c.finish.new.self mode taken fed keeps.before c.in_err-kind.field-0.0 keeps.good
    (rw (c.as_slice.ensures.value, keeps.stands.half_is) at (c.in_err-kind.ensures mode taken keeps.before keeps.stands.reads number)))

pub returns : goal.returns
returns c = λ mode fed taken keeps.
    let count = count_good mode [] (ended_lines fed) keeps.before keeps.good in
    let less = few_ended fed in
    let number : c.saturating_add-number.result ≡ suc (length keeps.before) =
    omega (arith, c.saturating_add-number.ensures, keeps.stands.count, keeps.few) in
    rw c.fault_in.ensures
    (finishes c.finish.new.self mode taken fed keeps.before c.in_ok-kind.kind c.saturating_add-number.result keeps.good number
    (rw (c.as_slice.ensures.value, keeps.stands.half_is) at (c.in_ok-kind.ensures mode taken keeps.before keeps.stands.reads number)))
