use Rattle.std.proofs.Common.{ℕ, ap}
use Rattle.xslt_match.specs.declared.kept.StepKey.{StepKey}
use Rattle.xslt_match.proofs.testing.key_at.Goals as goal

pub returns : goal.returns
returns c =
    let key : ℕ → StepKey = λ p. record { path = c.args.at.now.path; step = c.args.at.now.number; parent = p } in
    ap key c.index.ensures.value
