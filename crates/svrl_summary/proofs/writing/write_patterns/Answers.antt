-- One that was not written whole leaves a front of all; and one more was written.
use Rattle.std.proofs.Common.{◌∙◌, ◌≡◌, ◌+◌, ℕ, ap, refl}
use Rattle.svrl_summary.proofs.LineLemmas.{patterns-cut, patterns-next}
use Rattle.svrl_summary.proofs.writing.write_patterns.Goals as goal

pub returns-in_err-write_pattern : goal.returns-in_err-write_pattern
returns-in_err-write_pattern g c =
    patterns-cut c.args.patterns.now c.loop-pattern.pattern-index c.pattern-item.result (rw c.as_slice-pattern-items.ensures at c.pattern-item.is) (rw c.as_slice-pattern-items.ensures at c.loop-pattern-test.true)
    c.from_residual.result c.from_residual.ensures.0 refl c.loop-pattern.invariant.0 (rw c.loop-pattern.invariant.1 at c.in_err-write_pattern.ensures)

pub loop-pattern-preserved : goal.loop-pattern-preserved
loop-pattern-preserved g c = (
  patterns-next c.args.patterns.now c.loop-pattern.pattern-index c.pattern-item.result (rw c.as_slice-pattern-items.ensures at c.pattern-item.is) (rw c.as_slice-pattern-items.ensures at c.loop-pattern-test.true)
      c.loop-pattern.invariant.0 (rw c.loop-pattern.invariant.1 at c.in_ok-write_pattern.ensures),
  ap (λ (n : ℕ). n + 1) c.loop-pattern.invariant.1,
)
