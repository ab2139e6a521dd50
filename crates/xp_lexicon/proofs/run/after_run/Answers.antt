use Rattle.std.proofs.Common.{sym, ap, length, ◌∙◌}
use Rattle.xp_lexicon.specs.inner.Scanning.{holds}
use Rattle.xp_lexicon.proofs.Runs.{ran_none, ran_more, stops_at, stops_at_end}
use Rattle.xp_lexicon.proofs.run.after_run.Goals as goal

pub loop-c-preserved : goal.loop-c-preserved
loop-c-preserved c = (
  c.as_str-rest.utf8,
  λ rest r. c.loop-c.invariant.1 rest
      (ran_more (holds c.args.class) c.loop-c.rest.now c.as_str-rest.result.now rest c.in-Some.c c.loop-c.invariant.0
      (rw c.as_str-rest.ensures (sym c.chars-chars.ensures.rest ∙ c.in-Some.ensures.steps.0)) (sym c.holds.ensures ∙ c.if-holds.true) r),
)

pub returns-in_default : goal.returns-in_default
returns-in_default c = c.loop-c.invariant.1 c.loop-c.rest.now
    (ran_none (holds c.args.class) c.loop-c.rest.now
    (stops_at (holds c.args.class) c.loop-c.rest.now c.next.new.self.rest.now c.in-Some.c
    (sym c.chars-chars.ensures.rest ∙ c.in-Some.ensures.steps.0) (sym c.holds.ensures ∙ c.if-holds.false)))

pub returns-in_default-2 : goal.returns-in_default-2
returns-in_default-2 c = c.loop-c.invariant.1 c.loop-c.rest.now
    (ran_none (holds c.args.class) c.loop-c.rest.now
    (stops_at_end (holds c.args.class) c.loop-c.rest.now (ap length (sym c.chars-chars.ensures.rest) ∙ c.in_default.ensures.steps.0.0)))
