use Rattle.std.proofs.Common.{sym, ap, length, ◌∙◌}
use Rattle.sch_texts.proofs.FrontLemmas.{chars-more, chars-stop, chars-end}
use Rattle.sch_texts.proofs.names.after_name_chars.Goals as goal

pub loop-c-preserved : goal.loop-c-preserved
loop-c-preserved c = (
  c.as_str-rest.utf8,
  λ rest after. c.loop-c.invariant.1 rest
      (chars-more c.loop-c.rest.now c.as_str-rest.result.now rest c.in-Some.c c.loop-c.invariant.0
      (rw c.as_str-rest.ensures (sym c.chars-chars.ensures.rest ∙ c.in-Some.ensures.steps.0)) (sym c.is_name_char.ensures ∙ c.if-is_name_char.true) after),
)

pub returns-in_default : goal.returns-in_default
returns-in_default c = c.loop-c.invariant.1 c.loop-c.rest.now
    (chars-stop c.loop-c.rest.now c.next.new.self.rest.now c.in-Some.c c.loop-c.invariant.0
    (sym c.chars-chars.ensures.rest ∙ c.in-Some.ensures.steps.0) (sym c.is_name_char.ensures ∙ c.if-is_name_char.false))

pub returns-in_default-2 : goal.returns-in_default-2
returns-in_default-2 c = c.loop-c.invariant.1 c.loop-c.rest.now
    (chars-end c.loop-c.rest.now (ap length (sym c.chars-chars.ensures.rest) ∙ c.in_default.ensures.steps.0.0))
