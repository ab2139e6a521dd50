use Rattle.std.proofs.Common.{sym, ap, length, ◌∙◌}
use Rattle.sch_texts.proofs.FrontLemmas.{name-more, name-stop, name-end}
use Rattle.sch_texts.proofs.names.after_name.Goals as goal

pub returns-in-Some : goal.returns-in-Some
returns-in-Some c =
    name-more c.args.text.now c.as_str.result.now c.after_name_chars.result.now c.in-Some.first c.utf8.text
    (rw c.as_str.ensures (sym c.chars-chars.ensures.rest ∙ c.in-Some.ensures.steps.0)) (sym c.is_name_start.ensures ∙ c.if-is_name_start.true)
    c.after_name_chars.ensures

pub returns-in_default : goal.returns-in_default
returns-in_default c =
    name-stop c.args.text.now c.next.new.self.rest.now c.in-Some.first c.utf8.text
    (sym c.chars-chars.ensures.rest ∙ c.in-Some.ensures.steps.0) (sym c.is_name_start.ensures ∙ c.if-is_name_start.false)

pub returns-in_default-2 : goal.returns-in_default-2
returns-in_default-2 c = name-end c.args.text.now (ap length (sym c.chars-chars.ensures.rest) ∙ c.in_default.ensures.steps.0.0)
