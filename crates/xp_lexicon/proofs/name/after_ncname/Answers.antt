use Rattle.std.proofs.Common.{ap, length, sym, ◌∙◌}
use Rattle.sch_base.specs.Characters.{is_name_start}
use Rattle.xp_lexicon.proofs.Runs.{stops_at, stops_at_end}
use Rattle.xp_lexicon.proofs.Names.{name_at, no_name}
use Rattle.xp_lexicon.proofs.name.after_ncname.Goals as goal
use Rattle.xp_lexicon.proofs.name.after_ncname.Goals.{in_default-via-in-Some+else-is_name_start, in_default-via-in_default}

pub returns-in-Some : goal.returns-in-Some
returns-in-Some c = name_at c.args.text.now c.as_str.result.now c.after_run.result.now c.in-Some.first c.utf8.text
    (rw c.as_str.ensures (sym c.chars-chars.ensures.rest ∙ c.in-Some.ensures.steps.0)) (sym c.is_name_start.ensures ∙ c.if-is_name_start.true)
    c.after_run.ensures

pub returns-in_default : goal.returns-in_default
returns-in_default c = elim c.in_default.branch [
  | in_default-via-in-Some+else-is_name_start w ↦ no_name c.args.text.now
      (stops_at is_name_start c.args.text.now c.next.new.self.rest.now w.in-Some.first
      (sym c.chars-chars.ensures.rest ∙ w.in-Some.ensures.steps.0) (sym w.is_name_start.ensures ∙ w.if-is_name_start.false))
  | in_default-via-in_default w ↦ no_name c.args.text.now
      (stops_at_end is_name_start c.args.text.now (ap length (sym c.chars-chars.ensures.rest) ∙ w.in_default.ensures.steps.0.0))
]
