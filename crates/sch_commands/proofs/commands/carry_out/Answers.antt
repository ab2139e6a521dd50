-- What the words ask for ends the run.
use Rattle.std.proofs.Common.{◌∙◌, Some, ap}
use Rattle.sch_words.specs.declared.command.Command.TheVariants as borrowed
use Rattle.sch_words.specs.Commands.{command_of, expand, follow, measure, summarize, tell, validate, watch}
use Rattle.sch_commands.proofs.CarryLemmas.{accepted as writing_accepted}
use Rattle.sch_commands.proofs.AskLemmas.{accepted, asks, asks_nothing, carries, carries_nothing, carries_notice}
use Rattle.sch_commands.proofs.commands.carry_out.Goals as goal

pub returns-in-None-clause-carried : goal.returns-in-None-clause-carried
returns-in-None-clause-carried g c =
    carries_nothing c.args.words.now _ _ _ (rw (← c.as_slice.ensures) (asks_nothing c.as_slice.result.now c.command_of.result c.command_of.ensures c.in-None.is))

pub returns-in-Some-Tell-clause-carried : goal.returns-in-Some-Tell-clause-carried
returns-in-Some-Tell-clause-carried g c =
    let at = c.in-Some-Tell in
    carries c.args.words.now (tell at.notice) _ _ _ _ _ _ c.write_notice.result
    (rw (← c.as_slice.ensures) (asks c.as_slice.result.now c.command_of.result (borrowed.Tell at.notice) c.command_of.ensures (at.is ∙ ap Some at.field-0-is)))
    (carries_notice at.notice _ _ _ _ c.write_notice.result c.write_notice.ensures.wrote c.write_notice.ensures.shown)

pub returns-in-Some-Tell-clause-usage : goal.returns-in-Some-Tell-clause-usage
returns-in-Some-Tell-clause-usage g c =
    let at = c.in-Some-Tell in
    accepted (command_of c.args.words.now) (tell at.notice) c.write_notice.result
    (rw (← c.as_slice.ensures) (asks c.as_slice.result.now c.command_of.result (borrowed.Tell at.notice) c.command_of.ensures (at.is ∙ ap Some at.field-0-is)))
    (writing_accepted c.write_notice.result c.write_notice.ensures.wrote.writing)

pub returns-in-Some-Expand-clause-carried : goal.returns-in-Some-Expand-clause-carried
returns-in-Some-Expand-clause-carried g c =
    let at = c.in-Some-Expand in
    carries c.args.words.now (expand at.schema.now) _ _ _ _ _ _ c.expand_schema.result
    (rw (← c.as_slice.ensures) (asks c.as_slice.result.now c.command_of.result (borrowed.Expand at.schema) c.command_of.ensures (at.is ∙ ap Some at.field-0-is)))
    (c.expand_schema.ensures.carried c.args.steps.now)

pub returns-in-Some-Expand-clause-usage : goal.returns-in-Some-Expand-clause-usage
returns-in-Some-Expand-clause-usage g c =
    let at = c.in-Some-Expand in
    accepted (command_of c.args.words.now) (expand at.schema.now) c.expand_schema.result
    (rw (← c.as_slice.ensures) (asks c.as_slice.result.now c.command_of.result (borrowed.Expand at.schema) c.command_of.ensures (at.is ∙ ap Some at.field-0-is)))
    c.expand_schema.ensures.accepted

pub returns-in-Some-Validate-clause-carried : goal.returns-in-Some-Validate-clause-carried
returns-in-Some-Validate-clause-carried g c =
    let at = c.in-Some-Validate in
    carries c.args.words.now (validate at.asked.phase.now at.asked.schema.now at.asked.document.now) _ _ _ _ _ _ c.validate.result
    (rw (← c.as_slice.ensures) (asks c.as_slice.result.now c.command_of.result (borrowed.Validate at.asked) c.command_of.ensures (at.is ∙ ap Some at.field-0-is)))
    c.validate.ensures.carried

pub returns-in-Some-Validate-clause-usage : goal.returns-in-Some-Validate-clause-usage
returns-in-Some-Validate-clause-usage g c =
    let at = c.in-Some-Validate in
    accepted (command_of c.args.words.now) (validate at.asked.phase.now at.asked.schema.now at.asked.document.now) c.validate.result
    (rw (← c.as_slice.ensures) (asks c.as_slice.result.now c.command_of.result (borrowed.Validate at.asked) c.command_of.ensures (at.is ∙ ap Some at.field-0-is)))
    c.validate.ensures.accepted

pub returns-in-Some-Follow-clause-carried : goal.returns-in-Some-Follow-clause-carried
returns-in-Some-Follow-clause-carried g c =
    let at = c.in-Some-Follow in
    carries c.args.words.now (follow at.asked.undos at.asked.validation.phase.now at.asked.validation.schema.now at.asked.validation.document.now at.asked.script.now) _ _ _ _ _ _ c.follow.result
    (rw (← c.as_slice.ensures) (asks c.as_slice.result.now c.command_of.result (borrowed.Follow at.asked) c.command_of.ensures (at.is ∙ ap Some at.field-0-is)))
    c.follow.ensures.carried

pub returns-in-Some-Follow-clause-usage : goal.returns-in-Some-Follow-clause-usage
returns-in-Some-Follow-clause-usage g c =
    let at = c.in-Some-Follow in
    accepted (command_of c.args.words.now) (follow at.asked.undos at.asked.validation.phase.now at.asked.validation.schema.now at.asked.validation.document.now at.asked.script.now) c.follow.result
    (rw (← c.as_slice.ensures) (asks c.as_slice.result.now c.command_of.result (borrowed.Follow at.asked) c.command_of.ensures (at.is ∙ ap Some at.field-0-is)))
    c.follow.ensures.accepted

pub returns-in-Some-Watch-clause-carried : goal.returns-in-Some-Watch-clause-carried
returns-in-Some-Watch-clause-carried g c =
    let at = c.in-Some-Watch in
    carries c.args.words.now (watch at.asked.watches.now at.asked.document.now at.asked.script.now) _ _ _ _ _ _ c.watch.result
    (rw (← c.as_slice.ensures) (asks c.as_slice.result.now c.command_of.result (borrowed.Watch at.asked) c.command_of.ensures (at.is ∙ ap Some at.field-0-is)))
    c.watch.ensures.carried

pub returns-in-Some-Watch-clause-usage : goal.returns-in-Some-Watch-clause-usage
returns-in-Some-Watch-clause-usage g c =
    let at = c.in-Some-Watch in
    accepted (command_of c.args.words.now) (watch at.asked.watches.now at.asked.document.now at.asked.script.now) c.watch.result
    (rw (← c.as_slice.ensures) (asks c.as_slice.result.now c.command_of.result (borrowed.Watch at.asked) c.command_of.ensures (at.is ∙ ap Some at.field-0-is)))
    c.watch.ensures.accepted

pub returns-in-Some-Measure-clause-carried : goal.returns-in-Some-Measure-clause-carried
returns-in-Some-Measure-clause-carried g c =
    let at = c.in-Some-Measure in
    carries c.args.words.now (measure at.items) _ _ _ _ _ _ c.measure.result
    (rw (← c.as_slice.ensures) (asks c.as_slice.result.now c.command_of.result (borrowed.Measure at.items) c.command_of.ensures (at.is ∙ ap Some at.field-0-is)))
    (c.measure.ensures.carried (g.S.Shelf.state c.args.shelf.now))

pub returns-in-Some-Measure-clause-usage : goal.returns-in-Some-Measure-clause-usage
returns-in-Some-Measure-clause-usage g c =
    let at = c.in-Some-Measure in
    accepted (command_of c.args.words.now) (measure at.items) c.measure.result
    (rw (← c.as_slice.ensures) (asks c.as_slice.result.now c.command_of.result (borrowed.Measure at.items) c.command_of.ensures (at.is ∙ ap Some at.field-0-is)))
    c.measure.ensures.accepted

pub returns-in-Some-Summarize-clause-carried : goal.returns-in-Some-Summarize-clause-carried
returns-in-Some-Summarize-clause-carried g c =
    let at = c.in-Some-Summarize in
    carries c.args.words.now (summarize at.report.now) _ _ _ _ _ _ c.sum_up.result
    (rw (← c.as_slice.ensures) (asks c.as_slice.result.now c.command_of.result (borrowed.Summarize at.report) c.command_of.ensures (at.is ∙ ap Some at.field-0-is)))
    (c.sum_up.ensures.carried c.args.steps.now)

pub returns-in-Some-Summarize-clause-usage : goal.returns-in-Some-Summarize-clause-usage
returns-in-Some-Summarize-clause-usage g c =
    let at = c.in-Some-Summarize in
    accepted (command_of c.args.words.now) (summarize at.report.now) c.sum_up.result
    (rw (← c.as_slice.ensures) (asks c.as_slice.result.now c.command_of.result (borrowed.Summarize at.report) c.command_of.ensures (at.is ∙ ap Some at.field-0-is)))
    c.sum_up.ensures.accepted
