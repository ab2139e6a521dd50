-- The command is refused, or makes another document, which is measured.
use Rattle.std.proofs.Common.{ap, refl}
use Rattle.edit_script.specs.Script.{script_left}
use Rattle.sch_undo.specs.Standing.{Standing}
use Rattle.sch_undo.specs.shown.Shown.TheVariants.{Clean}
use Rattle.sch_commands.specs.inner.Followers.{in_front_of}
use Rattle.sch_commands.specs.Telling.{by_plan}
use Rattle.sch_commands.specs.inner.Measurers.{place_at}
use Rattle.sch_commands.specs.inner.Sessions.{document_of}
use Rattle.sch_commands.proofs.EndLemmas.{on_ok}
use Rattle.sch_commands.proofs.FollowLemmas.{costs_edited, costs_refused}
use Rattle.sch_commands.proofs.MeasureLemmas.{moves-measured, moves-refused, under-way, under-way-same}
use Rattle.sch_commands.proofs.SessionLemmas.{leaves-dirty}
use Rattle.sch_commands.proofs.StepLemmas.{ahead_edited, ahead_none}
use Rattle.sch_commands.proofs.measuring.Measurer.measure_command.Goals as goal

pub returns-in-Ok-clause-moves : goal.returns-in-Ok-clause-moves
returns-in-Ok-clause-moves g c =
    moves-measured c.args.self.now c.measure_edited.new.self c.args.command.now c.apply.new.self _ _ c.measure_edited.result c.requires.ready.cap
    c.in-Ok.ensures.within c.in-Ok.ensures.edited c.in-Ok.ensures.plan (c.in-Ok.ensures.dirty c.requires.ready.fresh)
    c.measure_edited.ensures.plan c.measure_edited.ensures.tree c.measure_edited.ensures.script c.measure_edited.ensures.faulted c.measure_edited.ensures.rose

pub returns-in-Ok-clause-ready : goal.returns-in-Ok-clause-ready
returns-in-Ok-clause-ready g c =
    under-way c.args.self.now c.measure_edited.new.self c.apply.new.self c.measure_edited.result c.requires.ready c.in-Ok.ensures.cap c.in-Ok.ensures.plan
    c.measure_edited.ensures.plan c.measure_edited.ensures.tree c.measure_edited.ensures.fresh c.measure_edited.ensures.last

pub returns-in-Err-Refused-clause-moves : goal.returns-in-Err-Refused-clause-moves
returns-in-Err-Refused-clause-moves g c =
    moves-refused c.args.self.now (record c.args.self.now { session = c.apply.new.self }) c.args.command.now _ _ c.requires.ready.cap
    (rw c.in-Err-Refused.field-0-is at c.in-Err-Refused.ensures.refused) c.in-Err-Refused.ensures.unchanged refl refl

pub returns-in-Err-Refused-clause-ready : goal.returns-in-Err-Refused-clause-ready
returns-in-Err-Refused-clause-ready g c =
    under-way-same c.args.self.now (record c.args.self.now { session = c.apply.new.self }) c.requires.ready c.in-Err-Refused.ensures.unchanged refl

pub returns-in-Ok-clause-costs : goal.returns-in-Ok-clause-costs
returns-in-Ok-clause-costs g c =
    on_ok _ c.measure_edited.result
    (costs_edited (document_of c.args.self.now.session) (document_of c.apply.new.self) (document_of c.measure_edited.new.self.session) c.args.command.now (script_left c.args.self.now.script) (script_left c.measure_edited.new.self.script) c.one_edit.ensures
    c.requires.ready.cap c.in-Ok.ensures.within c.in-Ok.ensures.edited (ap by_plan c.in-Ok.ensures.plan) (ap by_plan c.measure_edited.ensures.plan) c.measure_edited.ensures.tree (ap script_left c.measure_edited.ensures.script) c.requires.costs)

pub returns-in-Ok-clause-at_most : goal.returns-in-Ok-clause-at_most
returns-in-Ok-clause-at_most g c =
    ahead_edited (place_at c.args.self.now 1 Clean) c.args.command.now (document_of c.apply.new.self) _ _ c.one_edit.ensures c.requires.ready.cap c.in-Ok.ensures.within c.in-Ok.ensures.edited (ap by_plan c.in-Ok.ensures.plan)
    (leaves-dirty c.args.self.now.session c.args.command.now c.apply.new.self c.in-Ok.ensures.plan (c.in-Ok.ensures.dirty c.requires.ready.fresh)) c.requires.costs c.measure_edited.ensures.at_most

pub returns-in-Err-Refused-clause-costs : goal.returns-in-Err-Refused-clause-costs
returns-in-Err-Refused-clause-costs g c =
    costs_refused (document_of c.args.self.now.session) (document_of c.apply.new.self) c.args.command.now _ (script_left c.args.self.now.script) (script_left c.args.self.now.script) c.requires.ready.cap
    (rw c.in-Err-Refused.field-0-is at c.in-Err-Refused.ensures.refused) (ap by_plan c.in-Err-Refused.ensures.plan) (ap (λ (s : Standing). s.tree.nodes) c.in-Err-Refused.ensures.unchanged) refl c.requires.costs

pub returns-in-Err-Refused-clause-at_most : goal.returns-in-Err-Refused-clause-at_most
returns-in-Err-Refused-clause-at_most g c = ahead_none (in_front_of c.args.command.now (place_at c.args.self.now 1 Clean)) _ c.requires.costs

pub returns-in-Err-Memory-clause-at_most : goal.returns-in-Err-Memory-clause-at_most
returns-in-Err-Memory-clause-at_most g c = ahead_none (in_front_of c.args.command.now (place_at c.args.self.now 1 Clean)) _ c.requires.costs
