-- One more, up to all.
use Rattle.std.proofs.Common.{sym}
use Rattle.sch_references.specs.References.{phase_places}
use Rattle.sch_references.specs.inner.KnownIds.{known_by}
use Rattle.sch_references.proofs.OntoLemmas.{earlier-none, onto-all, onto-next}
use Rattle.sch_references.proofs.ids.Ids.check_phases.Goals as goal

pub loop-phase-init : goal.loop-phase-init
loop-phase-init c = sym (earlier-none c.args.first.now)

pub loop-phase-preserved : goal.loop-phase-preserved
loop-phase-preserved c =
    onto-next (phase_places (known_by c.args.self.now)) c.args.phases.now c.loop-phase.phase-index c.phase-item.result c.args.first.now c.loop-phase.first c.check_phase.new.first
    c.phase-item.is c.loop-phase-test.true c.loop-phase.invariant c.in_ok-check_phase.ensures

pub returns : goal.returns
returns c =
    onto-all (phase_places (known_by c.args.self.now)) c.args.phases.now c.loop-phase.phase-index c.args.first.now c.loop-phase.first c.loop-phase-test.false c.loop-phase.auto.phase-index-end c.loop-phase.invariant
