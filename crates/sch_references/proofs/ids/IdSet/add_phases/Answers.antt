-- One more, up to all.
use Rattle.std.proofs.Common.{◌∷◌, [], ap, sym, ◌∙◌}
use Rattle.sch_references.specs.References.{is_among}
use Rattle.sch_references.specs.inner.KnownIds.{with_ids}
use Rattle.sch_references.proofs.IdLemmas.{among-all, among-next, with-nothing}
use Rattle.sch_references.proofs.WalkLemmas.{flat_map-one}
use Rattle.sch_references.proofs.ids.IdSet.add_phases.Goals as goal

pub loop-phase-init : goal.loop-phase-init
loop-phase-init c = sym (with-nothing (is_among c.args.self.now))

pub loop-phase-preserved : goal.loop-phase-preserved
loop-phase-preserved c =
    among-next (is_among c.args.self.now) (λ phase. phase.id ∷ []) c.args.phases.now c.loop-phase.phase-index c.phase-item.result c.loop-phase.self c.add.new.self c.phase-item.is c.loop-phase-test.true c.loop-phase.invariant
    (c.in_ok-add.ensures ∙ ap (λ id. with_ids (is_among c.loop-phase.self) (id ∷ [])) c.as_str.ensures)

pub returns : goal.returns
returns c =
    among-all (is_among c.args.self.now) (λ phase. phase.id ∷ []) c.args.phases.now c.loop-phase.phase-index c.loop-phase.self c.loop-phase-test.false c.loop-phase.auto.phase-index-end c.loop-phase.invariant
    ∙ ap (with_ids (is_among c.args.self.now)) (flat_map-one (λ phase. phase.id) c.args.phases.now)
