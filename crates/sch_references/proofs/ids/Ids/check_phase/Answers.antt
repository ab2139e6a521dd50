-- One more, up to all.
use Rattle.std.proofs.Common.{sym, ap, ◌∙◌, ◌∷◌, [], map}
use Rattle.sch_references.specs.References.{active_place}
use Rattle.sch_references.specs.inner.KnownIds.{known_by}
use Rattle.sch_references.specs.inner.Onto.{onto}
use Rattle.sch_references.proofs.OntoLemmas.{earlier-none, onto-all, onto-next}
use Rattle.sch_references.proofs.WalkLemmas.{flat_map-one}
use Rattle.sch_references.proofs.ids.Ids.check_phase.Goals as goal

pub loop-active-init : goal.loop-active-init
loop-active-init c = sym (earlier-none c.args.first.now)

pub loop-active-preserved : goal.loop-active-preserved
loop-active-preserved c =
    onto-next (λ active. active_place (known_by c.args.self.now) active ∷ []) c.as_slice-active-items.result.now c.loop-active.active-index c.active-item.result c.args.first.now c.loop-active.first c.check_active.new.first
    c.active-item.is c.loop-active-test.true c.loop-active.invariant c.in_ok-check_active.ensures

pub returns : goal.returns
returns c =
    onto-all (λ active. active_place (known_by c.args.self.now) active ∷ []) c.as_slice-active-items.result.now c.loop-active.active-index c.args.first.now c.loop-active.first c.loop-active-test.false c.loop-active.auto.active-index-end c.loop-active.invariant
    ∙ ap (onto c.args.first.now) (flat_map-one (active_place (known_by c.args.self.now)) c.as_slice-active-items.result.now ∙ ap (map (active_place (known_by c.args.self.now))) c.as_slice-active-items.ensures)
