-- One more, up to all.
use Rattle.std.proofs.Common.{◌∷◌, [], ap, sym, ◌∙◌}
use Rattle.sch_references.specs.References.{is_among}
use Rattle.sch_references.specs.inner.KnownIds.{with_ids}
use Rattle.sch_references.proofs.IdLemmas.{among-all, among-next, with-nothing}
use Rattle.sch_references.proofs.WalkLemmas.{flat_map-one}
use Rattle.sch_references.proofs.ids.IdSet.add_diagnostics.Goals as goal

pub loop-diagnostic-init : goal.loop-diagnostic-init
loop-diagnostic-init c = sym (with-nothing (is_among c.args.self.now))

pub loop-diagnostic-preserved : goal.loop-diagnostic-preserved
loop-diagnostic-preserved c =
    among-next (is_among c.args.self.now) (λ diagnostic. diagnostic.id ∷ []) c.args.diagnostics.now c.loop-diagnostic.diagnostic-index c.diagnostic-item.result c.loop-diagnostic.self c.add.new.self c.diagnostic-item.is c.loop-diagnostic-test.true c.loop-diagnostic.invariant
    (c.in_ok-add.ensures ∙ ap (λ id. with_ids (is_among c.loop-diagnostic.self) (id ∷ [])) c.as_str.ensures)

pub returns : goal.returns
returns c =
    among-all (is_among c.args.self.now) (λ diagnostic. diagnostic.id ∷ []) c.args.diagnostics.now c.loop-diagnostic.diagnostic-index c.loop-diagnostic.self c.loop-diagnostic-test.false c.loop-diagnostic.auto.diagnostic-index-end c.loop-diagnostic.invariant
    ∙ ap (with_ids (is_among c.args.self.now)) (flat_map-one (λ diagnostic. diagnostic.id) c.args.diagnostics.now)
