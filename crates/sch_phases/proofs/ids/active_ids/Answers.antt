-- One more, up to all.
use Rattle.std.proofs.Common.{◌∙◌}
use Rattle.sch_phases.proofs.IdLemmas.{ids-all, ids-next}
use Rattle.sch_phases.proofs.ids.active_ids.Goals as goal

pub loop-its-preserved : goal.loop-its-preserved
loop-its-preserved c =
    ids-next c.in_ok-id.id c.loop-its.ids.keys _ c.args.active.now c.loop-its.its-index c.its-item.result c.loop-its-test.true c.its-item.is (c.in_ok-id.ensures.ok ∙ c.as_str.ensures) c.in_ok-insert_full.ensures.keys c.loop-its.invariant

pub returns : goal.returns
returns c = ids-all c.loop-its.ids.keys c.args.active.now c.loop-its.its-index c.loop-its-test.false c.loop-its.invariant
