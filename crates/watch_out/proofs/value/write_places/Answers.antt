-- Each node in its turn; one that was not told whole leaves a front of all.
use Rattle.std.proofs.Common.{◌∙◌, Err, ap}
use Rattle.std.proofs.Math.Seq.{take_all}
use Rattle.std.proofs.lemmas.Result.{err_from_is_err_and}
use Rattle.doc_locations.proofs.PlaceLemmas.{mem-at}
use Rattle.svrl_out.proofs.ReportLemmas.{reported_cut, reported_next}
use Rattle.watch_out.specs.Lines.{at_line}
use Rattle.watch_out.proofs.value.write_places.Goals as goal

pub write_place-requires : goal.write_place-requires
write_place-requires g c = c.requires c.n-item.result (mem-at c.args.nodes.now c.loop-n.n-index c.n-item.result c.n-item.is c.loop-n-test.true)

pub loop-n-preserved : goal.loop-n-preserved
loop-n-preserved g c =
    reported_next (at_line c.args.locator.now) c.args.nodes.now c.loop-n.n-index c.n-item.result c.n-item.is c.loop-n-test.true c.loop-n.invariant c.in_ok-write_place.ensures

pub returns-in_err-write_place : goal.returns-in_err-write_place
returns-in_err-write_place g c =
    let error = err_from_is_err_and c.from_residual.result c.from_residual.ensures.1 in
    reported_cut (at_line c.args.locator.now) c.args.nodes.now c.loop-n.n-index c.n-item.result c.from_residual.result (error.1 ∙ ap Err error.2) c.n-item.is c.loop-n-test.true
    c.loop-n.invariant c.in_err-write_place.ensures

pub returns : goal.returns
returns g c = rw (take_all c.loop-n.n-index c.args.nodes.now c.loop-n-test.false) at c.loop-n.invariant
