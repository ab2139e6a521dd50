-- Each finding at its place.
use Rattle.std.proofs.Common.{◌∙◌, ◌++◌, List, ℕ, All, ap, sym, append-nil}
use Rattle.std.specs.List.{flat_map}
use Rattle.std.proofs.Math.Seq.{take_all}
use Rattle.doc_locations.specs.Locations.{location_of}
use Rattle.sch_compiled.specs.Findings.{IsAtLiveNode, IsFindingOf}
use Rattle.svrl_out.specs.Report.{finding_lines, placed_lines}
use Rattle.svrl_out.proofs.LaidLemmas.{put_next}
use Rattle.svrl_out.proofs.report.Printer.put_findings.Goals as goal

pub loop-finding-init : goal.loop-finding-init
loop-finding-init c = record { last = tt; put = sym (append-nil c.args.page.now.bytes.items) }

pub place_of-requires-clause-live : goal.place_of-requires-clause-live
place_of-requires-clause-live c =
    let all : All (IsAtLiveNode c.args.self.now.tree.now.nodes) c.as_slice-finding-items.result.now = rw c.as_slice-finding-items.ensures c.requires.live in
    rw c.finding-item.is (all c.loop-finding.finding-index c.finding-item.result c.loop-finding-test.true)

pub put_finding-requires : goal.put_finding-requires
put_finding-requires c =
    let all : All (IsFindingOf c.args.assertions.now) c.as_slice-finding-items.result.now = rw c.as_slice-finding-items.ensures c.requires.named in
    rw c.finding-item.is (all c.loop-finding.finding-index c.finding-item.result c.loop-finding-test.true)

pub loop-finding-preserved : goal.loop-finding-preserved
loop-finding-preserved c = record {
  last = c.in_ok-place.ensures.1 ∙ sym (ap (location_of c.args.self.now.tree.now.nodes) c.in_ok-place.ensures.0);
  put = put_next (placed_lines c.args.self.now.tree.now.nodes c.args.assertions.now) c.args.findings.now c.loop-finding.finding-index c.finding-item.result
      (rw c.as_slice-finding-items.ensures at c.finding-item.is) (rw c.as_slice-finding-items.ensures at c.loop-finding-test.true) _ _ _ _
      c.loop-finding.invariant.put
      (ap (λ (location : List ℕ). finding_lines location c.args.assertions.now c.finding-item.result) c.in_ok-place.ensures.1)
      c.in_ok-put_finding.ensures;
}

pub returns : goal.returns
returns c =
    c.loop-finding.invariant.put
    ∙ ap (λ (findings : _). c.args.page.now.bytes.items ++ flat_map (placed_lines c.args.self.now.tree.now.nodes c.args.assertions.now) findings)
    (take_all c.loop-finding.finding-index c.args.findings.now (rw c.as_slice-finding-items.ensures at c.loop-finding-test.false))
