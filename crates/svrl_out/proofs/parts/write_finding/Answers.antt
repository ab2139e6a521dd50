-- The finding's assertion is the one that is read.
use Rattle.std.proofs.Common.{[]}
use Rattle.svrl_out.specs.Report.{assertion_lines}
use Rattle.svrl_out.proofs.ReportLemmas.{at_place, some_within}
use Rattle.svrl_out.proofs.parts.write_finding.Goals as goal

pub returns : goal.returns
returns g c =
    let text = at_place (assertion_lines c.args.location.now c.args.finding.now) c.args.assertions.now c.args.finding.now.assertion c.index-as_slice-finding.result [] (rw c.as_slice.ensures at c.index-as_slice-finding.is) (some_within c.args.assertions.now c.args.finding.now.assertion _ c.requires) in
    rw text c.write_found.ensures
