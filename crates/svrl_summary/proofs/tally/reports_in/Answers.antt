-- As many as the filter lets through.
use Rattle.std.proofs.Common.{not, rules, tests}
use Rattle.std.proofs.lemmas.Iterator.{YieldsList-from_slice}
use Rattle.std.proofs.lemmas.Iterator.Consumers.{YieldsList-from_filter, count_from_yields_List}
use Rattle.svrl_summary.proofs.tally.reports_in.Goals as goal

pub returns : goal.returns
returns c =
    count_from_yields_List c.filter.result _ c.count.ensures.ran
    (YieldsList-from_filter _ (λ finding. not finding.assertion) (YieldsList-from_slice c.args.findings.now (cc)) c.filter.ensures.closure (λ x b q k. search (rules, tests)))
