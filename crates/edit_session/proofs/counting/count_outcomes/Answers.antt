-- The nodes of which something is told add up to what all nodes do.
use Rattle.std.proofs.Common.{◌∙◌, Option, ap, subst, sym}
use Rattle.std.specs.Prelude.{is_some}
use Rattle.sch_compiled.specs.declared.state_fault.StateFault.{StateFault}
use Rattle.sch_compiled.specs.Findings.{ToldInOrder}
use Rattle.edit_session.proofs.CountingLemmas.{all-pairs, counts-are, fault-is}
use Rattle.edit_session.proofs.counting.count_outcomes.Goals as goal

pub came_to_among-evaluated-requires-clause-told : goal.came_to_among-evaluated-requires-clause-told
came_to_among-evaluated-requires-clause-told c =
    subst (ToldInOrder c.args.tree.now.nodes c.args.found.now) (sym c.as_slice-nodes.ensures) c.in_ok-nodes.ensures

pub returns : goal.returns
returns c =
    let plan = c.args.plan.now in
    let T = c.args.tree.now.nodes in
    let found = c.args.found.now in
    let nodes = c.as_slice-nodes.result.now in
    let told : ToldInOrder T found nodes = subst (ToldInOrder T found) (sym c.as_slice-nodes.ensures) c.in_ok-nodes.ensures in
    c.counts.ensures
    ∙ counts-are plan T c.in_ok-tally.tally _ (λ what. c.in_ok-tally.ensures what ∙ all-pairs what plan T found nodes told c.requires.found)
    (c.is_some-faulted.ensures ∙ ap (λ (o : Option StateFault). is_some o) (c.fault_of.ensures ∙ fault-is plan T _ c.came_to_among-evaluated.ensures))
