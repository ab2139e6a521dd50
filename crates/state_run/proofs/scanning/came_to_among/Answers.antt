-- The outcomes that are held are those of the tree, and the nodes of which nothing is told may be left out.
use Rattle.std.proofs.Common.{◌∙◌, ap, arith, subst, sym}
use Rattle.state_run.specs.Evaluated.{Evaluates}
use Rattle.state_run.specs.inner.Scanning.{patterns_came_to}
use Rattle.state_run.proofs.ScanningLemmas.{all_scanned, let_faulted, told_scanned}
use Rattle.state_run.proofs.scanning.came_to_among.Goals as goal

pub returns-in-Some : goal.returns-in-Some
returns-in-Some c =
    let_faulted c.lets_stand_in_order.ensures c.args.plan.now c.args.tree.now.nodes c.args.lets.now c.in-Some.fault c.requires.lets
    (sym c.first_let_fault.ensures ∙ c.in-Some.is)

pub returns : goal.returns
returns c =
    let count = c.args.found.now.patterns in
    subst (Evaluates c.args.plan.now c.args.tree.now.nodes)
    (sym (c.scan_all.ensures
    ∙ told_scanned c.args.tree.now.nodes c.args.found.now _ count c.requires.told (omega arith)
    ∙ ap (patterns_came_to c.args.found.now _) c.requires.found.patterns))
    (all_scanned c.lets_stand_in_order.ensures c.args.plan.now c.args.tree.now.nodes c.args.lets.now c.args.found.now c.laws.ensures.ordered
    c.requires.lets c.requires.found
    (sym c.first_let_fault.ensures ∙ c.in_default.is))
