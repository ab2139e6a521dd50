-- One pattern more.
use Rattle.std.proofs.Common.{◌≡◌, ◌∙◌, ℕ, List, length, ap, arith}
use Rattle.std.specs.Prelude.{sum_by}
use Rattle.std.specs.List.{range_with_len}
use Rattle.sch_compiled.specs.declared.parts.PlanRule.{PlanRule}
use Rattle.edit_session.specs.inner.Counting.{node_adds, nodes_add, part}
use Rattle.edit_session.proofs.CountingLemmas.{sum-on}
use Rattle.edit_session.proofs.counting.tally_of_pairs.Goals as goal

pub loop-p-preserved : goal.loop-p-preserved
loop-p-preserved c = λ what.
    sum-on (nodes_add what c.args.plan.now c.args.found.now c.args.nodes.now) c.loop-p.p (part what c.loop-p.tally) _ _
    (c.loop-p.invariant what)
    (ap (λ (rules : List PlanRule). sum_by (node_adds what c.args.found.now c.loop-p.p rules) c.args.nodes.now) c.rules_of.ensures)
    (c.in_ok-add_nodes.ensures what)

pub returns : goal.returns
returns c = λ what.
    let end : c.loop-p.p ≡ length c.args.plan.now.patterns = omega (arith, c.loop-p-test.false, c.loop-p.auto.p-end, c.patterns-p-end.ensures, c.requires) in
    c.loop-p.invariant what ∙ ap (λ (k : ℕ). sum_by (nodes_add what c.args.plan.now c.args.found.now c.args.nodes.now) (range_with_len 0 k)) end
