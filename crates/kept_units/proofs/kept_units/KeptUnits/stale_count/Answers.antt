-- One pattern more is counted, and at last all.
use Rattle.std.proofs.Common.{◌≡◌, ◌∙◌, count_by, length, refl, arith}
use Rattle.std.specs.List.{range_with_len}
use Rattle.kept_reads.specs.Counting.{is_stale_node}
use Rattle.kept_units.proofs.CountingLemmas.{count_ends, sum_on}
use Rattle.kept_units.proofs.kept_units.KeptUnits.stale_count.Goals as goal

pub loop-p-preserved : goal.loop-p-preserved
loop-p-preserved c = record {
  counted =
      sum_on (λ p. count_by (is_stale_node c.args.tree.now.nodes c.args.self.now.reads.entries c.pattern_count-patterns.result p)
      (range_with_len 0 (length c.args.tree.now.nodes)))
      c.loop-p.p _ c.loop-p.count c.from-count-in-loop-p.result (c.from-count-in-loop-p.ensures ∙ c.stale_nodes.ensures) c.loop-p.invariant.counted;
  at_most = omega arith;
}

pub returns : goal.returns
returns c =
    count_ends c.args.plan.now c.args.tree.now.nodes c.args.self.now _ c.pattern_count-patterns.result c.loop-p.p c.loop-p.count c.requires.patterns
    refl c.pattern_count-patterns.ensures
    (let e : c.loop-p.p ≡ c.pattern_count-patterns.result = omega arith in e) c.loop-p.invariant.counted
