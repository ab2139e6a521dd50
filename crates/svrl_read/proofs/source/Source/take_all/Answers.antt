-- The elements in turn, up to the first one that has a fault.
use Rattle.std.proofs.Common.{ap, ◌∙◌}
use Rattle.std.proofs.lemmas.List.{drop_all}
use Rattle.svrl_read.specs.declared.building.Builder.{Builder}
use Rattle.svrl_read.specs.FirstFault.{kids_fault}
use Rattle.svrl_read.specs.inner.Building.{place_of}
use Rattle.svrl_read.proofs.FaultLemmas.{ended_exit}
use Rattle.svrl_read.proofs.TakingLemmas.{no_fault_left, read_all, read_next, read_none, read_stop}
use Rattle.svrl_read.proofs.source.Source.take_all.Goals as goal

pub loop-kid-init : goal.loop-kid-init
loop-kid-init c = read_none c.args.self.now.tree.now.nodes c.args.builder.now c.kids-kid-items.result.now

pub loop-kid-preserved : goal.loop-kid-preserved
loop-kid-preserved c =
    read_next c.args.self.now.tree.now.nodes c.args.builder.now c.loop-kid.builder c.take.new.builder c.kids-kid-items.result.now c.loop-kid.kid-index c.kid-item.result
    c.kid-item.is c.loop-kid-test.true c.loop-kid.invariant c.in_ok-take.ensures.ended c.in_ok-take.ensures.read

pub returns-in_err-take-clause-ended : goal.returns-in_err-take-clause-ended
returns-in_err-take-clause-ended c =
    let T = c.args.self.now.tree.now.nodes in
    let first = c.args.builder.now in
    ended_exit (kids_fault T (place_of first.pattern first.fired) _) c.in_err-take.field-0.0 c.from_residual.result c.from_residual.ensures.1
    (rw c.kids-kid-items.ensures at
    (read_stop T first c.loop-kid.builder c.kids-kid-items.result.now c.loop-kid.kid-index c.kid-item.result c.in_err-take.field-0.0
    c.kid-item.is c.loop-kid-test.true c.loop-kid.invariant c.in_err-take.ensures.ended))

pub returns-clause-ended : goal.returns-clause-ended
returns-clause-ended c =
    rw c.kids-kid-items.ensures at
    (no_fault_left c.args.self.now.tree.now.nodes c.args.builder.now c.loop-kid.builder c.kids-kid-items.result.now _
    (drop_all c.loop-kid.kid-index c.kids-kid-items.result.now c.loop-kid-test.false) c.loop-kid.invariant)

pub returns-clause-read : goal.returns-clause-read
returns-clause-read c =
    ap (λ (b : Builder). b.report) c.in_ok-close_pattern.ensures
    ∙ (rw c.kids-kid-items.ensures at
    (read_all c.args.self.now.tree.now.nodes c.args.builder.now c.loop-kid.builder c.kids-kid-items.result.now _
    (drop_all c.loop-kid.kid-index c.kids-kid-items.result.now c.loop-kid-test.false) c.loop-kid.invariant))
