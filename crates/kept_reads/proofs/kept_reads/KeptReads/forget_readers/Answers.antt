-- One unit more is looked at, and at last all.
use Rattle.std.proofs.Common.{arith}
use Rattle.kept_reads.proofs.ForgettingLemmas.{below_all, below_begin, below_on, none_forgotten}
use Rattle.kept_reads.proofs.kept_reads.KeptReads.forget_readers.Goals as goal

pub loop-place-init : goal.loop-place-init
loop-place-init c = below_begin c.args.flags.now.items c.args.width c.args.self.now

pub loop-place-preserved : goal.loop-place-preserved
loop-place-preserved c =
    below_on c.args.flags.now.items c.loop-place.place c.args.width c.args.self.now c.loop-place.self c.forget_if_flagged.new.self
    c.loop-place.invariant c.forget_if_flagged.ensures

pub forget_if_flagged-requires-clause-there : goal.forget_if_flagged-requires-clause-there
forget_if_flagged-requires-clause-there c = omega (arith, c.loop-place.invariant.fades.places)

pub returns-then-none_set : goal.returns-then-none_set
returns-then-none_set c = none_forgotten c.args.flags.now.items c.args.width c.args.self.now (c.if-none_set.ensures)

pub returns : goal.returns
returns c = below_all c.args.flags.now.items c.loop-place.place c.args.width c.args.self.now c.loop-place.self (omega arith) c.loop-place.invariant
