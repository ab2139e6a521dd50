-- The unit read such a let, or it stays.
use Rattle.std.proofs.Common.{◌∙◌, refl, sym}
use Rattle.kept_reads.proofs.ForgettingLemmas.{forgets_here, stays_here}
use Rattle.kept_reads.proofs.kept_reads.KeptReads.forget_if_flagged.Goals as goal

pub returns-then-reads_flagged : goal.returns-then-reads_flagged
returns-then-reads_flagged c =
    forgets_here c.args.flags.now.items c.args.place c.args.width c.args.self.now c.forget.new.self
    (sym c.reads_flagged.ensures ∙ c.if-reads_flagged.true) c.forget.ensures

pub returns-else-reads_flagged : goal.returns-else-reads_flagged
returns-else-reads_flagged c =
    stays_here c.args.flags.now.items c.args.place c.args.width c.args.self.now c.args.self.now
    (sym c.reads_flagged.ensures ∙ c.if-reads_flagged.false) refl
