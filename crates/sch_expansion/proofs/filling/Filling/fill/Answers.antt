use Rattle.std.proofs.Common.{◌++◌, sym, ap, ◌∙◌, append-nil, string_bytes}
use Rattle.sch_expansion.specs.Filled.{filled}
use Rattle.sch_expansion.proofs.FillLemmas.{filled-nil}
use Rattle.sch_expansion.proofs.filling.Filling.fill.Goals as goal

pub returns : goal.returns
returns c =
    c.from.ensures
    ∙ sym (append-nil (string_bytes c.loop-piece.its))
    ∙ ap (λ l. string_bytes c.loop-piece.its ++ l) (sym (filled-nil c.args.self.now) ∙ ap (filled c.args.self.now) (sym c.in_default.ensures))
    ∙ c.loop-piece.invariant.1
