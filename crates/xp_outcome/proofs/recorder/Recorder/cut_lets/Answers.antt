use Rattle.std.proofs.Common.{◌∙◌, ap, nat_lt}
use Rattle.std.specs.Cmp.{nat_cmp_total}
use Rattle.std.specs.Ordering.{nat_cmp}
use Rattle.std.specs.FinMap.{nat_cmp-IsAntisymmetric}
use Rattle.std.specs.FinSet.{from_list, retain}
use Rattle.xp_outcome.proofs.Sets.{from_list-filter}
use Rattle.xp_outcome.proofs.recorder.Recorder.cut_lets.Goals as goal

pub returns : goal.returns
returns c = λ i. record {
  cells = ap (λ held. held.cells) c.self.view_is i;
  names = ap (λ held. held.names) c.self.view_is i;
  lets = (ap (λ xs. from_list {R = nat_cmp} xs) c.cut.ensures ∙ from_list-filter nat_cmp_total nat_cmp-IsAntisymmetric (λ s. nat_lt s c.args.len) _
      ∙ ap (λ held. retain held.lets (λ slot. nat_lt slot c.args.len)) c.self.view_is) i;
}
