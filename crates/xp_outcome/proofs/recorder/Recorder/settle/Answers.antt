use Rattle.std.proofs.Common.{◌∙◌, ap, rules}
use Rattle.std.specs.Cmp.{nat_cmp_total}
use Rattle.std.specs.FinMap.{nat_cmp-IsAntisymmetric}
use Rattle.xp_outcome.proofs.Sets.{cell_cmp_total, cell_cmp_antisymmetric, names_cmp_total, names_cmp_antisymmetric, names_exact, same_items}
use Rattle.xp_outcome.proofs.recorder.Recorder.settle.Goals as goal

pub returns : goal.returns
returns c = λ i. record {
  cells = (same_items cell_cmp_total cell_cmp_antisymmetric _ (λ x y h. search rules) _ _ c.shrink.ensures ∙ ap (λ held. held.cells) c.self.view_is) i;
  names = (same_items names_cmp_total names_cmp_antisymmetric _ names_exact _ _ c.shrink-2.ensures ∙ ap (λ held. held.names) c.self.view_is) i;
  lets = (same_items nat_cmp_total nat_cmp-IsAntisymmetric _ (λ x y h. search rules) _ _ c.shrink-3.ensures ∙ ap (λ held. held.lets) c.self.view_is) i;
}
