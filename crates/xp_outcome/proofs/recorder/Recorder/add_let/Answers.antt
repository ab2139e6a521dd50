use Rattle.std.proofs.Common.{◌∙◌, ap, rules}
use Rattle.std.specs.FinSet.{insert}
use Rattle.std.specs.Cmp.{nat_cmp_total}
use Rattle.std.specs.FinMap.{nat_cmp-IsAntisymmetric}
use Rattle.xp_outcome.proofs.Sets.{one_more, same_items, on_ok, on_err}
use Rattle.xp_outcome.proofs.recorder.Recorder.add_let.Goals as goal

pub returns-clause-noted : goal.returns-clause-noted
returns-clause-noted c = on_ok c.add.result
    (λ more i. record {
      cells = ap (λ held. held.cells) c.self.view_is i;
      names = ap (λ held. held.names) c.self.view_is i;
      lets = (one_more nat_cmp_total nat_cmp-IsAntisymmetric _ (λ x y h. search rules) _ _ _ more ∙ ap (λ held. insert held.lets c.args.slot) c.self.view_is) i;
    }) c.add.ensures.added

pub returns-clause-unchanged : goal.returns-clause-unchanged
returns-clause-unchanged c = on_err c.add.result
    (λ alike i. record {
      cells = ap (λ held. held.cells) c.self.view_is i;
      names = ap (λ held. held.names) c.self.view_is i;
      lets = (same_items nat_cmp_total nat_cmp-IsAntisymmetric _ (λ x y h. search rules) _ _ alike ∙ ap (λ held. held.lets) c.self.view_is) i;
    }) c.add.ensures.unchanged
