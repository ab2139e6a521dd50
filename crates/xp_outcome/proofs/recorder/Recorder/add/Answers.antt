use Rattle.std.proofs.Common.{◌∙◌, ap, rules}
use Rattle.std.specs.FinSet.{insert}
use Rattle.xp_outcome.proofs.Sets.{cell_cmp_total, cell_cmp_antisymmetric, one_more, same_items, on_ok, on_err}
use Rattle.xp_outcome.proofs.recorder.Recorder.add.Goals as goal

pub returns-clause-noted : goal.returns-clause-noted
returns-clause-noted c = on_ok c.add.result
    (λ more i. record {
      cells = (one_more cell_cmp_total cell_cmp_antisymmetric _ (λ x y h. search rules) _ _ _ more ∙ ap (λ held. insert held.cells c.args.cell) c.self.view_is) i;
      names = ap (λ held. held.names) c.self.view_is i;
      lets = ap (λ held. held.lets) c.self.view_is i;
    }) c.add.ensures.added

pub returns-clause-unchanged : goal.returns-clause-unchanged
returns-clause-unchanged c = on_err c.add.result
    (λ alike i. record {
      cells = (same_items cell_cmp_total cell_cmp_antisymmetric _ (λ x y h. search rules) _ _ alike ∙ ap (λ held. held.cells) c.self.view_is) i;
      names = ap (λ held. held.names) c.self.view_is i;
      lets = ap (λ held. held.lets) c.self.view_is i;
    }) c.add.ensures.unchanged
