use Rattle.std.proofs.Common.{◌∙◌, ap}
use Rattle.std.specs.FinSet.{insert}
use Rattle.xp_outcome.proofs.Sets.{names_cmp_total, names_cmp_antisymmetric, names_exact, one_more, same_items, on_ok, on_err}
use Rattle.xp_outcome.proofs.recorder.Recorder.add_names.Goals as goal

pub returns-clause-noted : goal.returns-clause-noted
returns-clause-noted c = on_ok c.add.result
    (λ more i. record {
      cells = ap (λ held. held.cells) c.self.view_is i;
      names = (one_more names_cmp_total names_cmp_antisymmetric _ names_exact _ _ _ more ∙ ap (λ held. insert held.names (record { axis = c.args.axis; node = c.args.node })) c.self.view_is) i;
      lets = ap (λ held. held.lets) c.self.view_is i;
    }) c.add.ensures.added

pub returns-clause-unchanged : goal.returns-clause-unchanged
returns-clause-unchanged c = on_err c.add.result
    (λ alike i. record {
      cells = ap (λ held. held.cells) c.self.view_is i;
      names = (same_items names_cmp_total names_cmp_antisymmetric _ names_exact _ _ alike ∙ ap (λ held. held.names) c.self.view_is) i;
      lets = ap (λ held. held.lets) c.self.view_is i;
    }) c.add.ensures.unchanged
