use Rattle.std.proofs.Common.{◌∙◌, ap, rules}
use Rattle.std.specs.Cmp.{nat_cmp_total}
use Rattle.std.specs.FinMap.{nat_cmp-IsAntisymmetric}
use Rattle.std.specs.FinSet.{from_list}
use Rattle.xp_outcome.proofs.Sets.{cell_cmp_total, cell_cmp_antisymmetric, names_cmp_total, names_cmp_antisymmetric, names_exact, always_err, joined_set, same_items}
use Rattle.xp_outcome.proofs.recorder.Recorder.join.Goals as goal

pub returns-in_err-make_room_for-clause-unchanged : goal.returns-in_err-make_room_for-clause-unchanged
returns-in_err-make_room_for-clause-unchanged c = always_err c.from_residual.result (λ i. record {
  cells = (same_items cell_cmp_total cell_cmp_antisymmetric _ (λ x y h. search rules) _ _ c.make_room_for.ensures.same ∙ ap (λ held. held.cells) c.self.view_is) i;
  names = ap (λ held. held.names) c.self.view_is i;
  lets = ap (λ held. held.lets) c.self.view_is i;
})

pub returns-in_err-make_room_for-2-clause-unchanged : goal.returns-in_err-make_room_for-2-clause-unchanged
returns-in_err-make_room_for-2-clause-unchanged c = always_err c.from_residual-in_err-make_room_for-2.result (λ i. record {
  cells = (same_items cell_cmp_total cell_cmp_antisymmetric _ (λ x y h. search rules) _ _ c.make_room_for.ensures.same ∙ ap (λ held. held.cells) c.self.view_is) i;
  names = (same_items names_cmp_total names_cmp_antisymmetric _ names_exact _ _ c.make_room_for-2.ensures.same ∙ ap (λ held. held.names) c.self.view_is) i;
  lets = ap (λ held. held.lets) c.self.view_is i;
})

pub returns-in_err-make_room_for-3-clause-unchanged : goal.returns-in_err-make_room_for-3-clause-unchanged
returns-in_err-make_room_for-3-clause-unchanged c = always_err c.from_residual-in_err-make_room_for-3.result (λ i. record {
  cells = (same_items cell_cmp_total cell_cmp_antisymmetric _ (λ x y h. search rules) _ _ c.make_room_for.ensures.same ∙ ap (λ held. held.cells) c.self.view_is) i;
  names = (same_items names_cmp_total names_cmp_antisymmetric _ names_exact _ _ c.make_room_for-2.ensures.same ∙ ap (λ held. held.names) c.self.view_is) i;
  lets = (same_items nat_cmp_total nat_cmp-IsAntisymmetric _ (λ x y h. search rules) _ _ c.make_room_for-3.ensures.same ∙ ap (λ held. held.lets) c.self.view_is) i;
})

pub returns-clause-joined : goal.returns-clause-joined
returns-clause-joined c = λ i. record {
  cells = joined_set cell_cmp_total cell_cmp_antisymmetric _ (λ x y h. search rules) _ _ _ _ c.make_room_for.ensures.same c.join.ensures.joined
      (ap (λ held. held.cells) c.self.view_is) (ap from_list c.as_slice-4.ensures ∙ ap (λ held. held.cells) c.more.view_is) i;
  names = joined_set names_cmp_total names_cmp_antisymmetric _ names_exact _ _ _ _ c.make_room_for-2.ensures.same c.join-2.ensures.joined
      (ap (λ held. held.names) c.self.view_is) (ap from_list c.as_slice-5.ensures ∙ ap (λ held. held.names) c.more.view_is) i;
  lets = joined_set nat_cmp_total nat_cmp-IsAntisymmetric _ (λ x y h. search rules) _ _ _ _ c.make_room_for-3.ensures.same c.join-3.ensures.joined
      (ap (λ held. held.lets) c.self.view_is) (ap from_list c.as_slice-6.ensures ∙ ap (λ held. held.lets) c.more.view_is) i;
}
