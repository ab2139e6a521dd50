-- One let more is held.
use Rattle.std.proofs.Common.{◌∙◌, ap, get_or, sym, take}
use Rattle.std.specs.Cmp.{nat_cmp_total}
use Rattle.std.specs.FinMap.{nat_cmp-IsAntisymmetric}
use Rattle.std.specs.FinSet.{from_list, from_list_push, insert}
use Rattle.std.specs.Ordering.{nat_cmp}
use Rattle.std.proofs.lemmas.List.{take_more}
use Rattle.xp_outcome.specs.Recorded.{LetSet, Recorded}
use Rattle.cell_covers.proofs.dropping.with_lets.Goals as goal

pub loop-slot-preserved : goal.loop-slot-preserved
loop-slot-preserved c =
    let slots = c.args.slots.now in
    let i = c.loop-slot.slot-index in
    let slot = get_or slots i 0 in
    let noted = c.in_ok-add_let.ensures.noted in
    record {
      lets = ap (λ (r : Recorded). r.lets) noted
          ∙ ap (λ (s : LetSet). insert s slot) c.loop-slot.invariant.lets
          ∙ sym (from_list_push nat_cmp_total nat_cmp-IsAntisymmetric (take i slots) slot)
          ∙ ap (λ ns. from_list {R = nat_cmp} ns) (sym (take_more slots i 0 c.loop-slot-test.true));
      cells = ap (λ (r : Recorded). r.cells) noted ∙ c.loop-slot.invariant.cells;
      names = ap (λ (r : Recorded). r.names) noted ∙ c.loop-slot.invariant.names;
    }
