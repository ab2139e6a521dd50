-- No cell has an outcome, and none is marked.
use Rattle.std.proofs.Common.{◌≡◌, ◌∙◌, ℕ, ◌*◌, ◌^◌, ◌≤◌, None, length, slice_index_or, sym, ap, refl, arith, rules}
use Rattle.std.proofs.Math.Nat.{mul-le-mul_right}
use Rattle.sch_compiled.specs.inner.Marks.{mark_of}
use Rattle.sch_compiled.proofs.FindingsLemmas.{held-none, same_items}
use Rattle.sch_compiled.proofs.findings.Findings.for_nodes.Goals as goal

pub invariant_of-result : goal.invariant_of-result
invariant_of-result c =
    let count = c.args.nodes * c.args.patterns in
    let few : length c.new-cells.result.items ≤ count = omega (arith, ap length c.new-cells.ensures.items) in
    let none : (i : ℕ) → slice_index_or c.resize_with.new.self.items i None ≡ None = λ i.
    same_items _ _ (λ f x g k. search rules) count c.new-cells.result.items c.resize_with.new.self.items _ few c.in_ok-resize_with.ensures.items i
    ∙ ap (λ l. slice_index_or l i None) c.new-cells.ensures.items in
    let unmarked : length c.new-marks.result.items ≤ 2 ^ 32 * c.args.patterns = omega (arith, ap length c.new-marks.ensures.items) in
    let nodes : c.args.nodes ≤ 2 ^ 32 = omega (arith, c.ranges.nodes.fits) in
    record {
      each = λ i. c.in_ok-make_room.ensures.same i ∙ ap (λ l. slice_index_or l i 0) c.new-marks.ensures.items ∙ sym (ap mark_of (none i));
      room = omega (arith, c.in_ok-resize_with.ensures.len, c.resize_with.new.self.ok.0, c.in_ok-make_room.ensures.there);
      few = c.in_ok-make_room.ensures.few (2 ^ 32 * c.args.patterns) (mul-le-mul_right c.args.patterns nodes) unmarked;
    }

pub returns : goal.returns
returns c =
    let count = c.args.nodes * c.args.patterns in
    let few : length c.new-cells.result.items ≤ count = omega (arith, ap length c.new-cells.ensures.items) in
    record {
      patterns = refl;
      empty = held-none c.args.patterns 0 0 c.resize_with.new.self.items (λ i.
          same_items _ _ (λ f x g k. search rules) count c.new-cells.result.items c.resize_with.new.self.items _ few c.in_ok-resize_with.ensures.items i
          ∙ ap (λ l. slice_index_or l i None) c.new-cells.ensures.items);
    }
