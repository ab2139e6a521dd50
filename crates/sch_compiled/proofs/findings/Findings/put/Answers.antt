-- The cell of the node and the pattern has the outcome, and the others stay.
use Rattle.std.proofs.Common.{◌≡◌, ◌∙◌, ℕ, ◌+◌, ◌*◌, ◌^◌, ◌<◌, ◌≤◌, ap, Some, None, length, slice_index_or, sym, arith, refl, rules}
use Rattle.sch_compiled.specs.Findings.{OutcomeTable}
use Rattle.sch_compiled.specs.inner.Cells.{shown}
use Rattle.sch_compiled.specs.inner.Marks.{mark_of}
use Rattle.sch_compiled.proofs.FindingsLemmas.{set-puts, same_items}
use Rattle.sch_compiled.proofs.MarkLemmas.{more-marked, set-marked}
use Rattle.sch_compiled.proofs.findings.Findings.put.Goals as goal
use Rattle.sch_compiled.proofs.findings.Findings.put.Goals.{then-place-len+in_ok-resize_with, else-place-len}

pub returns-clause-puts : goal.returns-clause-puts
returns-clause-puts c =
    let was : c.args.self.now ≡ shown c.self.inside.patterns c.self.inside.cells.items = sym c.self.view_is in
    let low : c.args.p < c.self.inside.patterns = omega (arith, c.requires, ap (λ (t : OutcomeTable). t.patterns) was) in
    elim c.if-place-len.branch [
      | then-place-len+in_ok-resize_with w ↦ set-puts c.args.self.now _ c.self.inside.patterns c.self.inside.cells.items w.resize_with.new.self.items c.place_of-place.result c.args.p c.args.n (Some c.args.o)
          was (rw w.self-inside-is refl) low c.place_of-place.ensures.place (omega (arith, w.in_ok-resize_with.ensures.len, w.resize_with.new.self.ok.0))
          (same_items _ _ (λ f x g k. search rules) (c.place_of-place.result + 1) c.self.inside.cells.items w.resize_with.new.self.items _ (omega arith) w.in_ok-resize_with.ensures.items)
      | else-place-len w ↦ set-puts c.args.self.now _ c.self.inside.patterns c.self.inside.cells.items c.self.inside.cells.items c.place_of-place.result c.args.p c.args.n (Some c.args.o)
          was (rw w.self-inside-is refl) low c.place_of-place.ensures.place (omega (arith, c.self.inside.cells.ok.0))
          (λ i. refl)
    ]

pub invariant_of-self : goal.invariant_of-self
invariant_of-self c =
    let was : c.args.self.now ≡ shown c.self.inside.patterns c.self.inside.cells.items = sym c.self.view_is in
    let low : c.args.p < c.self.inside.patterns = omega (arith, c.requires, ap (λ (t : OutcomeTable). t.patterns) was) in
    let bound : c.place_of-place.result + 1 ≤ 2 ^ 32 * c.self.inside.patterns = omega (arith, c.place_of-place.ensures.bounded low) in
    more-marked c.self.inside.patterns c.self.inside.cells.items c.self.inside.marks.items c.make_room.new.marks.items c.self.invariant
    c.in_err-make_room.ensures.same c.in_err-make_room.ensures.more (c.in_err-make_room.ensures.few (2 ^ 32 * c.self.inside.patterns) bound c.self.invariant.few)

pub invariant_of-self-2 : goal.invariant_of-self-2
invariant_of-self-2 c =
    let was : c.args.self.now ≡ shown c.self.inside.patterns c.self.inside.cells.items = sym c.self.view_is in
    let low : c.args.p < c.self.inside.patterns = omega (arith, c.requires, ap (λ (t : OutcomeTable). t.patterns) was) in
    let bound : c.place_of-place.result + 1 ≤ 2 ^ 32 * c.self.inside.patterns = omega (arith, c.place_of-place.ensures.bounded low) in
    let few : length c.make_room.new.marks.items ≤ 2 ^ 32 * c.self.inside.patterns = c.in_ok-make_room.ensures.few (2 ^ 32 * c.self.inside.patterns) bound c.self.invariant.few in
    let each : (i : ℕ) → slice_index_or c.make_room.new.marks.items i 0 ≡ mark_of (slice_index_or c.self.inside.cells.items i None) = λ i. c.in_ok-make_room.ensures.same i ∙ c.self.invariant.each i in
    elim c.if-place-len.branch [
      | then-place-len+in_ok-resize_with w ↦ rw w.self-inside-is (set-marked c.self.inside.patterns w.resize_with.new.self.items c.make_room.new.marks.items c.place_of-place.result (Some c.args.o) c.mark_of.result
          (λ i. each i ∙ sym (ap mark_of (same_items _ _ (λ f x g k. search rules) (c.place_of-place.result + 1) c.self.inside.cells.items w.resize_with.new.self.items _ (omega arith) w.in_ok-resize_with.ensures.items i)))
          c.mark_of.ensures
          (omega (arith, w.in_ok-resize_with.ensures.len, w.resize_with.new.self.ok.0))
          (omega (arith, w.in_ok-resize_with.ensures.len, w.resize_with.new.self.ok.0, c.in_ok-make_room.ensures.there)) few)
      | else-place-len w ↦ rw w.self-inside-is (set-marked c.self.inside.patterns c.self.inside.cells.items c.make_room.new.marks.items c.place_of-place.result (Some c.args.o) c.mark_of.result
          each
          c.mark_of.ensures
          (omega (arith, c.self.inside.cells.ok.0))
          (omega (arith, c.self.invariant.room, c.in_ok-make_room.ensures.more)) few)
    ]
