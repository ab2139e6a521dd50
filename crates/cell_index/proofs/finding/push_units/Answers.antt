-- One hint more, and at last all.
use Rattle.std.proofs.Common.{◌≡◌, ℕ, true, List, refl, subst, sym}
use Rattle.std.specs.List.{Contains}
use Rattle.std.specs.Prelude.{slice_index_or}
use Rattle.cell_index.specs.inner.Sharing.{is_member}
use Rattle.cell_index.proofs.GatheringLemmas.{gathers_begin, gathers_end, gathers_more}
use Rattle.cell_index.proofs.finding.push_units.Goals as goal

pub loop-unit-init : goal.loop-unit-init
loop-unit-init c = gathers_begin (is_member c.args.of_unit.now c.args.set) _ c.args.found.now.items

pub loop-unit-preserved : goal.loop-unit-preserved
loop-unit-preserved c =
    let hints = c.deref-unit-items.result.now in
    gathers_more (is_member c.args.of_unit.now c.args.set) hints c.args.found.now.items c.loop-unit.unit-index (slice_index_or hints c.loop-unit.unit-index 0)
    c.loop-unit.found.items c.push_if.new.numbers.items c.is_member.result refl c.is_member.ensures c.in_ok-push_if.ensures.stays c.in_ok-push_if.ensures.each c.in_ok-push_if.ensures.there c.loop-unit.invariant

pub returns : goal.returns
returns c = λ members.
    let hints = c.deref-unit-items.result.now in
    let hinted : (n : ℕ) → is_member c.args.of_unit.now c.args.set n ≡ true → Contains hints n = λ n it.
    subst (λ (all : List ℕ). Contains all n) (sym c.deref-unit-items.ensures.value) (c.in_ok-hints.ensures n (members c.args.set n it)) in
    gathers_end (is_member c.args.of_unit.now c.args.set) hints c.args.found.now.items c.loop-unit.unit-index c.loop-unit.found.items c.loop-unit-test.false hinted c.loop-unit.invariant
