-- One hint more, and at last all.
use Rattle.std.proofs.Common.{◌≡◌, ℕ, true, List, refl, subst, sym}
use Rattle.std.specs.List.{Contains}
use Rattle.std.specs.Prelude.{slice_index_or}
use Rattle.cell_index.specs.inner.Chains.{InChain}
use Rattle.cell_index.specs.inner.Sharing.{set_has}
use Rattle.cell_index.proofs.GatheringLemmas.{gathers_begin, gathers_end, gathers_more}
use Rattle.cell_index.proofs.finding.push_sets.Goals as goal

pub loop-set-init : goal.loop-set-init
loop-set-init c = gathers_begin (λ (set : ℕ). set_has c.args.sets.now set c.args.cell.now) _ c.args.found.now.items

pub loop-set-preserved : goal.loop-set-preserved
loop-set-preserved c =
    let hints = c.deref-set-items.result.now in
    gathers_more (λ (set : ℕ). set_has c.args.sets.now set c.args.cell.now) hints c.args.found.now.items c.loop-set.set-index (slice_index_or hints c.loop-set.set-index 0)
    c.loop-set.found.items c.push_if.new.numbers.items c.set_has.result refl c.set_has.ensures c.in_ok-push_if.ensures.stays c.in_ok-push_if.ensures.each c.in_ok-push_if.ensures.there c.loop-set.invariant

pub returns : goal.returns
returns c = λ readers.
    let hints = c.deref-set-items.result.now in
    let hinted : (n : ℕ) → set_has c.args.sets.now n c.args.cell.now ≡ true → Contains hints n = λ n it.
    subst (λ (all : List ℕ). Contains all n) (sym c.deref-set-items.ensures.value)
    (c.in_ok-hints.ensures n (subst (λ (key : ℕ). InChain c.args.readers.now key n) (sym c.cell_number.ensures) (readers n c.args.cell.now it))) in
    gathers_end (λ (set : ℕ). set_has c.args.sets.now set c.args.cell.now) hints c.args.found.now.items c.loop-set.set-index c.loop-set.found.items c.loop-set-test.false hinted c.loop-set.invariant
