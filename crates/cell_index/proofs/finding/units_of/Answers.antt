-- The units of one set more are found, and at last those of all.
use Rattle.std.proofs.Common.{ℕ, []}
use Rattle.std.proofs.lemmas.List.{get_or_default}
use Rattle.std.specs.Prelude.{slice_index_or}
use Rattle.cell_index.specs.inner.Sharing.{is_member}
use Rattle.cell_index.proofs.GatheringLemmas.{finds_end, finds_more}
use Rattle.cell_index.proofs.finding.units_of.Goals as goal

pub loop-set-preserved : goal.loop-set-preserved
loop-set-preserved c = λ members.
    let sets = c.args.sets.now in
    let i = c.loop-set.set-index in
    let x = slice_index_or sets i 0 in
    finds_more (λ (s unit : ℕ). is_member c.args.of_unit.now s unit) sets i x [] c.loop-set.found.items c.push_units.new.found.items
    c.loop-set-test.true (get_or_default sets i 0 x c.loop-set-test.true) (c.in_ok-push_units.ensures members) (c.loop-set.invariant members)

pub returns : goal.returns
returns c = λ members.
    finds_end (λ (s unit : ℕ). is_member c.args.of_unit.now s unit) c.args.sets.now c.loop-set.set-index [] c.loop-set.found.items c.loop-set-test.false (c.loop-set.invariant members)
