-- The sorted numbers without repeats.
use Rattle.std.proofs.Common.{List, ℕ, eqb, sym, subst}
use Rattle.std.specs.List.{Contains}
use Rattle.std.specs.List.Sorted.{IsStrictlyIncreasing}
use Rattle.std.proofs.lemmas.List.Filters.{dedup_is}
use Rattle.std.proofs.lemmas.List.Kept.{Contains-dedup_nat, Contains-from_dedup}
use Rattle.std.proofs.lemmas.List.Sorted.{Contains-permutation, IsPermutation-sym}
use Rattle.std.proofs.lemmas.Map.Keys.{IsStrictlyIncreasing-dedup}
use Rattle.cell_index.proofs.gathering.in_order.Goals as goal

pub returns-clause-rising : goal.returns-clause-rising
returns-clause-rising c =
    let sorted = c.sort_unstable.new.self.items in
    subst IsStrictlyIncreasing (sym (dedup_is eqb sorted c.dedup.new.self.items c.dedup.ensures.filtered)) (IsStrictlyIncreasing-dedup sorted c.sort_unstable.ensures.sorted)

pub returns-clause-each : goal.returns-clause-each
returns-clause-each c = λ u there.
    let sorted = c.sort_unstable.new.self.items in
    let numbers = c.args.numbers.items in
    Contains-permutation sorted numbers u (IsPermutation-sym numbers sorted c.sort_unstable.ensures.permutation)
    (Contains-from_dedup eqb sorted u (subst (λ (xs : List ℕ). Contains xs u) (dedup_is eqb sorted c.dedup.new.self.items c.dedup.ensures.filtered) there))

pub returns-clause-all : goal.returns-clause-all
returns-clause-all c = λ u there.
    let sorted = c.sort_unstable.new.self.items in
    let numbers = c.args.numbers.items in
    subst (λ (xs : List ℕ). Contains xs u) (sym (dedup_is eqb sorted c.dedup.new.self.items c.dedup.ensures.filtered))
    (Contains-dedup_nat sorted u (Contains-permutation numbers sorted u c.sort_unstable.ensures.permutation there))
