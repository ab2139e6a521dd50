-- The other indexes stay as they are.
use Rattle.std.proofs.Common.{refl}
use Rattle.read_index.proofs.ReadLemmas.{none_then, stays_all}
use Rattle.read_index.proofs.read_index.ReadIndex.take_filed.Goals as goal

pub returns-then-far-clause-unchanged : goal.returns-then-far-clause-unchanged
returns-then-far-clause-unchanged c =
    let old = c.args.self.now in
    none_then c.take.result
    (stays_all old (record { cells = old.cells; named = old.named; near = old.near; far = c.take.new.self }) (λ u r. refl) (λ u r. refl)
    (λ u r. refl))
    c.take.ensures.unchanged

pub returns-else-far-clause-unchanged : goal.returns-else-far-clause-unchanged
returns-else-far-clause-unchanged c =
    let old = c.args.self.now in
    let now = c.take-else-far in
    none_then now.result
    (λ near. stays_all old (record { cells = old.cells; named = old.named; near = now.new.self; far = old.far }) (λ u r. refl) (λ u r. refl) near
    (λ u r. refl))
    now.ensures.unchanged
