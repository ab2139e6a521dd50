-- Where the one index has none, the other may have one.
use Rattle.std.proofs.Common.{refl}
use Rattle.read_index.proofs.FilingLemmas.{nothing_else}
use Rattle.read_index.proofs.ReadLemmas.{none_cell, none_then, removed_elsewhere, some_then, stays_all, taken_cell, taken_named}
use Rattle.read_index.proofs.read_index.ReadIndex.take_cell.Goals as goal

pub returns-in-Some-clause-took : goal.returns-in-Some-clause-took
returns-in-Some-clause-took c =
    let old = c.args.self.now in
    let unit = c.in-Some.unit in (
      taken_cell old unit c.args.cell.now c.in-Some.ensures.took.0,
      record {
        cells = removed_elsewhere unit old.cells c.take.new.self c.in-Some.ensures.took.1;
        named = nothing_else unit old.named;
        near = nothing_else unit old.near;
        far = nothing_else unit old.far;
      },
    )

pub returns-in-None-clause-took : goal.returns-in-None-clause-took
returns-in-None-clause-took c =
    let old = c.args.self.now in
    some_then c.take-in-None.result
    (λ unit took. (
      taken_named old unit c.args.cell.now took.0,
      record {
        cells = λ u cell differ. c.in-None.ensures.unchanged u cell;
        named = removed_elsewhere unit old.named c.take-in-None.new.self took.1;
        near = nothing_else unit old.near;
        far = nothing_else unit old.far;
      },
    ))
    c.take-in-None.ensures.took

pub returns-in-None-clause-none : goal.returns-in-None-clause-none
returns-in-None-clause-none c =
    none_then c.take-in-None.result (none_cell c.args.self.now c.args.cell.now c.in-None.ensures.none) c.take-in-None.ensures.none

pub returns-in-None-clause-unchanged : goal.returns-in-None-clause-unchanged
returns-in-None-clause-unchanged c =
    let old = c.args.self.now in
    none_then c.take-in-None.result
    (λ named. stays_all old (record { cells = c.take.new.self; named = c.take-in-None.new.self; near = old.near; far = old.far })
    c.in-None.ensures.unchanged named (λ u r. refl) (λ u r. refl))
    c.take-in-None.ensures.unchanged
