-- A unit that is taken from one index is removed from all.
use Rattle.read_index.proofs.ReadLemmas.{none_filed, removes_after, taken_filed}
use Rattle.read_index.proofs.read_index.ReadIndex.take_names.Goals as goal

pub returns-in-Some-clause-took : goal.returns-in-Some-clause-took
returns-in-Some-clause-took c =
    let old = c.args.self.now in
    let names = c.args.names.now in (
      taken_filed old c.in-Some.unit names.axis names.node c.is_far.result c.filed.result c.is_far.ensures c.filed.ensures c.in-Some.ensures.took.0,
      removes_after c.in-Some.unit old c.take_filed.new.self c.remove.new.self c.in-Some.ensures.took.1 c.remove.ensures,
    )

pub returns-in-None-clause-none : goal.returns-in-None-clause-none
returns-in-None-clause-none c =
    none_filed c.args.self.now c.args.names.now.axis c.args.names.now.node c.is_far.result c.filed.result c.is_far.ensures c.filed.ensures
    c.in-None.ensures.none
