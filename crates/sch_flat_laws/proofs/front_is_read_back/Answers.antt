-- The lines of the tree are those of the document's elements, one after another.
use Rattle.sch_flat_laws.proofs.Reading.Front.{front}
use Rattle.sch_flat_laws.proofs.front_is_read_back.Goals as goal

pub returns : goal.returns
returns c = λ schema T scoped.
    let laws = c.well_formed_is_enough.ensures T scoped.well_formed in
    front T scoped.well_formed laws.1 laws.2 laws.3 scoped.in_scope schema scoped
