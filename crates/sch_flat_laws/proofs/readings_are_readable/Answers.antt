-- Place by place.
use Rattle.sch_flat_laws.proofs.Rules.AllowedNames.{allowed}
use Rattle.sch_flat_laws.proofs.Rules.Readable.{readable}
use Rattle.sch_flat_laws.proofs.readings_are_readable.Goals as goal

pub returns : goal.returns
returns c = λ T schema.
    let laws = c.well_formed_is_enough.ensures T schema.well_formed in
    (readable T schema.made c.ids_are_read_back.ensures c.texts_stand_apart.ensures, allowed T schema.well_formed laws.0 laws.1 schema.unbroken)
