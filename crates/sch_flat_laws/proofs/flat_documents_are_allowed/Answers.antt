-- What is read of the document is allowed, and is the schema but for places.
use Rattle.sch_rules.specs.RawSchema.{raw_schema}
use Rattle.sch_expansion.specs.Flat.{flat_schema}
use Rattle.sch_flat_laws.proofs.Rules.AllowedAlike.{allowed_alike}
use Rattle.sch_flat_laws.proofs.flat_documents_are_allowed.Goals as goal

pub returns : goal.returns
returns c = λ schema T scoped good unbroken.
    let read = c.readings_are_readable.ensures T
    (record { well_formed = scoped.well_formed; made = c.scoped_trees_are_made.ensures T scoped.in_scope; numbered = scoped.numbered; unbroken = unbroken }) in
    allowed_alike (flat_schema (raw_schema T)) schema (c.expansion_stays.ensures schema T scoped good) read.1
