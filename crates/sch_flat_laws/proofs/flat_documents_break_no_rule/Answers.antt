-- Place by place.
use Rattle.sch_flat_laws.proofs.Rules.DocumentRules.{breaks_none}
use Rattle.sch_flat_laws.proofs.flat_documents_break_no_rule.Goals as goal

pub returns : goal.returns
returns c = λ schema T scoped good allowed.
    let laws = c.well_formed_is_enough.ensures T scoped.well_formed in
    breaks_none T scoped.well_formed laws.0 laws.1 laws.2 laws.3 scoped.in_scope schema scoped good allowed
