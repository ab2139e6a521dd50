use Rattle.sch_plan.proofs.scopes.Scopes.one_part.Goals as goal

pub returns-in-ValueOf : goal.returns-in-ValueOf
returns-in-ValueOf c = rw c.in-ValueOf.is (rw c.as_str-in-ValueOf.ensures at c.value_part.ensures)
