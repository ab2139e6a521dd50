-- Each of the two has the plans of the schema whose parts all stand at node 0.
use Rattle.sch_plan_laws.proofs.AlikeParts.{same-plans}
use Rattle.sch_plan_laws.proofs.laws.plans_need_no_places.Goals as goal

pub returns : goal.returns
returns c = same-plans
