-- A place before the place.
use Rattle.std.proofs.Common.{sym}
use Rattle.std.proofs.lemmas.Bool.{ltb-true}
use Rattle.sch_references.proofs.BeforeLemmas.{stands}
use Rattle.sch_references.proofs.order.RuleOrder.stands_before.Goals as goal

pub returns : goal.returns
returns c = λ h. stands c.args.self.now c.args.name.now c.args.id.now c.in-Some.place c.in-Some-place_of.end c.in-Some.ensures.place c.in-Some-place_of.ensures.place (sym c.in-Some-place_of.ensures.found) (ltb-true c.in-Some.place c.in-Some-place_of.end h)
