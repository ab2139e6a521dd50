-- A name is found where an id is kept with the same bytes.
use Rattle.std.proofs.Common.{List, ap, ◌∙◌, subst}
use Rattle.std.specs.Prelude.{IfSome}
use Rattle.sch_model.specs.declared.raw.RawRule.{RawRule}
use Rattle.sch_references.specs.Extends.{is_named}
use Rattle.sch_references.specs.Placed.{IsPlaceOf}
use Rattle.sch_references.proofs.OrderLemmas.{found-place, named-kept}
use Rattle.sch_references.proofs.order.RuleOrder.place_of.Goals as goal

pub returns-clause-found : goal.returns-clause-found
returns-clause-found c =
    c.get_index_of.ensures.found
    ∙ named-kept c.args.name.now _ c.self.inside.ids.keys c.self.invariant
    ∙ ap (λ (rules : List RawRule). is_named rules c.args.name.now) c.self.view_is

pub returns-clause-place : goal.returns-clause-place
returns-clause-place c =
    subst (λ (rules : List RawRule). IfSome c.get_index_of.result (IsPlaceOf rules c.args.name.now)) c.self.view_is
    (found-place c.args.name.now _ c.self.inside.ids.keys c.get_index_of.result c.self.invariant c.get_index_of.ensures.index)
