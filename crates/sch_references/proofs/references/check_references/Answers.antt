-- The first fault is told; without one there is an order.
use Rattle.sch_references.specs.inner.KnownIds.{known_by}
use Rattle.sch_references.proofs.CheckLemmas.{is-some, order-of, refused, unbroken}
use Rattle.sch_references.proofs.references.check_references.Goals as goal

pub into_order-requires : goal.into_order-requires
into_order-requires c =
    is-some c.args.schema.now c.in_ok-ids.ids.rules c.in_ok-ids.ids.order
    (unbroken (known_by c.in_ok-ids.ids) c.in_ok-ids.ids.rules c.args.schema.now c.in_ok-ids.ensures.known c.in_ok-ids.ensures.rules c.in-Ok.ensures)
    c.in_ok-ids.ensures.rules c.in_ok-ids.ensures.ordered

pub returns-in-Err-clause-refused : goal.returns-in-Err-clause-refused
returns-in-Err-clause-refused c =
    refused (known_by c.in_ok-ids.ids) c.in_ok-ids.ids.rules c.args.schema.now c.in-Err.error c.in_ok-ids.ensures.known c.in_ok-ids.ensures.rules c.in-Err.ensures

pub returns-in-Ok-clause-unbroken : goal.returns-in-Ok-clause-unbroken
returns-in-Ok-clause-unbroken c =
    unbroken (known_by c.in_ok-ids.ids) c.in_ok-ids.ids.rules c.args.schema.now c.in_ok-ids.ensures.known c.in_ok-ids.ensures.rules c.in-Ok.ensures

pub returns-in-Ok-clause-ordered : goal.returns-in-Ok-clause-ordered
returns-in-Ok-clause-ordered c =
    order-of c.args.schema.now c.in_ok-ids.ids.rules c.in_ok-ids.ids.order c.into_order.result
    (unbroken (known_by c.in_ok-ids.ids) c.in_ok-ids.ids.rules c.args.schema.now c.in_ok-ids.ensures.known c.in_ok-ids.ensures.rules c.in-Ok.ensures)
    c.in_ok-ids.ensures.rules c.in_ok-ids.ensures.ordered c.into_order.ensures
