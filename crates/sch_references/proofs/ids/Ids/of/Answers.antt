-- The ids that are kept are those of the schema.
use Rattle.std.proofs.Common.{◌≡◌, ◌∙◌}
use Rattle.std.proofs.lemmas.Result.{IfOk-weaker}
use Rattle.sch_references.specs.References.{known_in}
use Rattle.sch_references.specs.declared.ids.Ids.{Ids}
use Rattle.sch_references.specs.inner.KnownIds.{known_by, no_parts, with_parts}
use Rattle.sch_references.proofs.CheckLemmas.{known-parts}
use Rattle.sch_references.proofs.ids.Ids.of.Goals as goal

pub returns-in-Ok-clause-known : goal.returns-in-Ok-clause-known
returns-in-Ok-clause-known c =
    IfOk-weaker c.with_order.result (λ (ids : Ids). known_by ids ≡ with_parts (no_parts c.in_ok-rules.rules) c.args.schema.now) (λ (ids : Ids). known_by ids ≡ known_in c.args.schema.now)
    (λ ids same. same ∙ known-parts c.in_ok-rules.rules c.args.schema.now c.in_ok-rules.ensures) c.with_order.ensures.known
