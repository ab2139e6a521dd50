-- The pattern itself, then its rules.
use Rattle.std.proofs.Common.{◌∷◌, []}
use Rattle.sch_references.specs.References.{origin_place, rule_places}
use Rattle.sch_references.specs.inner.KnownIds.{known_by}
use Rattle.sch_references.proofs.OntoLemmas.{onto-then}
use Rattle.sch_references.proofs.ids.Ids.check_pattern.Goals as goal

pub returns : goal.returns
returns c =
    onto-then c.check_rules.result c.args.first.now c.check_origin.new.first c.check_rules.new.first (origin_place (known_by c.args.self.now) c.args.pattern.now ∷ [])
    (rule_places (known_by c.args.self.now) c.args.self.now.rules) c.as_slice.result.now c.args.pattern.now.rules c.as_slice.ensures c.in_ok-check_origin.ensures c.check_rules.ensures
