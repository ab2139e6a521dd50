use Rattle.std.proofs.Common.{◌≡◌, List, ap, subst, ◌∙◌, map, not}
use Rattle.std.specs.Prelude.{IfOk, filter}
use Rattle.sch_model.specs.declared.flat.FlatPattern.{FlatPattern}
use Rattle.sch_expansion.specs.Flat.{concrete_patterns, flat_pattern}
use Rattle.sch_expansion.specs.inner.FlatBy.{flat_by}
use Rattle.sch_expansion.proofs.FlatLemmas.{flat-ordered}
use Rattle.sch_expansion.proofs.flat.flat_patterns.Goals as goal

pub returns-in-Ok-Ok : goal.returns-in-Ok-Ok
returns-in-Ok-Ok c =
    let its : map (flat_by c.in-Ok-Ok.expansion c.in-Ok-Ok.origins) (filter (λ pattern. not pattern.is_abstract) c.as_slice-in-Ok-Ok.result.now) ≡ map (flat_pattern c.args.schema.now) (concrete_patterns c.args.schema.now) =
    ap (λ rules. map (flat_by rules c.in-Ok-Ok.origins) (filter (λ pattern. not pattern.is_abstract) c.as_slice-in-Ok-Ok.result.now)) c.in-Ok-Ok.ensures
    ∙ ap (λ patterns. map (flat_by c.args.rules.now patterns) (filter (λ pattern. not pattern.is_abstract) c.as_slice-in-Ok-Ok.result.now)) (c.in-Ok-Ok.ensures' ∙ c.as_slice.ensures)
    ∙ ap (λ patterns. map (flat_by c.args.rules.now c.args.schema.now.patterns) (filter (λ pattern. not pattern.is_abstract) patterns)) c.as_slice-in-Ok-Ok.ensures
    ∙ flat-ordered c.args.schema.now c.args.rules.now (concrete_patterns c.args.schema.now) c.requires.ordered in
    subst (λ (patterns : List FlatPattern). IfOk c.patterns.result (λ flat. flat ≡ patterns)) its c.patterns.ensures
