-- The rules of the pattern at that place.
use Rattle.std.proofs.Common.{◌≡◌, ◌∙◌, [], slice_index_or, ap, sym}
use Rattle.sch_compiled.specs.declared.parts.PlanPattern.{PlanPattern}
use Rattle.edit_session.proofs.CountingLemmas.{at_place}
use Rattle.edit_session.proofs.counting.rules_of.Goals as goal

pub returns : goal.returns
returns c =
    let patterns = c.args.plan.now.patterns in
    let is : c.index-as_slice-p.result ≡ slice_index_or patterns c.args.p c.index-as_slice-p.result = rw c.as_slice.ensures at c.index-as_slice-p.is in
    sym (at_place (λ (pattern : PlanPattern). pattern.rules) patterns c.args.p c.index-as_slice-p.result [] is c.requires
    ∙ ap (λ (pattern : PlanPattern). pattern.rules) c.index-as_slice-p.is)
