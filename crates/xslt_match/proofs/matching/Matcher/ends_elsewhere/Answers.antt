use Rattle.std.proofs.Common.{◌∙◌, ap, sym, map}
use Rattle.std.specs.Prelude.{not}
use Rattle.xp_typed_tree.specs.TypedView.{pattern_step_seen}
use Rattle.xslt_match.specs.inner.Ends.{ends_elsewhere}
use Rattle.xslt_match.specs.Kept.{last_step}
use Rattle.xslt_match.proofs.Chaining.{ends-last}
use Rattle.xslt_match.proofs.Keeping.{last_behind}
use Rattle.xslt_match.proofs.matching.Matcher.ends_elsewhere.Goals as goal

pub passes_last-requires-clause-last : goal.passes_last-requires-clause-last
passes_last-requires-clause-last c =
    ap (λ ss. last_step (map pattern_step_seen ss)) (sym c.deref.ensures.value ∙ c.in-Some.ensures.cases.0) ∙ last_behind c.in-Some.field-0-1.now c.in-Some.last.now

pub returns-in-Some-clause-ends : goal.returns-in-Some-clause-ends
returns-in-Some-clause-ends c =
    let m = c.args.self.now in
    ap not c.passes_last.ensures.passes ∙ sym (ends-last m.evaluator.caller.tree.now.nodes m.node c.in-Some.field-0-1.now c.in-Some.last.now)
    ∙ sym (ap (λ ss. ends_elsewhere m.evaluator.caller.tree.now.nodes (map pattern_step_seen ss) m.node) (sym c.deref.ensures.value ∙ c.in-Some.ensures.cases.0))
