-- The nodes that stand at the step are those of the later steps' origins to which it leads.
use Rattle.std.proofs.Common.{◌≡◌, ℕ, true, List, [], ◌∷◌, filter, map, sym, ap, ◌∙◌}
use Rattle.std.proofs.lemmas.Result.{IfOk-weaker}
use Rattle.std.specs.List.{list_any}
use Rattle.doc_tree.specs.Lists.{mem}
use Rattle.doc_tree.specs.Table.{is_live}
use Rattle.doc_tree.specs.Walks.{order}
use Rattle.xp_typed_tree.specs.TypedView.{pattern_step_seen}
use Rattle.xp_typed_tree.specs.TypedTree.{TypedPatternStepTree}
use Rattle.xslt_match.specs.Matching.{leads, reaches, standing}
use Rattle.xslt_match.proofs.StepsAlong.{standing_is, standing_live}
use Rattle.xslt_match.proofs.matching.Matcher.standing.Goals as goal

pub returns-clause-is : goal.returns-clause-is
returns-clause-is c =
    let T = c.args.self.now.evaluator.caller.tree.now.nodes in
    let laws = c.laws.ensures in
    let s : TypedPatternStepTree = pattern_step_seen c.args.step.now in
    let ss : List TypedPatternStepTree = map pattern_step_seen c.args.later.now in
    let led : List ℕ → List ℕ = filter (λ k. list_any (λ m. leads T s m k) c.args.nodes.now) in
    let among : c.as_slice.result.now ≡ filter (λ k. reaches T ss (k ∷ []) c.args.self.now.node) (order T) = c.as_slice.ensures ∙ c.in_ok-among.ensures in
    IfOk-weaker c.led_to.result (λ v. v ≡ led c.as_slice.result.now) (λ v. v ≡ standing T s ss c.args.nodes.now c.args.self.now.node)
    (λ v e. e ∙ standing_is T laws.well_formed laws.ordered laws.ways_up s ss c.args.nodes.now c.as_slice.result.now c.args.self.now.node among)
    c.led_to.ensures

pub returns-clause-live : goal.returns-clause-live
returns-clause-live c =
    let T = c.args.self.now.evaluator.caller.tree.now.nodes in
    let laws = c.laws.ensures in
    let s : TypedPatternStepTree = pattern_step_seen c.args.step.now in
    let ss : List TypedPatternStepTree = map pattern_step_seen c.args.later.now in
    IfOk-weaker c.led_to.result (λ v. v ≡ standing T s ss c.args.nodes.now c.args.self.now.node) (λ v. (k : ℕ) → mem k v ≡ true → is_live T k ≡ true)
    (λ v e k h. standing_live T laws.well_formed laws.ordered laws.ways_up s ss c.args.nodes.now c.args.self.now.node k (sym (ap (mem k) e) ∙ h))
    (returns-clause-is c)
