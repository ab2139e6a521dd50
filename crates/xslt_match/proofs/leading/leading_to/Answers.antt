use Rattle.std.proofs.Common.{◌≡◌, ℕ, ap, ◌∙◌, sym, subst}
use Rattle.std.specs.Prelude.{IfOk, filter}
use Rattle.std.specs.List.{list_any}
use Rattle.doc_axes.proofs.SubLists.{filter-same}
use Rattle.xp_typed_tree.specs.TypedView.{pattern_step_seen}
use Rattle.xp_typed_tree.specs.TypedTree.{TypedPatternStepTree}
use Rattle.xslt_ways.specs.Ways.{looks_at, OnOneWay}
use Rattle.xslt_match.proofs.leading.leading_to.Goals as goal

pub ends_of-requires : goal.ends_of-requires
ends_of-requires c = subst (OnOneWay c.args.tree.now.nodes) (sym c.in_ok-parents.ensures) c.requires

pub returns : goal.returns
returns c =
    let T = c.args.tree.now.nodes in
    let s : TypedPatternStepTree = pattern_step_seen c.args.step.now in
    let same : (m : ℕ) → list_any (looks_at T s.join m) c.as_slice.result.now ≡ list_any (looks_at T s.join m) c.in_ok-parents.parents =
    λ m. ap (list_any (looks_at T s.join m)) c.as_slice.ensures ∙ c.in_ok-ends.ensures m in
    let ends : filter (λ m. list_any (looks_at T s.join m) c.as_slice.result.now) c.args.way.now ≡ filter (λ m. list_any (looks_at T s.join m) c.in_ok-parents.parents) c.args.way.now =
    filter-same (λ m. list_any (looks_at T s.join m) c.as_slice.result.now) (λ m. list_any (looks_at T s.join m) c.in_ok-parents.parents) c.args.way.now (λ m h. same m) in
    subst (λ l. IfOk c.looking_at.result (λ v. v ≡ l))
    (ends ∙ ap (λ ps. filter (λ m. list_any (looks_at T s.join m) ps) c.args.way.now) c.in_ok-parents.ensures) c.looking_at.ensures
