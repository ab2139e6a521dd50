-- One step more is passed, from where it leads on.
use Rattle.std.proofs.Common.{◌≡◌, List, [], ◌∷◌, ◌++◌, map, sym, ap, subst, ◌∙◌, append-nil}
use Rattle.std.proofs.lemmas.List.{map-append}
use Rattle.std.specs.List.{filter_map}
use Rattle.xp_typed_tree.specs.TypedView.{pattern_step_seen}
use Rattle.xp_typed_tree.specs.TypedTree.{TypedPatternStepTree}
use Rattle.xslt_match.specs.inner.Leading.{holder, leading_to}
use Rattle.xslt_ways.specs.Ways.{OnOneWay}
use Rattle.xslt_match.proofs.StepsAlong.{start, going_on, holders_way}
use Rattle.xslt_match.proofs.leading.origins.Goals as goal

pub loop-last-init : goal.loop-last-init
loop-last-init c =
    let T = c.args.tree.now.nodes in
    let laws = c.laws.ensures in
    record {
      passed = [];
      parted = sym (append-nil (map pattern_step_seen c.args.steps.now));
      lead_on = c.in_ok-nodes.ensures ∙ start T laws.well_formed laws.ordered laws.ways_up c.args.n c.requires.lives;
    }

pub loop-last-preserved : goal.loop-last-preserved
loop-last-preserved c =
    let T = c.args.tree.now.nodes in
    let laws = c.laws.ensures in
    let s : TypedPatternStepTree = pattern_step_seen c.in-Some.last.now in
    let front : List TypedPatternStepTree = map pattern_step_seen c.in-Some.earlier.now in
    let rest : map pattern_step_seen c.loop-last.rest.now ≡ front ++ s ∷ [] =
    ap (map pattern_step_seen) c.in-Some.ensures.cases.0 ∙ map-append pattern_step_seen c.in-Some.earlier.now (c.in-Some.last.now ∷ []) in
    going_on T laws.well_formed laws.ordered laws.ways_up (map pattern_step_seen c.args.steps.now) (map pattern_step_seen c.loop-last.rest.now) front s
    c.loop-last.nodes c.args.way.now c.in_ok-nodes-2.nodes c.args.n c.requires.typed c.loop-last.invariant rest c.requires.way
    (c.in_ok-nodes-2.ensures ∙ ap (λ ks. leading_to T s ks c.args.way.now) c.as_slice.ensures)

pub leading_to-requires : goal.leading_to-requires
leading_to-requires c =
    let T = c.args.tree.now.nodes in
    let laws = c.laws.ensures in
    let s : TypedPatternStepTree = pattern_step_seen c.in-Some.last.now in
    let front : List TypedPatternStepTree = map pattern_step_seen c.in-Some.earlier.now in
    let rest : map pattern_step_seen c.loop-last.rest.now ≡ front ++ s ∷ [] =
    ap (map pattern_step_seen) c.in-Some.ensures.cases.0 ∙ map-append pattern_step_seen c.in-Some.earlier.now (c.in-Some.last.now ∷ []) in
    subst (λ ks. OnOneWay T (filter_map (holder T s) ks)) (sym c.as_slice.ensures)
    (holders_way T laws.well_formed laws.ordered laws.ways_up (map pattern_step_seen c.args.steps.now) (map pattern_step_seen c.loop-last.rest.now) front s
    c.loop-last.nodes c.args.n c.requires.typed c.loop-last.invariant rest)
