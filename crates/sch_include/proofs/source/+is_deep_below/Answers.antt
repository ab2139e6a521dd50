-- The node itself, and its kids in turn; no attribute is an element.
use Rattle.std.proofs.Common.{◌≡◌, ◌||◌, false, sym, ◌∙◌, ap, ap₂, arith}
use Rattle.std.proofs.Math.Bool.{or-true}
use Rattle.std.specs.List.{flat_map, list_any}
use Rattle.doc_tree.specs.Table.{kids_of}
use Rattle.doc_tree.specs.Walks.{below}
use Rattle.sch_include.specs.inner.Deep.{is_deep_at}
use Rattle.sch_include.proofs.CopyLemmas.{all-taken}
use Rattle.sch_include.proofs.WalkLemmas.{deep-count, kid-depth, kid-found, kid-lives, shallow-none, shallow-one}
use Rattle.sch_include.proofs.source.+is_deep_below.Goals as goal
use Rattle.sch_include.proofs.source.+is_deep_below.Goals.{else-is_element-via-then-is_element+else-above-depth, else-is_element-via-else-is_element}

pub is_deep_below-requires : goal.is_deep_below-requires
is_deep_below-requires t c =
    let deeper = kid-depth c.args.tree.now.nodes c.args.n c.loop-kid.kid-index c.kid-item.result (rw c.kids-kid-items.ensures at c.kid-item.is) (rw c.kids-kid-items.ensures at c.loop-kid-test.true) c.laws.ensures.ways_up c.laws.ensures.well_formed in (
      omega (arith, c.decreases, deeper, c.laws.ensures.ways_up.ancestors_bound c.kid-item.result),
      (kid-lives c.args.tree.now.nodes c.args.n c.loop-kid.kid-index c.kid-item.result (rw c.kids-kid-items.ensures at c.kid-item.is) (rw c.kids-kid-items.ensures at c.loop-kid-test.true) c.laws.ensures.ways_up, (omega (arith, c.requires.depth, deeper), c.requires.shallow)),
    )

pub returns-then-is_deep_below : goal.returns-then-is_deep_below
returns-then-is_deep_below t c =
    sym (deep-count c.args.tree.now.nodes c.laws.ensures.ordered c.args.n c.args.above c.laws.ensures.well_formed
    ∙ (ap (λ b. is_deep_at c.args.tree.now.nodes c.args.above c.args.n || b) (kid-found c.args.tree.now.nodes c.args.n c.loop-kid.kid-index c.kid-item.result (rw c.kids-kid-items.ensures at c.kid-item.is) (rw c.kids-kid-items.ensures at c.loop-kid-test.true) (is_deep_at c.args.tree.now.nodes c.args.above) (sym c.is_deep_below.ensures ∙ c.if-is_deep_below.true))
    ∙ or-true (is_deep_at c.args.tree.now.nodes c.args.above c.args.n)))

pub returns : goal.returns
returns t c =
    let here : is_deep_at c.args.tree.now.nodes c.args.above c.args.n ≡ false = elim c.else-is_element.branch [
      | else-is_element-via-then-is_element+else-above-depth w ↦ shallow-one c.args.tree.now.nodes c.args.n c.args.above (omega (arith, c.requires.depth, w.if-above-depth.false))
      | else-is_element-via-else-is_element w ↦ shallow-none c.args.tree.now.nodes c.args.n c.args.above (sym c.is_element.ensures ∙ w.if-is_element.false)
    ] in
    sym (deep-count c.args.tree.now.nodes c.laws.ensures.ordered c.args.n c.args.above c.laws.ensures.well_formed
    ∙ ap₂ (λ a b. a || b) here (ap (λ ms. list_any (is_deep_at c.args.tree.now.nodes c.args.above) (flat_map (below c.args.tree.now.nodes) ms)) (sym (all-taken (kids_of c.args.tree.now.nodes c.args.n) c.loop-kid.kid-index (rw c.kids-kid-items.ensures at c.loop-kid-test.false) (rw c.kids-kid-items.ensures at c.loop-kid.auto.kid-index-end))) ∙ c.loop-kid.invariant))
