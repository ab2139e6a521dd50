-- All that is above the higher one is above the deeper one.
use Rattle.std.proofs.Common.{◌≡◌, ℕ, true, ◌||◌, IfSome, sym, ap, ◌∙◌, subst}
use Rattle.doc_tree.specs.Lists.{mem}
use Rattle.doc_tree.specs.Walks.{above}
use Rattle.xslt_ways.specs.Ways.{looks_there}
use Rattle.xslt_ways.proofs.WayLemmas.{deeper_below, deeper_above}
use Rattle.xslt_ways.proofs.above.deeper.Goals as goal

pub returns-then-is_above-clause-below : goal.returns-then-is_above-clause-below
returns-then-is_above-clause-below c = λ m.
    let T = c.args.tree.now.nodes in
    let laws = c.laws.ensures in
    deeper_below T laws.well_formed laws.ordered laws.ways_up c.in-Some.a c.args.p m (sym c.is_above.ensures ∙ c.if-is_above.true)
    ∙ ap (λ o. looks_there T true m o || mem m (above T c.args.p)) (sym c.in-Some.is)

pub returns-else-is_above-clause-below : goal.returns-else-is_above-clause-below
returns-else-is_above-clause-below c = λ m.
    let T = c.args.tree.now.nodes in
    let laws = c.laws.ensures in
    let a : ℕ = c.in-Some.a in
    let p : ℕ = c.args.p in
    let way : (mem a (above T p) || mem p (above T a)) ≡ true = subst (λ o. IfSome o (λ a. (mem a (above T p) || mem p (above T a)) ≡ true)) c.in-Some.is c.requires in
    deeper_above T laws.well_formed laws.ordered laws.ways_up a p m way (sym c.is_above.ensures ∙ c.if-is_above.false)
    ∙ ap (λ o. looks_there T true m o || mem m (above T p)) (sym c.in-Some.is)
