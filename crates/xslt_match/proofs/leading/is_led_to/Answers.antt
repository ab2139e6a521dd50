-- A step leads to a node from where it looks for candidates at the node's holder.
use Rattle.std.proofs.Common.{None, sym, ap, ◌∙◌, refl}
use Rattle.std.specs.List.{list_any}
use Rattle.xp_typed_tree.specs.TypedView.{pattern_step_seen}
use Rattle.xslt_ways.specs.Ways.{is_anywhere, looks_there}
use Rattle.xslt_match.proofs.Filters.{any-none}
use Rattle.xslt_match.proofs.StepsAlong.{led_is}
use Rattle.xslt_match.proofs.leading.is_led_to.Goals as goal

pub returns-in-Some : goal.returns-in-Some
returns-in-Some c =
    let T = c.args.tree.now.nodes in
    let s = pattern_step_seen c.args.step.now in
    let laws = c.laws.ensures in
    c.some_looks_at.ensures
    ∙ sym (led_is T laws.well_formed laws.ordered laws.ways_up s c.args.nodes.now c.args.k c.requires
    ∙ ap (λ o. list_any (λ m. looks_there T (is_anywhere s.join) m o) c.args.nodes.now) (sym c.holder.ensures ∙ c.in-Some.is))

pub returns-in-None : goal.returns-in-None
returns-in-None c =
    let T = c.args.tree.now.nodes in
    let s = pattern_step_seen c.args.step.now in
    let laws = c.laws.ensures in
    sym (led_is T laws.well_formed laws.ordered laws.ways_up s c.args.nodes.now c.args.k c.requires
    ∙ (ap (λ o. list_any (λ m. looks_there T (is_anywhere s.join) m o) c.args.nodes.now) (sym c.holder.ensures ∙ c.in-None.is)
    ∙ any-none (λ m. looks_there T (is_anywhere s.join) m None) c.args.nodes.now (λ m. refl)))
