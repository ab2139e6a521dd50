-- A node below one that isn't above p isn't above p.
use Rattle.std.proofs.Common.{◌≡◌, false, IfSome, sym, ◌∙◌, subst}
use Rattle.doc_tree.specs.Lists.{mem}
use Rattle.doc_tree.specs.Walks.{above}
use Rattle.xslt_ways.proofs.WayLemmas.{not_above}
use Rattle.xslt_ways.proofs.above.is_above_past.Goals as goal

pub returns-then-is_above : goal.returns-then-is_above
returns-then-is_above c =
    let T = c.args.tree.now.nodes in
    let laws = c.laws.ensures in
    not_above T laws.well_formed laws.ordered laws.ways_up c.in-Some.a c.args.m c.args.p
    (subst (λ o. IfSome o (λ a. mem a (above T c.args.p) ≡ false)) c.in-Some.is c.requires) (sym c.is_above.ensures ∙ c.if-is_above.true)
