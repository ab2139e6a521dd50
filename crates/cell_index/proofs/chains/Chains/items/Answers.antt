-- One link more is walked along.
use Rattle.std.proofs.Common.{◌∙◌, ℕ, ◌⊎◌, sym, subst}
use Rattle.std.specs.List.{Contains}
use Rattle.cell_index.specs.inner.Links.{IsLinked}
use Rattle.cell_index.proofs.LinkLemmas.{walk_on}
use Rattle.cell_index.proofs.chains.Chains.items.Goals as goal

pub loop-link-preserved : goal.loop-link-preserved
loop-link-preserved c = λ item there.
    let links = c.args.self.now.links.items in
    subst (λ (number : ℕ). Contains c.push.new.self.items item ⊎ IsLinked links item number) (sym c.earlier-number.ensures)
    (walk_on links c.in-Some.link c.loop-link.number c.loop-link.items.items c.push.new.self.items item
    (sym c.link.ensures ∙ c.in-Some.is) c.in_ok-push.ensures.items (c.loop-link.invariant item there))
