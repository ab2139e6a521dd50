-- The node's own part, and those of its kids in turn; in an element of another namespace nothing counts.
use Rattle.std.proofs.Common.{◌++◌, sym, ap, ◌∙◌, subst, arith}
use Rattle.std.specs.List.{flat_map}
use Rattle.doc_tree.specs.Table.{kids_of}
use Rattle.doc_tree.specs.Walks.{below}
use Rattle.sch_rules.specs.RawSchema.{part_at}
use Rattle.sch_source.specs.inner.Messages.{ReadsOn}
use Rattle.sch_base.proofs.Lists.{flat_map-next}
use Rattle.sch_source.proofs.ListLemmas.{all_taken, mem-at}
use Rattle.sch_source.proofs.MessageLemmas.{reads-then}
use Rattle.sch_source.proofs.PlaceLemmas.{stands_below}
use Rattle.sch_source.proofs.WalkLemmas.{own-part, silent-parts, told-foreign, told-kids}
use Rattle.sch_source.proofs.source.Source.+push_parts.Goals as goal

pub returns-then-is_foreign : goal.returns-then-is_foreign
returns-then-is_foreign t c =
    subst (ReadsOn c.args.message.now c.push_part.new.message)
    (sym (told-foreign c.args.self.now.tree.now.nodes c.laws.ensures.ordered c.laws.ensures.nested (part_at c.args.self.now.tree.now.nodes) (silent-parts c.args.self.now.tree.now.nodes) c.args.n c.requires.lives
    (sym c.is_foreign.ensures ∙ c.if-is_foreign.true)
    ∙ own-part c.args.self.now.tree.now.nodes c.args.n c.requires.counts)) c.in_ok-push_part.ensures

pub push_parts-requires : goal.push_parts-requires
push_parts-requires t c =
    let kid = stands_below c.args.self.now.tree.now.nodes c.laws.ensures.well_formed c.laws.ensures.ways_up c.args.n c.kid-item.result
    (rw c.kids-kid-items.ensures at (mem-at c.kids-kid-items.result.now c.loop-kid.kid-index c.kid-item.result c.kid-item.is c.loop-kid-test.true)) in (
      omega (arith, c.decreases, kid.depth, c.laws.ensures.ways_up.ancestors_bound c.kid-item.result),
      record { lives = kid.lives; counts = kid.counts c.requires.counts (sym c.is_foreign.ensures ∙ c.if-is_foreign.false) },
    )

pub loop-kid-preserved : goal.loop-kid-preserved
loop-kid-preserved t c =
    subst (ReadsOn c.push_part.new.message c.push_parts.new.message)
    (sym (flat_map-next (λ kid. flat_map (part_at c.args.self.now.tree.now.nodes) (below c.args.self.now.tree.now.nodes kid)) c.kids-kid-items.result.now c.loop-kid.kid-index c.kid-item.result
    c.kid-item.is c.loop-kid-test.true)) (reads-then c.loop-kid.invariant c.in_ok-push_parts.ensures)

pub returns : goal.returns
returns t c =
    subst (ReadsOn c.args.message.now c.loop-kid.message)
    (sym (told-kids c.args.self.now.tree.now.nodes c.laws.ensures.ordered c.laws.ensures.well_formed (part_at c.args.self.now.tree.now.nodes) (silent-parts c.args.self.now.tree.now.nodes) c.args.n
    ∙ ap (λ parts. parts ++ flat_map (λ kid. flat_map (part_at c.args.self.now.tree.now.nodes) (below c.args.self.now.tree.now.nodes kid)) (kids_of c.args.self.now.tree.now.nodes c.args.n))
    (own-part c.args.self.now.tree.now.nodes c.args.n c.requires.counts)))
    (reads-then c.in_ok-push_part.ensures (rw c.kids-kid-items.ensures at (rw (all_taken c.kids-kid-items.result.now c.loop-kid.kid-index c.loop-kid-test.false c.loop-kid.auto.kid-index-end) at c.loop-kid.invariant)))
