-- The node's own text, and those of its kids in turn; in an element of another namespace nothing counts.
use Rattle.std.proofs.Common.{◌++◌, sym, ap, ◌∙◌, arith, append_assoc, string_bytes}
use Rattle.std.specs.List.{flat_map}
use Rattle.doc_tree.specs.Table.{kids_of}
use Rattle.doc_tree.specs.Walks.{below}
use Rattle.sch_rules.specs.RawSchema.{counted_text, text_at}
use Rattle.sch_source.proofs.ListLemmas.{all_taken, mem-at}
use Rattle.sch_source.proofs.PlaceLemmas.{stands_below}
use Rattle.sch_source.proofs.WalkLemmas.{own-text, silent-text, told-foreign, told-kids}
use Rattle.sch_source.proofs.source.Source.+push_text_below.Goals as goal

pub returns-then-is_foreign : goal.returns-then-is_foreign
returns-then-is_foreign t c =
    c.in_ok-push_str.ensures.bytes
    ∙ ap (λ l. string_bytes c.args.text.now ++ l) (
    c.text_at.ensures
    ∙ sym (told-foreign c.args.self.now.tree.now.nodes c.laws.ensures.ordered c.laws.ensures.nested (counted_text c.args.self.now.tree.now.nodes) (silent-text c.args.self.now.tree.now.nodes) c.args.n c.requires.lives
    (sym c.is_foreign.ensures ∙ c.if-is_foreign.true)
    ∙ own-text c.args.self.now.tree.now.nodes c.args.n c.requires.counts))

pub push_text_below-requires : goal.push_text_below-requires
push_text_below-requires t c =
    let kid = stands_below c.args.self.now.tree.now.nodes c.laws.ensures.well_formed c.laws.ensures.ways_up c.args.n c.kid-item.result
    (rw c.kids-kid-items.ensures at (mem-at c.kids-kid-items.result.now c.loop-kid.kid-index c.kid-item.result c.kid-item.is c.loop-kid-test.true)) in (
      omega (arith, c.decreases, kid.depth, c.laws.ensures.ways_up.ancestors_bound c.kid-item.result),
      record { lives = kid.lives; counts = kid.counts c.requires.counts (sym c.is_foreign.ensures ∙ c.if-is_foreign.false) },
    )

pub returns : goal.returns
returns t c =
    let kids = flat_map (λ kid. flat_map (counted_text c.args.self.now.tree.now.nodes) (below c.args.self.now.tree.now.nodes kid)) (kids_of c.args.self.now.tree.now.nodes c.args.n) in
    (rw c.kids-kid-items.ensures at (rw (all_taken c.kids-kid-items.result.now c.loop-kid.kid-index c.loop-kid-test.false c.loop-kid.auto.kid-index-end) at c.loop-kid.invariant))
    ∙ ap (λ l. l ++ kids) (c.in_ok-push_str.ensures.bytes ∙ ap (λ l. string_bytes c.args.text.now ++ l) c.text_at.ensures)
    ∙ append_assoc (string_bytes c.args.text.now) (text_at c.args.self.now.tree.now.nodes c.args.n) kids
    ∙ ap (λ l. string_bytes c.args.text.now ++ l) (
    ap (λ l. l ++ kids) (sym (own-text c.args.self.now.tree.now.nodes c.args.n c.requires.counts))
    ∙ sym (told-kids c.args.self.now.tree.now.nodes c.laws.ensures.ordered c.laws.ensures.well_formed (counted_text c.args.self.now.tree.now.nodes) (silent-text c.args.self.now.tree.now.nodes) c.args.n))
