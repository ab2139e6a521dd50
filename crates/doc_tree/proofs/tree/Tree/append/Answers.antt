-- The bare table's refusal is the tree's; what was counted stays so, and the new node's count comes to it.
use Rattle.std.proofs.Common.{ap, sym, subst, ◌∙◌}
use Rattle.doc_table.specs.inner.Labels.{content_labelled}
use Rattle.doc_table.specs.inner.Parts.{contents, table_of}
use Rattle.doc_tree.specs.inner.Counted.{AreCounted, CountsUnder}
use Rattle.doc_tree.proofs.AlikeLemmas.{counted_grown}
use Rattle.doc_tree.proofs.tree.Tree.append.Goals as goal

pub invariant_of-self : goal.invariant_of-self
invariant_of-self c =
    let content = content_labelled c.self.inside.bare.names c.args.label.now c.args.text.now in
    let under : CountsUnder (table_of c.self.inside.bare) c.args.parent content c.count_alike-count.result =
    subst (λ t. CountsUnder t.nodes c.args.parent (content_labelled t.names c.args.label.now c.args.text.now) c.count_alike-count.result) (sym c.self.view_is) c.count_alike-count.ensures in (
      c.in-Ok.ensures.sound,
      counted_grown (table_of c.self.inside.bare) (table_of c.append.new.self) c.args.parent c.in-Ok.number content c.in-Ok.ensures.grew c.laws.ensures.ordered c.laws.ensures.ways_up
          c.self.inside.alike.items c.note.new.counts.items c.count_alike-count.result c.self.invariant.1 under c.note.ensures,
    )

pub invariant_of-self-in-Err : goal.invariant_of-self-in-Err
invariant_of-self-in-Err c =
    (c.in-Err.ensures.sound, subst (λ parts. AreCounted (table_of parts) c.self.inside.alike.items) (sym c.in-Err.ensures.unchanged) c.self.invariant.1)

pub returns-in-Err-clause-refused : goal.returns-in-Err-clause-refused
returns-in-Err-clause-refused c = rw (← c.self.view_is) c.in-Err.ensures.refused

pub returns-in-Err-clause-unchanged : goal.returns-in-Err-clause-unchanged
returns-in-Err-clause-unchanged c = ap contents c.in-Err.ensures.unchanged ∙ c.self.view_is
