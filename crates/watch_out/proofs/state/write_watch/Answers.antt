-- The watch has a value, and its lines are those of that.
use Rattle.std.proofs.Common.{refl, subst, sym}
use Rattle.std.specs.Prelude.{IfOk}
use Rattle.doc_tree.specs.Table.{Contents}
use Rattle.xp_meaning.specs.Laws.{IsProper}
use Rattle.watch_out.proofs.WatchLemmas.{expr_at, lines_of, not_stale, proper_given}
use Rattle.watch_out.proofs.state.write_watch.Goals as goal

pub write_value-requires : goal.write_value-requires
write_value-requires g c =
    let at = expr_at c.args.watch.now.expressions c.args.k c.requires.within in
    subst (λ (tree : Contents). IfOk c.in-Some.given.now (IsProper tree.nodes)) (sym c.tree-tree.ensures)
    (proper_given c.args.watch.now.tree.nodes (c.values_have_types.ensures.proper c.args.watch.now.tree.nodes c.laws.ensures.well_formed) c.laws.ensures.well_formed at.0 c.in-Some.given.now (c.in-Some.ensures.watched at.0 at.1))

pub returns-in-Some : goal.returns-in-Some
returns-in-Some g c =
    let at = expr_at c.args.watch.now.expressions c.args.k c.requires.within in
    lines_of _ _ c.args.watch.now.tree.nodes c.args.watch.now.expressions c.args.k at.0 c.in-Some.given.now c.write_value.result at.1 (c.in-Some.ensures.watched at.0 at.1) c.args.number c.requires.number
    (rw c.tree-tree.ensures at c.write_value.ensures)

pub returns-in-None : goal.returns-in-None
returns-in-None g c = absurd (not_stale c.args.watch.now.tree.nodes c.args.watch.now.expressions c.args.watch.now.kept c.args.k c.requires.fresh c.requires.within (c.in-None.ensures.none.0 refl))
