-- The watch has a value, or its fault.
use Rattle.std.proofs.Common.{◌∙◌, refl}
use Rattle.watch_out.proofs.WatchLemmas.{expr_at, fault_of, not_stale}
use Rattle.watch_out.proofs.state.has_fault.Goals as goal

pub returns-in-Some : goal.returns-in-Some
returns-in-Some c =
    let at = expr_at c.args.watch.now.expressions c.args.k c.requires.within in
    c.is_err.ensures.value ∙ fault_of c.args.watch.now.tree.nodes c.args.watch.now.expressions c.args.k at.0 c.in-Some.given.now at.1 (c.in-Some.ensures.watched at.0 at.1)

pub returns-in-None : goal.returns-in-None
returns-in-None c = absurd (not_stale c.args.watch.now.tree.nodes c.args.watch.now.expressions c.args.watch.now.kept c.args.k c.requires.fresh c.requires.within (c.in-None.ensures.none.0 refl))
