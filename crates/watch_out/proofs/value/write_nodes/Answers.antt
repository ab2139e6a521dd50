-- The count is told, then each node in document order.
use Rattle.std.proofs.Common.{◌≡◌, ◌∙◌, ℕ, List, true, Err, ap, subst, sym}
use Rattle.std.specs.List.{flat_map}
use Rattle.std.proofs.lemmas.Result.{err_from_is_err_and}
use Rattle.doc_axes.specs.Sets.{in_order}
use Rattle.doc_tree.specs.Lists.{mem}
use Rattle.doc_tree.specs.Table.{Table, is_live}
use Rattle.svrl_out.proofs.ReportLemmas.{reported_both, reported_memory, reported_stopped}
use Rattle.svrl_out.specs.Report.{Reported}
use Rattle.watch_out.specs.Lines.{at_line}
use Rattle.watch_out.proofs.WatchLemmas.{set_live}
use Rattle.watch_out.proofs.value.write_nodes.Goals as goal

pub returns-in_err-write_count : goal.returns-in_err-write_count
returns-in_err-write_count g c =
    let error = err_from_is_err_and c.from_residual.result c.from_residual.ensures.1 in
    reported_stopped (flat_map (at_line c.args.tree.now.nodes) (in_order c.args.tree.now.nodes c.args.nodes.now)) c.from_residual.result (error.1 ∙ ap Err error.2) c.in_err-write_count.ensures

pub returns-in_err-locator : goal.returns-in_err-locator
returns-in_err-locator g c =
    let error = err_from_is_err_and c.from_residual-in_err-locator.result c.from_residual-in_err-locator.ensures.1 in
    reported_both c.in_ok-write_count.ensures
    (reported_memory (flat_map (at_line c.args.tree.now.nodes) (in_order c.args.tree.now.nodes c.args.nodes.now)) c.from_residual-in_err-locator.result (error.1 ∙ ap Err error.2))

pub write_places-requires : goal.write_places-requires
write_places-requires g c =
    subst (λ (T : Table). (n : ℕ) → mem n c.args.nodes.now ≡ true → is_live T n ≡ true) (sym c.in_ok-locator.ensures)
    (set_live c.args.tree.now.nodes c.args.nodes.now c.laws.ensures.ordered c.requires)

pub returns : goal.returns
returns g c =
    reported_both c.in_ok-write_count.ensures
    (subst (λ (ns : List ℕ). Reported (g.O.Sink.log c.write_count.new.sink) (g.O.Sink.log c.write_places.new.sink) (flat_map (at_line c.args.tree.now.nodes) ns) c.write_places.result) c.requires
    (rw c.in_ok-locator.ensures at c.write_places.ensures))
