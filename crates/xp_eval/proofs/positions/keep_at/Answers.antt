-- The visits are added up, and the node at the place stays.
use Rattle.std.proofs.Common.{ℕ, length, sym, ◌∙◌, ap}
use Rattle.std.specs.Option.{option_to_list}
use Rattle.xp_meaning.specs.Paths.{placed}
use Rattle.xp_meaning.proofs.Exits.{exit_memory}
use Rattle.xp_eval.proofs.Places.{at-place, keeps, keeps-late}
use Rattle.xp_eval.proofs.positions.keep_at.Goals as goal

pub returns-in_err-one_or_none : goal.returns-in_err-one_or_none
returns-in_err-one_or_none g c = λ predicate current held asks.
    let ns = c.args.nodes.now in
    exit_memory _ c.from_residual.ensures.1
    (keeps-late c.args.place (λ position n. predicate (placed current (length ns) position n)) asks 1 ns held _ _ c.tick_times.ensures)

pub returns : goal.returns
returns g c = λ predicate current held asks.
    let ns = c.args.nodes.now in
    keeps c.args.place (λ position n. predicate (placed current (length ns) position n)) asks 1 ns _ held _ _
    (c.in_ok-one_or_none.ensures ∙ ap option_to_list c.node_at.ensures ∙ sym (at-place c.args.place ns)) c.tick_times.ensures
