use Rattle.std.proofs.Common.{ap, length, sym, ◌∙◌}
use Rattle.xp_eval.specs.inner.Candidates.{found}
use Rattle.xp_eval.specs.inner.Places.{place_for}
use Rattle.xp_eval.proofs.Places.{asked-at, some_maps}
use Rattle.xp_eval.proofs.positions.placed_candidate.Goals as goal

pub returns-in-At : goal.returns-in-At
returns-in-At c = some_maps c.passing_at.result
    (λ placed is. asked-at c.args.tree.now.nodes c.args.step.now c.args.n c.in_ok-first.first.now c.in_ok-first.field-0-1.now c.in_ok-asked.asked c.in-At.place placed
    (sym c.deref.ensures.value ∙ c.in_ok-first.ensures.cases.0) c.in_ok-asked.ensures
    (sym (ap (λ asked. place_for asked (length (found c.args.tree.now.nodes c.args.step.now c.args.n))) c.in-At.is)) is)
    c.passing_at.ensures

pub returns-in-Last : goal.returns-in-Last
returns-in-Last c = some_maps c.last_passing.result
    (λ placed is. asked-at c.args.tree.now.nodes c.args.step.now c.args.n c.in_ok-first.first.now c.in_ok-first.field-0-1.now c.in_ok-asked.asked (length (found c.args.tree.now.nodes c.args.step.now c.args.n)) placed
    (sym c.deref.ensures.value ∙ c.in_ok-first.ensures.cases.0) c.in_ok-asked.ensures
    (sym (ap (λ asked. place_for asked (length (found c.args.tree.now.nodes c.args.step.now c.args.n))) c.in-Last.is)) is)
    c.last_passing.ensures
