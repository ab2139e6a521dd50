-- The element is checked, then read.
use Rattle.std.proofs.Common.{ap, ◌∙◌}
use Rattle.svrl_read.specs.FirstFault.{kid_fault}
use Rattle.svrl_read.specs.Places.{word_at}
use Rattle.svrl_read.specs.inner.Building.{after, place_of}
use Rattle.svrl_read.proofs.FaultLemmas.{ended_exit}
use Rattle.svrl_read.proofs.TakingLemmas.{none_at, refuses_at}
use Rattle.svrl_read.proofs.source.Source.take.Goals as goal

pub returns-in_err-check_kid-clause-ended : goal.returns-in_err-check_kid-clause-ended
returns-in_err-check_kid-clause-ended c =
    let T = c.args.self.now.tree.now.nodes in
    let n = c.args.n in
    let b = c.args.builder.now in
    ended_exit (kid_fault T (place_of b.pattern b.fired) n (word_at T n)) c.in_err-check_kid.field-0.0 c.from_residual.result c.from_residual.ensures.1
    (refuses_at T c.place.result (place_of b.pattern b.fired) n c.word_at-word.result (word_at T n) c.in_err-check_kid.field-0.0
    c.place.ensures c.word_at-word.ensures c.in_err-check_kid.ensures)

pub returns-clause-ended : goal.returns-clause-ended
returns-clause-ended c =
    let T = c.args.self.now.tree.now.nodes in
    let n = c.args.n in
    let b = c.args.builder.now in
    none_at T c.place.result (place_of b.pattern b.fired) n c.word_at-word.result (word_at T n) c.place.ensures c.word_at-word.ensures c.in_ok-check_kid.ensures

pub returns-clause-read : goal.returns-clause-read
returns-clause-read c =
    c.in_ok-take_as.ensures ∙ ap (after c.args.self.now.tree.now.nodes c.args.builder.now c.args.n) c.word_at-word.ensures
