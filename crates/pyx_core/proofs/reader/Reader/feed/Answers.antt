use Rattle.std.proofs.Common.{◌++◌, ◌∙◌, ap}
use Rattle.pyx_core.specs.inner.ReaderFields.{error_of, stops}
use Rattle.pyx_core.proofs.ReaderLemmas.{feeds, keeps_from}
use Rattle.pyx_core.proofs.reader.Reader.feed.Goals as goal

pub returns-clause-read : goal.returns-clause-read
returns-clause-read c = λ mode fed taken reads few.
    let had = rw (← c.self.view_is) at reads in
    let keeps = keeps_from c.self.inside.cutting c.self.inside.stopped mode fed taken had in
    rw c.stop.ensures.answer
    (feeds _ _ mode (fed ++ c.args.piece.now) taken c.feed-found.result (c.feed-found.ensures mode fed taken keeps few)
    (c.stop.ensures.stopped ∙ ap (λ old. stops old (error_of c.feed-found.result)) had.runs))
