use Rattle.std.proofs.Common.{◌∙◌, ap}
use Rattle.pyx_core.specs.inner.ReaderFields.{error_of, stops}
use Rattle.pyx_core.proofs.ReaderLemmas.{finishes, keeps_from}
use Rattle.pyx_core.proofs.reader.Reader.finish.Goals as goal

pub returns-clause-read : goal.returns-clause-read
returns-clause-read c = λ mode fed taken reads.
    let had = rw (← c.self.view_is) at reads in
    let keeps = keeps_from c.self.inside.cutting c.self.inside.stopped mode fed taken had in
    rw c.stop.ensures.answer
    (finishes c.finish-found.new.self _ mode fed taken c.finish-found.result (c.finish-found.ensures mode fed taken keeps)
    (c.stop.ensures.stopped ∙ ap (λ old. stops old (error_of c.finish-found.result)) had.runs))
