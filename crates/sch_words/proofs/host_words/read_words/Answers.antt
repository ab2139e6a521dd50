-- The word with the number is taken next, or there is none.
use Rattle.sch_words.specs.HostWords.{IsWordOf}
use Rattle.sch_words.proofs.HostWordLemmas.{no_more_words, one_more_word}
use Rattle.sch_words.proofs.host_words.read_words.Goals as goal

pub returns-in-None : goal.returns-in-None
returns-in-None g c = λ all told.
    no_more_words IsWordOf all c.loop-number.number c.loop-number.words (rw c.in-None.is at c.in_ok-bytes.ensures all told) (c.loop-number.invariant all told)

pub loop-number-preserved : goal.loop-number-preserved
loop-number-preserved g c = λ all told.
    let pushed = c.in_ok-push_word-in-Some.ensures in
    rw pushed.2
    (one_more_word IsWordOf all c.loop-number.number c.loop-number.words c.in-Some.bytes.items pushed.0 (rw c.in-Some.is at c.in_ok-bytes.ensures all told) pushed.1 (c.loop-number.invariant all told))
