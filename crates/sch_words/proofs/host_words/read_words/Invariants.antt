-- The words so far were taken.
use Rattle.std.proofs.Common.{◌≡◌, ℕ, List, Some, take}
use Rattle.std.specs.List.{AllZip}
use Rattle.sch_words.specs.HostWords.{IsWordOf}
use Rattle.sch_words.proofs.host_words.read_words.Given as goal

abbrev pub invariant-loop-number : goal.invariant-loop-number
invariant-loop-number g l = (all : List (List ℕ)) → g.A.Arguments.words l.arguments ≡ Some all → AllZip IsWordOf (take l.number all) l.words
