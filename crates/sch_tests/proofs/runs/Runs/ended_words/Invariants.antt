-- The ledger of the run is that of the blank.
use Rattle.sch_tests.proofs.runs.Runs.ended_words.Given as goal

abbrev pub ghosts-tell : goal.ghosts-tell
ghosts-tell a = record { name = a.blank.name; parts = a.blank.parts }
