-- The ledger of the run is that of the blank.
use Rattle.sch_tests.proofs.pairs.told_in.Given as goal

abbrev pub ghosts-told_of_pair : goal.ghosts-told_of_pair
ghosts-told_of_pair a = record { name = a.blank.name; parts = a.blank.parts }
