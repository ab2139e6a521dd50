-- The ledger of the calls is that of the blank.
use Rattle.calling_tests.proofs.main.Given as goal

abbrev pub ghosts-call_all : goal.ghosts-call_all
ghosts-call_all a = record { name = a.blank.name; parts = a.blank.parts }
