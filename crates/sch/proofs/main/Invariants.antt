-- The ledger of the run is that of the blank.
use Rattle.sch.proofs.main.Given as goal

abbrev pub ghosts-run_if_read : goal.ghosts-run_if_read
ghosts-run_if_read a = record { name = a.blank.name; parts = a.blank.parts }
