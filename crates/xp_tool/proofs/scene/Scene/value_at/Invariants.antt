-- The ledger of the run is that of the blank.
use Rattle.xp_tool.proofs.scene.Scene.value_at.Given as goal

abbrev pub ghosts-value_counted : goal.ghosts-value_counted
ghosts-value_counted a = record { name = a.blank.name; parts = a.blank.parts }
