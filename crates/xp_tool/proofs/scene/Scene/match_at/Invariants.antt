-- The ledger of the run is that of the blank.
use Rattle.xp_tool.proofs.scene.Scene.match_at.Given as goal

abbrev pub ghosts-match_counted : goal.ghosts-match_counted
ghosts-match_counted a = record { name = a.blank.name; parts = a.blank.parts }
