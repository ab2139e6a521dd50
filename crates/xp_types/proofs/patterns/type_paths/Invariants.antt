use Rattle.xp_types.proofs.PatternLooping.{PathsOnto}
use Rattle.xp_types.proofs.patterns.type_paths.Given as goal

abbrev pub invariant-loop-path : goal.invariant-loop-path
invariant-loop-path l = PathsOnto l.env l.paths l.path-index l.typed.items
