use Rattle.std.proofs.Common.{◌≡◌, map, length}
use Rattle.xp_types.specs.FunctionNames.{listed}
use Rattle.xp_types.proofs.function_names.listed.Given as goal

-- the names before these are others
abbrev pub invariant-loop-names : goal.invariant-loop-names
invariant-loop-names l = listed (map (λ other. other.now) l.names) l.name ≡ listed (map (λ other. other.now) l.fn.names) l.name

abbrev pub decreases-loop-names : goal.decreases-loop-names
decreases-loop-names l = length l.names
