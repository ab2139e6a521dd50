use Rattle.std.proofs.Common.{◌≡◌, map, length}
use Rattle.xp_tree.specs.AxisNames.{axis_text}
use Rattle.sch_base.specs.Named.{named}
use Rattle.xp_tree.proofs.axis_names.first_named.Given as goal

-- the axes before these have other names
abbrev pub invariant-loop-axes : goal.invariant-loop-axes
invariant-loop-axes l = named (map (λ axis. (axis_text axis, axis)) l.axes) l.name ≡ named (map (λ axis. (axis_text axis, axis)) l.fn.axes) l.name

abbrev pub decreases-loop-axes : goal.decreases-loop-axes
decreases-loop-axes l = length l.axes
