-- The values so far are measured.
use Rattle.std.proofs.Common.{◌≡◌, take}
use Rattle.sch_sizes.specs.inner.Lengths.{lens_of_values}
use Rattle.sch_sizes.proofs.filled_len.lens_of.Given as goal

abbrev pub invariant-loop-param : goal.invariant-loop-param
invariant-loop-param l = l.lens.items ≡ lens_of_values (take l.param-index l.params)
