-- The events so far lost their lines.
use Rattle.std.proofs.Common.{◌≡◌, ◌++◌, length}
use Rattle.std.specs.Vec.Iter.{into_iter_items, into_iter_len}
use Rattle.pyx_core.specs.Nesting.{bare}
use Rattle.edit_script.proofs.payload.without_lines.Given as goal

abbrev pub invariant-loop-located : goal.invariant-loop-located
invariant-loop-located l = (l.events ++ bare (into_iter_items l.located-iterator) ≡ bare (into_iter_items l.initial.located-iterator))
    × (into_iter_len l.located-iterator ≡ length (into_iter_items l.located-iterator))
