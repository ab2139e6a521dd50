use Rattle.std.proofs.Common.{◌≡◌, ◌≤◌, ◌-◌, true, length, take}
use Rattle.std.specs.List.{list_all}
use Rattle.pyx_core.specs.inner.Plain.{is_literal}
use Rattle.pyx_core.proofs.plain.literal_len.Given as goal

abbrev pub invariant-loop-len : goal.invariant-loop-len
invariant-loop-len l = (l.len ≤ length l.bytes) × (list_all is_literal (take l.len l.bytes) ≡ true)

abbrev pub decreases-loop-len : goal.decreases-loop-len
decreases-loop-len l = length l.bytes - l.len
