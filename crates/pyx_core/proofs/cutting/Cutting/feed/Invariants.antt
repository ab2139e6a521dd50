use Rattle.std.proofs.Common.{ℕ, List, ◌++◌, ◌<◌, length}
use Rattle.pyx_core.specs.declared.event.Located.{Located}
use Rattle.pyx_core.specs.declared.mode.Mode.{Mode}
use Rattle.pyx_core.specs.inner.Cutting.{Keeps}
use Rattle.pyx_core.proofs.CuttingLemmas.{FeedsOn}
use Rattle.pyx_core.proofs.cutting.Cutting.feed.Given as goal

-- all but the rest of the piece was read
abbrev pub invariant-loop-end : goal.invariant-loop-end
invariant-loop-end l = (mode : Mode) (fed : List ℕ) (taken : List Located) → Keeps l.fn.self mode fed taken →
    length (fed ++ l.fn.piece) < 18446744073709551615 → FeedsOn l.self mode taken (fed ++ l.fn.piece) l.rest

abbrev pub decreases-loop-end : goal.decreases-loop-end
decreases-loop-end l = length l.rest
