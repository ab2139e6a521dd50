-- No byte so far is a colon or a slash.
use Rattle.std.proofs.Common.{◌≡◌, drop}
use Rattle.sch_include.specs.Includes.{has_scheme}
use Rattle.sch_include.proofs.href.has_scheme.Given as goal

abbrev pub invariant-loop-b : goal.invariant-loop-b
invariant-loop-b l = has_scheme (drop l.b-index l.b-items) ≡ has_scheme l.href
