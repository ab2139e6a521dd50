-- One pattern more has no fault, or it has the first; past the last all is known.
use Rattle.std.proofs.Common.{◌≡◌, ◌∙◌, ◌<◌, ◌≤◌, Bool, ◌||◌, ap, sym, arith}
use Rattle.std.specs.List.{range_with_len}
use Rattle.state_run.specs.inner.Scanning.{fault_of_nodes, nodes_find}
use Rattle.state_run.proofs.ScanningLemmas.{number_at, number_within, numbers_past, scan_ends, scan_goes_on, scan_stops}
use Rattle.state_run.proofs.scanning.scan_patterns.Goals as goal
use Rattle.state_run.proofs.scanning.scan_patterns.Goals.{then-any, else-any}

pub returns-in-Faulted : goal.returns-in-Faulted
returns-in-Faulted c =
    let within : c.loop-p.p < c.args.patterns = omega arith in
    scan_stops (fault_of_nodes c.args.found.now c.args.nodes.now) (nodes_find c.args.found.now c.args.nodes.now) (range_with_len 0 c.args.patterns)
    c.loop-p.p c.loop-p.p 0 c.loop-p.any c.in-Faulted.fault
    (number_within c.args.patterns c.loop-p.p within) (number_at c.args.patterns c.loop-p.p within) (sym c.in-Faulted.ensures) c.loop-p.invariant

pub loop-p-preserved : goal.loop-p-preserved
loop-p-preserved c =
    let within : c.loop-p.p < c.args.patterns = omega arith in
    let now_is : c.if-any.any ≡ (c.loop-p.any || c.in-Whole.finds) =
    elim c.if-any.branch [
      | then-any w ↦ w.any-is ∙ w.if-any.true ∙ sym (ap (λ (b : Bool). b || c.in-Whole.finds) w.if-any.true)
      | else-any w ↦ w.any-is ∙ sym (ap (λ (b : Bool). b || c.in-Whole.finds) w.if-any.false)
    ] in
    scan_goes_on (fault_of_nodes c.args.found.now c.args.nodes.now) (nodes_find c.args.found.now c.args.nodes.now) (range_with_len 0 c.args.patterns)
    c.loop-p.p c.loop-p.p 0 c.loop-p.any c.if-any.any c.in-Whole.finds
    (number_within c.args.patterns c.loop-p.p within) (number_at c.args.patterns c.loop-p.p within) (sym c.in-Whole.ensures) now_is c.loop-p.invariant

pub returns : goal.returns
returns c =
    let past : c.args.patterns ≤ c.loop-p.p = omega arith in
    scan_ends (fault_of_nodes c.args.found.now c.args.nodes.now) (nodes_find c.args.found.now c.args.nodes.now) (range_with_len 0 c.args.patterns)
    c.loop-p.p c.loop-p.any
    (numbers_past c.args.patterns c.loop-p.p past) c.loop-p.invariant
