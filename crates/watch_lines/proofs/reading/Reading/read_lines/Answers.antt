-- Line after line.
use Rattle.std.proofs.Common.{rules, Err}
use Rattle.watch_lines.specs.inner.Reading.{Stops}
use Rattle.watch_lines.specs.Watches.{WatchesAre}
use Rattle.watch_lines.proofs.LineLemmas.{came_end, came_first, came_on, came_stop, fault_so}
use Rattle.watch_lines.proofs.reading.Reading.read_lines.Goals as goal

pub loop-line-init : goal.loop-line-init
loop-line-init c = came_first c.args.bytes.now c.args.self.now c.requires.env c.requires.list

pub take_line-requires : goal.take_line-requires
take_line-requires c = c.loop-line.invariant.plain

pub loop-line-preserved : goal.loop-line-preserved
loop-line-preserved c =
    came_on c.args.bytes.now c.loop-line.number c.loop-line.rest.now c.in-Some.line.now c.in-Some.after.now c.loop-line.self c.loop-line.invariant
    c.in-Some.ensures c.take_line.new.self c.in-Ok.ensures.plain c.in-Ok.ensures.passes

pub loop-line-smaller : goal.loop-line-smaller
loop-line-smaller c = c.in-Some.ensures.shorter

pub overflow_add-number : goal.overflow_add-number
overflow_add-number c =
    let few = c.loop-line.invariant.few in
    let shorter = c.in-Some.ensures.shorter in
    search rules

pub returns-in-Err-clause-fault : goal.returns-in-Err-clause-fault
returns-in-Err-clause-fault c =
    fault_so (Stops c.loop-line.number c.in-Some.line.now c.loop-line.self) (λ found. WatchesAre c.args.bytes.now (Err found))
    (came_stop c.args.bytes.now c.loop-line.number c.loop-line.rest.now c.in-Some.line.now c.in-Some.after.now c.loop-line.self c.loop-line.invariant
    c.in-Some.ensures) c.in-Err.error c.in-Err.ensures.stops

pub returns-clause-watches : goal.returns-clause-watches
returns-clause-watches c =
    came_end c.args.bytes.now c.loop-line.number c.loop-line.rest.now c.loop-line.self c.loop-line.invariant c.in_default.ensures
