-- One event after the other.
use Rattle.std.proofs.Common.{◌++◌, subst, append-nil}
use Rattle.pyx_core.specs.declared.mode.Mode.TheVariants.{Document}
use Rattle.pyx_core.specs.Reader.{Reads}
use Rattle.name_scopes.proofs.WholeLemmas.{taking-first, taking-ready, taking-on, taking-refused, taking-all, taking-reads}
use Rattle.name_scopes.proofs.load.take_waiting.Goals as goal

pub loop-found-init : goal.loop-found-init
loop-found-init c = taking-first c.args.reader.now c.args.loader.now

pub take-taken-requires : goal.take-taken-requires
take-taken-requires c = taking-ready c.args.reader.now c.args.loader.now c.loop-found.reader c.next_event.new.self c.loop-found.loader c.in-Some.found c.loop-found.invariant c.in-Some.ensures.event c.requires

pub returns-in-Err-clause-entered : goal.returns-in-Err-clause-entered
returns-in-Err-clause-entered c = λ events taken later going.
    taking-refused c.args.reader.now c.args.loader.now c.loop-found.reader c.next_event.new.self c.loop-found.loader c.in-Some.found c.loop-found.invariant c.in-Some.ensures.event c.take-taken.new.loader c.in-Err.error
    (rw c.in-Err.is at c.take-taken.ensures) events taken later (taken ++ c.args.reader.now.waiting) going

pub loop-found-preserved : goal.loop-found-preserved
loop-found-preserved c =
    taking-on c.args.reader.now c.args.loader.now c.loop-found.reader c.next_event.new.self c.loop-found.loader c.in-Some.found c.loop-found.invariant c.in-Some.ensures.event c.take-taken.new.loader
    (rw c.in-Ok.is at c.take-taken.ensures) (λ fed taken. c.in-Some.ensures.read Document fed taken)

pub returns-clause-entered : goal.returns-clause-entered
returns-clause-entered c = taking-all c.args.reader.now c.args.loader.now c.loop-found.reader c.loop-found.loader c.loop-found.invariant c.in_default.ensures.event.0

pub returns-clause-read : goal.returns-clause-read
returns-clause-read c = λ fed taken reads.
    subst (Reads c.next_event.new.self Document fed) (append-nil (taken ++ c.args.reader.now.waiting))
    (c.in_default.ensures.read Document fed (taken ++ c.args.reader.now.waiting)
    (taking-reads c.args.reader.now c.args.loader.now c.loop-found.reader c.loop-found.loader c.loop-found.invariant c.in_default.ensures.event.0 fed taken reads))
