-- The files are read as the tree with its includes replaced, or the first fault stops the run.
use Rattle.sch_loading.proofs.FileLemmas.{schema_faulted, schema_loaded, schema_unread}
use Rattle.sch_loading.proofs.loading.load_schema.Goals as goal

pub returns-in-Ok-clause-reads : goal.returns-in-Ok-clause-reads
returns-in-Ok-clause-reads g c =
    schema_loaded _ _ c.args.name.now c.in-Ok.tree (rw c.as_str.ensures at c.in-Ok.ensures.read) c.in-Ok.ensures.held c.in-Ok.ensures.misses c.in-Ok.ensures.faults c.in-Ok.ensures.through

pub returns-in-Err-Fault-clause-reads : goal.returns-in-Err-Fault-clause-reads
returns-in-Err-Fault-clause-reads g c =
    schema_faulted _ _ c.args.name.now c.in-Err-Fault.fault c.stop_of.result c.stop_of.ensures
    (rw (c.as_str.ensures, c.in-Err-Fault.field-0-is) at c.in-Err-Fault.ensures.read) c.in-Err-Fault.ensures.held
    (rw c.in-Err-Fault.field-0-is at c.in-Err-Fault.ensures.misses) (rw c.in-Err-Fault.field-0-is at c.in-Err-Fault.ensures.faults)
    (rw c.in-Err-Fault.field-0-is at c.in-Err-Fault.ensures.through)

pub returns-in-Err-Memory-clause-reads : goal.returns-in-Err-Memory-clause-reads
returns-in-Err-Memory-clause-reads g c =
    schema_unread _ _ c.args.name.now (rw (c.as_str.ensures, c.in-Err-Memory.field-0-is) at c.in-Err-Memory.ensures.read) c.in-Err-Memory.ensures.held
    (rw c.in-Err-Memory.field-0-is at c.in-Err-Memory.ensures.misses) (rw c.in-Err-Memory.field-0-is at c.in-Err-Memory.ensures.faults)
    (rw c.in-Err-Memory.field-0-is at c.in-Err-Memory.ensures.through)
