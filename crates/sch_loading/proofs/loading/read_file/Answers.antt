-- The file is read whole, or isn't, as the shelf has it.
use Rattle.sch_loading.proofs.FileLemmas.{file_failed, file_large, file_missing, file_read, file_unread}
use Rattle.sch_loading.proofs.loading.read_file.Goals as goal

pub returns-in-Ok-clause-reads : goal.returns-in-Ok-clause-reads
returns-in-Ok-clause-reads g c =
    let at = c.in-Ok in
    file_read _ _ c.args.name at.ensures.held (rw c.as_str.ensures at at.ensures.noted) at.bytes (rw c.as_str.ensures at at.ensures.ends) at.ensures.faults at.ensures.misses (λ files held. rw c.as_str.ensures at (at.ensures.told files held))

pub returns-in-Err-TooLarge-clause-reads : goal.returns-in-Err-TooLarge-clause-reads
returns-in-Err-TooLarge-clause-reads g c =
    let at = c.in-Err-TooLarge in
    file_large _ _ c.args.name at.ensures.held (rw c.as_str.ensures at at.ensures.noted) at.ensures.ends (rw at.field-0-is at at.ensures.faults) (rw at.field-0-is at at.ensures.misses) (λ files held. rw (at.field-0-is, c.as_str.ensures) at (at.ensures.told files held))

pub returns-in-Err-Missing-clause-reads : goal.returns-in-Err-Missing-clause-reads
returns-in-Err-Missing-clause-reads g c =
    let at = c.in-Err-Missing in
    file_missing _ _ c.args.name at.ensures.held (rw c.as_str.ensures at at.ensures.noted) at.ensures.ends (rw at.field-0-is at at.ensures.faults) (rw at.field-0-is at at.ensures.misses) (λ files held. rw (at.field-0-is, c.as_str.ensures) at (at.ensures.told files held))

pub returns-in-Err-Failed-clause-reads : goal.returns-in-Err-Failed-clause-reads
returns-in-Err-Failed-clause-reads g c =
    let at = c.in-Err-Failed in
    file_failed _ _ c.args.name at.ensures.held (rw c.as_str.ensures at at.ensures.noted) at.ensures.ends (rw at.field-0-is at at.ensures.faults) (rw at.field-0-is at at.ensures.misses)

pub returns-in-Err-Memory-clause-reads : goal.returns-in-Err-Memory-clause-reads
returns-in-Err-Memory-clause-reads g c =
    let at = c.in-Err-Memory in
    file_unread _ _ c.args.name at.ensures.held (rw c.as_str.ensures at at.ensures.noted) at.ensures.ends (rw at.field-0-is at at.ensures.faults) (rw at.field-0-is at at.ensures.misses)
