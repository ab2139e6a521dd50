-- What was read decides.
use Rattle.sch_io.specs.ReadThrough.{all_but_last, all_files}
use Rattle.sch_io.proofs.ReadThrough.{left_unread, one_of_both, read_through}
use Rattle.sch_include.specs.Taking.{failed, missing, too_large}
use Rattle.sch_include.proofs.LoadLemmas.{loads-fault, loads-tree}
use Rattle.sch_include.proofs.joiner.load.Goals as goal

pub returns-in-Ok-load_tree-clause-told : goal.returns-in-Ok-load_tree-clause-told
returns-in-Ok-load_tree-clause-told g c = λ files is.
    loads-tree files c.args.name.now _ c.as_slice.result.now c.as_slice.ensures (c.in-Ok.ensures.told files is) c.in-Ok-load_tree.tree.nodes c.in-Ok-load_tree.ensures.good c.in-Ok-load_tree.ensures.loaded

pub returns-in-Err-Fault-clause-told : goal.returns-in-Err-Fault-clause-told
returns-in-Err-Fault-clause-told g c = λ files is.
    loads-fault files c.args.name.now _ c.as_slice.result.now c.as_slice.ensures (c.in-Ok.ensures.told files is) c.in-Err-Fault.fault (rw c.in-Err-Fault.field-0-is at c.in-Err-Fault.ensures.refused)

pub returns-in-Err-Missing-clause-told : goal.returns-in-Err-Missing-clause-told
returns-in-Err-Missing-clause-told g c = λ files is. missing (rw c.in-Err-Missing.field-0-is at (c.in-Err-Missing.ensures.told files is))

pub returns-in-Err-Failed-clause-told : goal.returns-in-Err-Failed-clause-told
returns-in-Err-Failed-clause-told g c = λ files is. failed

pub returns-in-Err-TooLarge-clause-told : goal.returns-in-Err-TooLarge-clause-told
returns-in-Err-TooLarge-clause-told g c = λ files is.
    let h = rw c.in-Err-TooLarge.field-0-is at (c.in-Err-TooLarge.ensures.told files is) in
    too_large h.0 h.1 h.2

pub returns-in-Ok-load_tree-clause-through : goal.returns-in-Ok-load_tree-clause-through
returns-in-Ok-load_tree-clause-through g c = read_through _ _ c.args.name.now c.in-Ok.ensures.noted c.in-Ok.ensures.ends

pub returns-in-Err-Fault-clause-through : goal.returns-in-Err-Fault-clause-through
returns-in-Err-Fault-clause-through g c = read_through _ _ c.args.name.now c.in-Ok.ensures.noted c.in-Ok.ensures.ends

pub returns-in-Ok-clause-through : goal.returns-in-Ok-clause-through
returns-in-Ok-clause-through g c = one_of_both all_files _ _ (read_through _ _ c.args.name.now c.in-Ok.ensures.noted c.in-Ok.ensures.ends)

pub returns-in-Err-Missing-clause-through : goal.returns-in-Err-Missing-clause-through
returns-in-Err-Missing-clause-through g c = left_unread _ _ c.args.name.now c.in-Err-Missing.ensures.noted c.in-Err-Missing.ensures.ends

pub returns-in-Err-Failed-clause-through : goal.returns-in-Err-Failed-clause-through
returns-in-Err-Failed-clause-through g c = left_unread _ _ c.args.name.now c.in-Err-Failed.ensures.noted c.in-Err-Failed.ensures.ends

pub returns-in-Err-TooLarge-clause-through : goal.returns-in-Err-TooLarge-clause-through
returns-in-Err-TooLarge-clause-through g c = left_unread _ _ c.args.name.now c.in-Err-TooLarge.ensures.noted c.in-Err-TooLarge.ensures.ends

pub returns-clause-through : goal.returns-clause-through
returns-clause-through g c = one_of_both all_but_last _ _ (left_unread _ _ c.args.name.now c.in-Err-Memory.ensures.noted c.in-Err-Memory.ensures.ends)
