-- The right text may go, then the node, and then the left text may say both.
use Rattle.std.proofs.Common.{subst, sym}
use Rattle.doc_table.specs.Table.{Table}
use Rattle.doc_table.specs.inner.Parts.{table_of}
use Rattle.doc_edits.specs.Fitting.{MayGo}
use Rattle.doc_edits.proofs.MeetingLemmas.{steps}
use Rattle.doc_edits.proofs.deleting.merge.Goals as goal

pub remove-requires-clause-may : goal.remove-requires-clause-may
remove-requires-clause-may c = (steps (table_of c.args.bare.now) c.args.n c.args.left c.args.right c.requires.sound.formed c.requires.meet).right_goes

pub remove-requires-2-clause-may : goal.remove-requires-2-clause-may
remove-requires-2-clause-may c =
    subst (λ (U : Table). MayGo U c.args.n) (sym c.remove.ensures.removed)
    (steps (table_of c.args.bare.now) c.args.n c.args.left c.args.right c.requires.sound.formed c.requires.meet).node_goes

pub put_text-requires-clause-may : goal.put_text-requires-clause-may
put_text-requires-clause-may c =
    rw (c.remove-2.ensures.removed, c.remove.ensures.removed, c.in_ok-text.ensures)
    (steps (table_of c.args.bare.now) c.args.n c.args.left c.args.right c.requires.sound.formed c.requires.meet).left_says
