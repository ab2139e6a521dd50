-- A text that meets another is a kid.
use Rattle.std.proofs.Common.{sym, ap, ◌∙◌}
use Rattle.undo_entries.specs.inner.Parts.{meeting_of}
use Rattle.undo_entries.proofs.TreeLemmas.{right-live}
use Rattle.undo_entries.proofs.making.delete_undone.Goals as goal

pub push_parted-requires-clause-right : goal.push_parted-requires-clause-right
push_parted-requires-clause-right c =
    right-live c.args.tree.now.nodes c.laws.ensures.well_formed c.args.n (record { left = c.in-Some.texts.left; right = c.in-Some.texts.right })
    (sym c.requires.met ∙ ap meeting_of c.in-Some.is)
