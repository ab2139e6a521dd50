-- A list without the number at its place is the list without it.
use Rattle.std.proofs.Common.{sym, ◌∙◌}
use Rattle.doc_edits.proofs.ClearLemmas.{without-none}
use Rattle.doc_edits.proofs.UnlinkingLemmas.{without-found}
use Rattle.doc_edits.proofs.removing.take_out.Goals as goal

pub returns-in-Some : goal.returns-in-Some
returns-in-Some c =
    let found = rw c.as_slice.ensures at c.in-Some.ensures in
    c.remove.ensures ∙ without-found c.args.n c.in-Some.place c.args.list.now found.1 found.2 (c.requires c.args.n)

pub returns-in_default : goal.returns-in_default
returns-in_default c =
    let none = rw c.as_slice.ensures at c.in_default.ensures in
    sym (without-none c.args.n c.args.list.now none)
