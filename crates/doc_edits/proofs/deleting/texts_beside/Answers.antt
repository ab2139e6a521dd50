-- The place among the kids tells what stands before and behind the node.
use Rattle.std.proofs.Common.{ap, ◌∙◌, sym, arith}
use Rattle.doc_table.specs.Table.{kids_above}
use Rattle.doc_table.specs.inner.Parts.{table_of}
use Rattle.doc_edits.specs.Changes.{meeting}
use Rattle.doc_edits.proofs.MeetingLemmas.{kid-listed, none-beside, pair-beside, both-texts, not-both-texts}
use Rattle.doc_edits.proofs.deleting.texts_beside.Goals as goal

pub returns-in_err-place : goal.returns-in_err-place
returns-in_err-place c =
    absurd (let found = rw c.kids-kids.ensures at c.in_err-place.ensures in
    omega (arith, found, kid-listed (table_of c.args.bare.now) c.args.n c.in_ok-parent.field-0 c.requires.sound.formed (sym c.in_ok-parent.ensures) c.requires.kid))

pub returns-in_err-left : goal.returns-in_err-left
returns-in_err-left c =
    let found = rw c.kids-kids.ensures at c.in_ok-place.ensures in
    rw c.from_residual-in_err-left.ensures
    (ap (λ o. meeting (table_of c.args.bare.now) c.args.n (kids_above (table_of c.args.bare.now) o)) (sym c.in_ok-parent.ensures)
    ∙ none-beside (table_of c.args.bare.now) c.args.n c.in_ok-parent.field-0 c.in_ok-place.place c.requires.sound.formed found.0 found.1
    (rw c.kids-kids.ensures at c.in_err-left.ensures))

pub returns-then-are_texts : goal.returns-then-are_texts
returns-then-are_texts c =
    let at = rw c.kids-kids.ensures at c.in_ok-place.ensures in
    let found = rw c.kids-kids.ensures at c.in_ok-left.ensures in
    ap (λ o. meeting (table_of c.args.bare.now) c.args.n (kids_above (table_of c.args.bare.now) o)) (sym c.in_ok-parent.ensures)
    ∙ (pair-beside (table_of c.args.bare.now) c.args.n c.in_ok-parent.field-0 c.in_ok-place.place c.requires.sound.formed at.0 at.1
    c.in_ok-left.left c.in_ok-left.right found.0 found.1 found.2 found.3
    ∙ both-texts (table_of c.args.bare.now) c.in_ok-left.left c.in_ok-left.right (sym c.if-are_texts.ensures))

pub returns-else-are_texts : goal.returns-else-are_texts
returns-else-are_texts c =
    let at = rw c.kids-kids.ensures at c.in_ok-place.ensures in
    let found = rw c.kids-kids.ensures at c.in_ok-left.ensures in
    ap (λ o. meeting (table_of c.args.bare.now) c.args.n (kids_above (table_of c.args.bare.now) o)) (sym c.in_ok-parent.ensures)
    ∙ (pair-beside (table_of c.args.bare.now) c.args.n c.in_ok-parent.field-0 c.in_ok-place.place c.requires.sound.formed at.0 at.1
    c.in_ok-left.left c.in_ok-left.right found.0 found.1 found.2 found.3
    ∙ not-both-texts (table_of c.args.bare.now) c.in_ok-left.left c.in_ok-left.right (sym c.if-are_texts.ensures))
