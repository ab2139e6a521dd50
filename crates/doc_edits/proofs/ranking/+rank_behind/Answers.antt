-- Behind all below a kid stands the next kid, or else what stands behind all below its parent.
use Rattle.std.proofs.Common.{Some, None, get_or, ap, ◌∙◌, sym, arith}
use Rattle.std.specs.Option.{option_map}
use Rattle.doc_table.specs.inner.Kept.{rank_at}
use Rattle.doc_table.specs.inner.Parts.{table_of}
use Rattle.doc_edits.proofs.SeamLemmas.{Above, upwards}
use Rattle.doc_edits.proofs.SpreadLemmas.{elder-low, next-first, none-next, younger-high}
use Rattle.doc_edits.proofs.ranking.+rank_behind.Goals as goal

pub returns-in-Some : goal.returns-in-Some
returns-in-Some t c = λ front back e.
    let a : Above (table_of c.args.bare.now) c.requires.sound.formed c.args.n c.in_ok-parent.parent back =
    upwards (table_of c.args.bare.now) c.requires.sound.formed c.args.n c.in_ok-parent.parent front back (sym c.in_ok-parent.ensures) c.requires.holder e in
    let found = c.in-Some.ensures _ a.younger a.kids
    (λ k h. omega (arith, elder-low c.args.bare.now c.requires.sound c.args.n c.in_ok-parent.parent back a k h, c.rank.ensures))
    (λ k h. omega (arith, younger-high c.args.bare.now c.requires.sound c.args.n c.in_ok-parent.parent back a k h, c.rank.ensures)) in
    ap Some c.rank-in-Some.ensures
    ∙ ap (option_map (λ m. rank_at (get_or c.args.bare.now.nodes m None)))
    (sym (next-first (table_of c.args.bare.now) c.requires.sound.formed c.args.n c.in_ok-parent.parent back a c.in-Some.kid found))

pub returns-in-None : goal.returns-in-None
returns-in-None t c = λ front back e.
    let a : Above (table_of c.args.bare.now) c.requires.sound.formed c.args.n c.in_ok-parent.parent back =
    upwards (table_of c.args.bare.now) c.requires.sound.formed c.args.n c.in_ok-parent.parent front back (sym c.in_ok-parent.ensures) c.requires.holder e in
    let found = c.in-None.ensures _ a.younger a.kids
    (λ k h. omega (arith, elder-low c.args.bare.now c.requires.sound c.args.n c.in_ok-parent.parent back a k h, c.rank.ensures))
    (λ k h. omega (arith, younger-high c.args.bare.now c.requires.sound c.args.n c.in_ok-parent.parent back a k h, c.rank.ensures)) in
    c.rank_behind.ensures a.front back (none-next (table_of c.args.bare.now) c.requires.sound.formed c.args.n c.in_ok-parent.parent back a found)
