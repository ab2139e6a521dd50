-- Behind the seam stands the next kid, or else what stands behind all below the node.
use Rattle.std.proofs.Common.{Some, None, get_or, ap, ◌∙◌, sym, ltb-false, ltb-true}
use Rattle.std.specs.Option.{option_map}
use Rattle.doc_table.specs.inner.Kept.{rank_at}
use Rattle.doc_table.specs.inner.Parts.{table_of}
use Rattle.doc_table.proofs.Appending.{holder-live}
use Rattle.doc_edits.proofs.SeamLemmas.{Behind, behind}
use Rattle.doc_edits.proofs.SpreadLemmas.{first-kid, no-kid}
use Rattle.doc_edits.proofs.ranking.rank_at_place.Goals as goal

pub returns-in-Some : goal.returns-in-Some
returns-in-Some c = λ front back seam.
    let b : Behind (table_of c.args.bare.now) c.requires.sound.formed c.args.parent c.args.before back =
    behind (table_of c.args.bare.now) c.requires.sound.formed c.args.parent c.args.before front back (holder-live (table_of c.args.bare.now) c.args.parent c.requires.holder) seam in
    let found = rw c.kids.ensures at c.in-Some.ensures.lookup in
    ap Some c.rank.ensures
    ∙ ap (option_map (λ m. rank_at (get_or c.args.bare.now.nodes m None)))
    (sym (first-kid (table_of c.args.bare.now) c.requires.sound.formed c.args.parent c.args.before back b c.in-Some.kid.now (ltb-true _ _ (sym found.0)) found.1))

pub returns-in-None : goal.returns-in-None
returns-in-None c = λ front back seam.
    let b : Behind (table_of c.args.bare.now) c.requires.sound.formed c.args.parent c.args.before back =
    behind (table_of c.args.bare.now) c.requires.sound.formed c.args.parent c.args.before front back (holder-live (table_of c.args.bare.now) c.args.parent c.requires.holder) seam in
    let past = rw c.kids.ensures at c.in-None.ensures.lookup in
    c.rank_behind.ensures b.front back (no-kid (table_of c.args.bare.now) c.requires.sound.formed c.args.parent c.args.before back b (ltb-false _ _ (sym past.0)))
