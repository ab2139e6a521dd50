-- A kid stands deeper, and the last of all below a node is the last of all below its last kid.
use Rattle.std.proofs.Common.{◌≡◌, ℕ, true, length, take, ap, ◌∙◌, sym, arith}
use Rattle.doc_table.specs.Lists.{mem}
use Rattle.doc_table.specs.Table.{attrs_of, kids_of}
use Rattle.doc_table.specs.inner.Parts.{table_of}
use Rattle.doc_edits.proofs.SpreadLemmas.{last-all, last-inside, last-listed}
use Rattle.doc_edits.proofs.ranking.+node_before.Goals as goal

pub node_before-requires : goal.node_before-requires
node_before-requires t c =
    let kid : ℕ = c.in-Some.kid.now in
    let found = rw c.kids.ensures at c.in-Some.ensures.value in
    let member : mem kid (kids_of (table_of c.args.bare.now) c.args.n) ≡ true = last-listed kid c.args.before (kids_of (table_of c.args.bare.now) c.args.n) found in
    let up = c.laws.ensures.ways_up.ancestors_at kid c.args.n (c.laws.ensures.well_formed.kid_parent c.args.n kid member) in (
      omega (arith, c.decreases, ap length up, c.laws.ensures.ways_up.ancestors_bound kid),
      (c.requires.sound, (c.laws.ensures.ways_up.kid_live c.args.n kid member, omega (arith, ap length c.kids-in-Some.ensures))),
    )

pub returns-in-Some : goal.returns-in-Some
returns-in-Some t c =
    let found = rw c.kids.ensures at c.in-Some.ensures.value in
    c.node_before.ensures
    ∙ (last-all (table_of c.args.bare.now) c.in-Some.kid.now (length c.kids-in-Some.result.now) (ap length c.kids-in-Some.ensures)
    ∙ sym (last-inside (table_of c.args.bare.now) c.requires.sound.formed c.args.n c.in-Some.kid.now (attrs_of (table_of c.args.bare.now) c.args.n)
    (take c.args.before (kids_of (table_of c.args.bare.now) c.args.n)) found))
