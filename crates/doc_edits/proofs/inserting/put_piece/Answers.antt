-- The copies show the piece under its new numbers, and the nodes with them are those of a tree.
use Rattle.std.proofs.Common.{◌≡◌, ◌+◌, ◌-◌, ◌*◌, ◌<◌, length, ap, ◌∙◌, subst, arith}
use Rattle.doc_table.specs.inner.Parts.{Parts, table_of}
use Rattle.doc_edits.specs.Changes.{nodes_in}
use Rattle.doc_edits.specs.inner.Ranking.{HasRoom}
use Rattle.doc_edits.proofs.InsertedLemmas.{PutIn, piece-count, put}
use Rattle.doc_edits.proofs.inserting.put_piece.Goals as goal

pub spread_at-spread-requires-clause-few : goal.spread_at-spread-requires-clause-few
spread_at-spread-requires-clause-few c =
    omega (arith, c.live_nodes-count.ensures, piece-count (table_of c.args.piece.now) c.requires.piece.formed, c.requires.may.few_nodes)

pub copy_piece-requires-clause-ranks : goal.copy_piece-requires-clause-ranks
copy_piece-requires-clause-ranks c =
    let many : c.live_nodes-count.result - 1 ≡ length (nodes_in (table_of c.args.piece.now)) =
    omega (arith, c.live_nodes-count.ensures, piece-count (table_of c.args.piece.now) c.requires.piece.formed) in
    subst (λ k. c.spread_at-spread.result.first + k * c.spread_at-spread.result.step < 18446744073709551616) many c.spread_at-spread.ensures.small

pub overflow_add-bare : goal.overflow_add-bare
overflow_add-bare c =
    omega (
      arith,
      c.live_nodes-count.ensures,
      piece-count (table_of c.args.piece.now) c.requires.piece.formed,
      c.requires.may.few_nodes,
      ap (λ (parts : Parts). parts.live) (c.bare.view_is ∙ c.in_ok-copies.ensures.kept),
      c.requires.sound.live_is,
      c.requires.sound.formed.few_nodes,
    )

pub settle-requires : goal.settle-requires
settle-requires c =
    let many : c.live_nodes-count.result - 1 ≡ length (nodes_in (table_of c.args.piece.now)) =
    omega (arith, c.live_nodes-count.ensures, piece-count (table_of c.args.piece.now) c.requires.piece.formed) in
    let done : PutIn c.args.bare.now c.args.piece.now _ c.args.parent c.args.before c.spread_at-spread.result =
    put c.args.bare.now c.copy_piece.new.bare c.args.piece.now c.args.parent c.args.before c.next_number-first.result (c.live_nodes-count.result - 1) c.spread_at-spread.result
    c.in_ok-copies.copies.items c.bare.inside.nodes.items c.graft.new.nodes.items c.bare.inside.names c.bare.inside.live c.bare.inside.text_bytes c.bare.inside.pair_cap c.piece.inside.text_bytes
    c.in_ok-copies.ensures.kept c.bare.view_is c.next_number-first.ensures (ap (λ (parts : Parts). parts.text_bytes) c.piece.view_is) many c.in_ok-graft.ensures.grafted c.in_ok-copies.ensures.grown
    c.requires.sound c.requires.piece c.requires.may c.in_ok-copies.ensures.copied in
    record {
      formed = done.formed;
      roomy = done.roomy (λ some front back seam. subst (λ k. HasRoom c.args.bare.now.nodes front back k c.spread_at-spread.result) many (c.spread_at-spread.ensures.room some front back seam));
      anew = done.anew;
    }

pub returns-clause-inserted : goal.returns-clause-inserted
returns-clause-inserted c =
    let many : c.live_nodes-count.result - 1 ≡ length (nodes_in (table_of c.args.piece.now)) =
    omega (arith, c.live_nodes-count.ensures, piece-count (table_of c.args.piece.now) c.requires.piece.formed) in
    let done : PutIn c.args.bare.now c.args.piece.now _ c.args.parent c.args.before c.spread_at-spread.result =
    put c.args.bare.now c.copy_piece.new.bare c.args.piece.now c.args.parent c.args.before c.next_number-first.result (c.live_nodes-count.result - 1) c.spread_at-spread.result
    c.in_ok-copies.copies.items c.bare.inside.nodes.items c.graft.new.nodes.items c.bare.inside.names c.bare.inside.live c.bare.inside.text_bytes c.bare.inside.pair_cap c.piece.inside.text_bytes
    c.in_ok-copies.ensures.kept c.bare.view_is c.next_number-first.ensures (ap (λ (parts : Parts). parts.text_bytes) c.piece.view_is) many c.in_ok-graft.ensures.grafted c.in_ok-copies.ensures.grown
    c.requires.sound c.requires.piece c.requires.may c.in_ok-copies.ensures.copied in
    c.settle.ensures.table ∙ done.table
