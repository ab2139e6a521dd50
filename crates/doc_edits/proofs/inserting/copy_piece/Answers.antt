-- Each node of the piece is copied under its new number.
use Rattle.std.proofs.Common.{◌∙◌, subst, arith}
use Rattle.std.proofs.lemmas.Result.{IfOk-weaker}
use Rattle.doc_table.specs.inner.Parts.{table_of}
use Rattle.doc_table.proofs.TreeLaws.{ways-up}
use Rattle.doc_edits.specs.inner.Copies.{AreCopies}
use Rattle.doc_edits.proofs.InsertedLemmas.{depth-small, rank-small}
use Rattle.doc_edits.proofs.inserting.copy_piece.Goals as goal

pub copy_all-requires-clause-depths : goal.copy_all-requires-clause-depths
copy_all-requires-clause-depths c = λ n.
    omega (
      arith,
      c.in_ok-places.ensures.depth,
      (ways-up (table_of c.args.bare.now) c.requires.sound.formed).ancestors_bound c.args.parent,
      depth-small c.args.piece.now c.requires.piece n,
    )

pub copy_all-requires-clause-numbers : goal.copy_all-requires-clause-numbers
copy_all-requires-clause-numbers c = λ n. omega (arith, c.in_ok-places.ensures.numbers n, c.in_ok-places.ensures.first)

pub copy_all-requires-clause-ranks : goal.copy_all-requires-clause-ranks
copy_all-requires-clause-ranks c = λ n.
    rank-small (table_of c.args.bare.now) (table_of c.args.piece.now) c.args.parent c.args.spread c.in_ok-places.places n c.in_ok-places.ensures c.requires.ranks

pub returns-clause-copied : goal.returns-clause-copied
returns-clause-copied c =
    IfOk-weaker c.copy_all.result _ _ (λ copies are. record {
      places = c.in_ok-places.places;
      placed = c.in_ok-places.ensures;
      copied = subst (λ nodes. AreCopies c.copy_all.new.names c.args.piece.now.names c.in_ok-places.places c.args.piece.now.nodes nodes copies.items)
          (c.as_slice-2.ensures ∙ c.in_ok-nodes.ensures) are;
    }) c.copy_all.ensures.copied
