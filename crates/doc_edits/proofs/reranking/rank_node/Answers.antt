-- The next attribute gets the next place.
use Rattle.std.proofs.Common.{◌≡◌, ◌∷◌, ◌+◌, ℕ, List, suc, length, take, refl, ap, ◌∙◌, arith, get_or}
use Rattle.std.proofs.lemmas.List.{take_all}
use Rattle.doc_table.specs.Table.{attrs_of}
use Rattle.doc_table.specs.inner.Parts.{Parts, table_of}
use Rattle.doc_edits.specs.inner.Ranking.{ranked}
use Rattle.doc_edits.proofs.RankingLemmas.{one-ranked, table-ranked}
use Rattle.doc_edits.proofs.reranking.rank_node.Goals as goal

-- the attributes stay
same-list : (old now : Parts) (n place i : ℕ) (list : List ℕ) → now ≡ record old { nodes = ranked place (n ∷ take i (attrs_of (table_of old) n)) old.nodes } →
    list ≡ attrs_of (table_of now) n → list ≡ attrs_of (table_of old) n
same-list old now n place i list is list_is = list_is ∙ ap (λ T. attrs_of T n) (table-ranked old now place (n ∷ take i (attrs_of (table_of old) n)) is)

pub loop-i-init : goal.loop-i-init
loop-i-init c = record {
  ranked_so_far = one-ranked c.args.bare.now c.args.bare.now c.bare.inside.nodes.items c.set_rank.new.nodes.items c.bare.inside.names c.bare.inside.live c.bare.inside.text_bytes c.bare.inside.pair_cap
      c.args.place 0 1 c.args.place c.args.n (c.args.n ∷ attrs_of (table_of c.args.bare.now) c.args.n) c.bare.view_is refl (omega arith) refl (omega arith) (omega arith) c.set_rank.ensures;
  next_is = omega arith;
}

pub bounds-attrs-i : goal.bounds-attrs-i
bounds-attrs-i c =
    omega (
      arith,
      c.loop-i-test.true,
      ap length c.attrs-attributes.ensures,
      ap length (same-list c.args.bare.now c.loop-i.bare c.args.n c.args.place c.loop-i.i c.attrs.result.now c.loop-i.invariant.ranked_so_far c.attrs.ensures),
    )

pub overflow_add-next-in-loop-i : goal.overflow_add-next-in-loop-i
overflow_add-next-in-loop-i c = omega (arith, c.loop-i-test.true, ap length c.attrs-attributes.ensures, c.loop-i.invariant.next_is, c.requires.few)

pub loop-i-preserved : goal.loop-i-preserved
loop-i-preserved c =
    let list = same-list c.args.bare.now c.loop-i.bare c.args.n c.args.place c.loop-i.i c.attrs.result.now c.loop-i.invariant.ranked_so_far c.attrs.ensures in
    record {
      ranked_so_far = one-ranked c.args.bare.now c.loop-i.bare c.bare-in-loop-i.inside.nodes.items c.set_rank-in-loop-i.new.nodes.items c.bare-in-loop-i.inside.names c.bare-in-loop-i.inside.live
          c.bare-in-loop-i.inside.text_bytes c.bare-in-loop-i.inside.pair_cap c.args.place (suc c.loop-i.i) (suc (c.loop-i.i + 1)) c.loop-i.next c.index-attrs-i.result
          (c.args.n ∷ attrs_of (table_of c.args.bare.now) c.args.n) c.bare-in-loop-i.view_is c.loop-i.invariant.ranked_so_far
          (omega (arith, c.loop-i-test.true, ap length c.attrs-attributes.ensures)) (c.index-attrs-i.is ∙ ap (λ l. get_or l c.loop-i.i c.index-attrs-i.result) list)
          (omega arith) (omega (arith, c.loop-i.invariant.next_is)) c.set_rank-in-loop-i.ensures;
      next_is = omega (arith, c.loop-i.invariant.next_is);
    }

pub returns-clause-ranked : goal.returns-clause-ranked
returns-clause-ranked c =
    c.loop-i.invariant.ranked_so_far
    ∙ ap (λ l. record c.args.bare.now { nodes = ranked c.args.place (c.args.n ∷ l) c.args.bare.now.nodes })
    (take_all c.loop-i.i (attrs_of (table_of c.args.bare.now) c.args.n) (omega (arith, c.loop-i-test.false, ap length c.attrs-attributes.ensures)))

pub returns-clause-next : goal.returns-clause-next
returns-clause-next c =
    omega (arith, c.loop-i.invariant.next_is, c.loop-i-test.false, c.loop-i.auto.i-end, ap length c.attrs-attributes.ensures)
