-- The next kid and all below it get the next places.
use Rattle.std.proofs.Common.{◌≡◌, ◌<◌, ◌≤◌, ◌+◌, ◌++◌, ◌∷◌, ℕ, List, true, length, get_or, sym, ap, ◌∙◌, subst, arith, length-append}
use Rattle.std.specs.List.{flat_map}
use Rattle.doc_table.specs.Lists.{mem}
use Rattle.doc_table.specs.Table.{Table, attrs_of, is_live, kids_of}
use Rattle.doc_table.specs.Walks.{ancestors, below}
use Rattle.doc_table.specs.inner.Parts.{Parts, table_of}
use Rattle.doc_table.specs.inner.Sound.{Formed}
use Rattle.doc_table.proofs.ListLemmas.{mem-get}
use Rattle.doc_table.proofs.TreeLaws.{ordered, ways-up, well-formed}
use Rattle.doc_edits.specs.inner.Ranking.{ranked}
use Rattle.doc_edits.proofs.RankingLemmas.{begun, begun-all, begun-few, begun-more, begun-none, more-ranked, table-ranked}
use Rattle.doc_edits.proofs.reranking.+rank_below.Goals as goal

pub rank_node-next-requires : goal.rank_node-next-requires
rank_node-next-requires t c = record {
  few = omega (
    arith,
    c.requires.few,
    ap length ((ordered (table_of c.args.bare.now) c.requires.formed).below_at c.args.n),
    length-append (attrs_of (table_of c.args.bare.now) c.args.n) (flat_map (below (table_of c.args.bare.now)) (kids_of (table_of c.args.bare.now) c.args.n)),
  );
}

-- the kids stay
same-list : (old now : Parts) (n place : ℕ) (ns list : List ℕ) → now ≡ record old { nodes = ranked place ns old.nodes } → list ≡ kids_of (table_of now) n → list ≡ kids_of (table_of old) n
same-list old now n place ns list is list_is = list_is ∙ ap (λ T. kids_of T n) (table-ranked old now place ns is)

pub bounds-kids-i : goal.bounds-kids-i
bounds-kids-i t c =
    omega (
      arith,
      c.loop-i-test.true,
      ap length c.kids-kids.ensures,
      ap length (same-list c.args.bare.now c.loop-i.bare c.args.n c.args.place (begun (table_of c.args.bare.now) c.args.n c.loop-i.i) c.kids.result.now c.loop-i.invariant.ranked_so_far c.kids.ensures),
    )

pub rank_below-next-requires : goal.rank_below-next-requires
rank_below-next-requires t c =
    let T : Table = table_of c.args.bare.now in
    let same : table_of c.loop-i.bare ≡ T = table-ranked c.args.bare.now c.loop-i.bare c.args.place (begun T c.args.n c.loop-i.i) c.loop-i.invariant.ranked_so_far in
    let list : c.kids.result.now ≡ kids_of T c.args.n = c.kids.ensures ∙ ap (λ V. kids_of V c.args.n) same in
    let short : c.loop-i.i < length (kids_of T c.args.n) = omega (arith, c.loop-i-test.true, ap length c.kids-kids.ensures) in
    let here : c.index-kids-i.result ≡ get_or (kids_of T c.args.n) c.loop-i.i c.index-kids-i.result =
    c.index-kids-i.is ∙ ap (λ l. get_or l c.loop-i.i c.index-kids-i.result) list in
    let member : mem c.index-kids-i.result (kids_of T c.args.n) ≡ true =
    subst (λ m. mem m (kids_of T c.args.n) ≡ true) (sym here) (mem-get (kids_of T c.args.n) c.loop-i.i c.index-kids-i.result short) in
    let up : ancestors T c.index-kids-i.result ≡ c.args.n ∷ ancestors T c.args.n =
    (ways-up T c.requires.formed).ancestors_at c.index-kids-i.result c.args.n ((well-formed T c.requires.formed).kid_parent c.args.n c.index-kids-i.result member) in
    let few : c.loop-i.next + length (below T c.index-kids-i.result) ≤ 262144 =
    omega (arith, c.requires.few, c.loop-i.invariant.next_is, begun-few T c.requires.formed c.args.n c.loop-i.i c.index-kids-i.result short here) in (
      omega (arith, c.decreases, ap length up, (ways-up T c.requires.formed).ancestors_bound c.index-kids-i.result, ap (λ V. length (ancestors V c.index-kids-i.result)) same),
      (
        subst Formed (sym same) c.requires.formed,
        (
          subst (λ V. is_live V c.index-kids-i.result ≡ true) (sym same) ((ways-up T c.requires.formed).kid_live c.args.n c.index-kids-i.result member),
          subst (λ V. c.loop-i.next + length (below V c.index-kids-i.result) ≤ 262144) (sym same) few,
        ),
      ),
    )

pub loop-i-init : goal.loop-i-init
loop-i-init t c =
    let none = begun-none (table_of c.args.bare.now) c.args.n in
    record {
      ranked_so_far = c.rank_node-next.ensures.ranked ∙ ap (λ l. record c.args.bare.now { nodes = ranked c.args.place l c.args.bare.now.nodes }) none;
      next_is = c.rank_node-next.ensures.next ∙ omega (arith, ap length none);
    }

pub loop-i-preserved : goal.loop-i-preserved
loop-i-preserved t c =
    let T : Table = table_of c.args.bare.now in
    let same : table_of c.loop-i.bare ≡ T = table-ranked c.args.bare.now c.loop-i.bare c.args.place (begun T c.args.n c.loop-i.i) c.loop-i.invariant.ranked_so_far in
    let list : c.kids.result.now ≡ kids_of T c.args.n = c.kids.ensures ∙ ap (λ V. kids_of V c.args.n) same in
    let short : c.loop-i.i < length (kids_of T c.args.n) = omega (arith, c.loop-i-test.true, ap length c.kids-kids.ensures) in
    let here : c.index-kids-i.result ≡ get_or (kids_of T c.args.n) c.loop-i.i c.index-kids-i.result =
    c.index-kids-i.is ∙ ap (λ l. get_or l c.loop-i.i c.index-kids-i.result) list in
    let more : begun T c.args.n (c.loop-i.i + 1) ≡ begun T c.args.n c.loop-i.i ++ below T c.index-kids-i.result =
    begun-more T c.requires.formed c.args.n c.loop-i.i c.index-kids-i.result short here in
    let after : c.rank_below-next.new.bare ≡ record c.loop-i.bare { nodes = ranked c.loop-i.next (below T c.index-kids-i.result) c.loop-i.bare.nodes } =
    c.rank_below-next.ensures.ranked ∙ ap (λ V. record c.loop-i.bare { nodes = ranked c.loop-i.next (below V c.index-kids-i.result) c.loop-i.bare.nodes }) same in
    record {
      ranked_so_far = more-ranked c.args.bare.now c.loop-i.bare c.rank_below-next.new.bare c.args.place c.loop-i.next (begun T c.args.n c.loop-i.i) (below T c.index-kids-i.result)
          c.loop-i.invariant.ranked_so_far c.loop-i.invariant.next_is after
          ∙ ap (λ l. record c.args.bare.now { nodes = ranked c.args.place l c.args.bare.now.nodes }) (sym more);
      next_is = c.rank_below-next.ensures.next
          ∙ omega (
            arith,
            c.loop-i.invariant.next_is,
            ap (λ V. length (below V c.index-kids-i.result)) same,
            ap length more,
            length-append (begun T c.args.n c.loop-i.i) (below T c.index-kids-i.result),
          );
    }

pub returns-clause-ranked : goal.returns-clause-ranked
returns-clause-ranked t c =
    c.loop-i.invariant.ranked_so_far
    ∙ ap (λ l. record c.args.bare.now { nodes = ranked c.args.place l c.args.bare.now.nodes })
    (begun-all (table_of c.args.bare.now) c.requires.formed c.args.n c.loop-i.i (omega (arith, c.loop-i-test.false, ap length c.kids-kids.ensures)))

pub returns-clause-next : goal.returns-clause-next
returns-clause-next t c =
    c.loop-i.invariant.next_is
    ∙ ap (λ l. c.args.place + length l)
    (begun-all (table_of c.args.bare.now) c.requires.formed c.args.n c.loop-i.i (omega (arith, c.loop-i-test.false, ap length c.kids-kids.ensures)))
