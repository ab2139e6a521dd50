-- A kid has one ancestor more than its parent; where two kids are apart, so are the nodes.
use Rattle.std.proofs.Common.{◌≡◌, ℕ, ◌∷◌, length, get_or, true, sym, ap, ◌∙◌, arith, subst, true≢false}
use Rattle.doc_table.specs.Lists.{mem}
use Rattle.doc_table.specs.Walks.{ancestors}
use Rattle.doc_table.proofs.ListLemmas.{mem-get}
use Rattle.doc_tree.specs.Table.{Table, kids_of}
use Rattle.tree_same.specs.Alike.{AreApart}
use Rattle.tree_same.proofs.AlikeLemmas.{apart-kid}
use Rattle.tree_same.proofs.same.+same_below.Goals as goal

pub same_below-requires : goal.same_below-requires
same_below-requires t c =
    let T : Table = c.args.a.now.nodes in
    let kid : ℕ = c.index-kids-i.result in
    let listed : mem kid c.kids-kids.result.now ≡ true =
    subst (λ m. mem m c.kids-kids.result.now ≡ true) (sym c.index-kids-i.is) (mem-get c.kids-kids.result.now c.loop-i.i kid c.loop-i-test.true) in
    let member : mem kid (kids_of T c.args.n) ≡ true = ap (mem kid) (sym c.kids-kids.ensures) ∙ listed in
    let up : ancestors T kid ≡ c.args.n ∷ ancestors T c.args.n =
    c.laws.ensures.ways_up.ancestors_at kid c.args.n (c.laws.ensures.well_formed.kid_parent c.args.n kid member) in
    (omega (arith, c.decreases, ap length up, c.laws.ensures.ways_up.ancestors_bound kid), tt)

pub returns-then-not-same_below : goal.returns-then-not-same_below
returns-then-not-same_below t c =
    let T : Table = c.args.a.now.nodes in
    let U : Table = c.args.b.now.nodes in
    let kid : ℕ = c.index-kids-i.result in
    let other : ℕ = c.index-others-i.result in
    let apart : AreApart T U kid other = c.same_below.ensures.other c.if-not-same_below.true in
    let here : kid ≡ get_or (kids_of T c.args.n) c.loop-i.i kid = c.index-kids-i.is ∙ ap (λ ns. get_or ns c.loop-i.i kid) c.kids-kids.ensures in
    let there : other ≡ get_or (kids_of U c.args.m) c.loop-i.i other = c.index-others-i.is ∙ ap (λ ns. get_or ns c.loop-i.i other) c.kids-others.ensures in
    record {
      told = λ h. absurd (true≢false (sym h));
      other = λ _. apart-kid T U c.args.n c.args.m c.loop-i.i kid other (omega (arith, c.loop-i-test.true, ap length c.kids-kids.ensures))
          (subst (λ k. AreApart T U k (get_or (kids_of U c.args.m) c.loop-i.i other)) here (subst (λ k. AreApart T U kid k) there apart));
    }
