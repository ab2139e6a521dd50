-- A kid has one ancestor more than its parent, is no attribute, and no node stands deeper than the limit allows.
use Rattle.std.proofs.Common.{◌≡◌, ℕ, length, take, sym, ap, ap₂, ◌∙◌, arith, true, subst, ◌∷◌, ◌++◌, [], append_assoc}
use Rattle.doc_tree.specs.Lists.{mem}
use Rattle.doc_tree.specs.Table.{kids_of}
use Rattle.doc_tree.specs.Walks.{ancestors}
use Rattle.doc_tree.proofs.ListLemmas.{mem-get}
use Rattle.std.proofs.lemmas.List.{take_all}
use Rattle.doc_axes.specs.Plain.{plain_below}
use Rattle.doc_axes.proofs.AxisLemmas.{kid-is_plain, plain_at}
use Rattle.doc_axes.proofs.walks.+push_plain.Goals as goal

pub push_plain-requires : goal.push_plain-requires
push_plain-requires t c =
    let kid : ℕ = c.kid-item.result in
    let listed : mem kid c.kids-kid-items.result.now ≡ true =
    subst (λ m. mem m c.kids-kid-items.result.now ≡ true) (sym c.kid-item.is) (mem-get c.kids-kid-items.result.now c.loop-kid.kid-index kid c.loop-kid-test.true) in
    let member : mem kid (kids_of c.args.tree.now.nodes c.args.n) ≡ true = ap (mem kid) (sym c.kids-kid-items.ensures) ∙ listed in
    let up : ancestors c.args.tree.now.nodes kid ≡ c.args.n ∷ ancestors c.args.tree.now.nodes c.args.n =
    c.laws.ensures.ways_up.ancestors_at kid c.args.n (c.laws.ensures.well_formed.kid_parent c.args.n kid member) in (
      omega (arith, c.decreases, ap length up, c.laws.ensures.ways_up.ancestors_bound kid),
      kid-is_plain c.args.tree.now.nodes c.laws.ensures.well_formed c.laws.ensures.ordered c.laws.ensures.ways_up c.laws.ensures.nested c.args.n kid member,
    )

pub returns : goal.returns
returns t c =
    let table = c.args.tree.now.nodes in
    let laws = c.laws.ensures in
    let all : take c.loop-kid.kid-index c.kids-kid-items.result.now ≡ kids_of table c.args.n =
    take_all c.loop-kid.kid-index c.kids-kid-items.result.now (omega (arith, c.loop-kid-test.false)) ∙ c.kids-kid-items.ensures in
    c.loop-kid.invariant
    ∙ (ap₂ (λ l ks. l ++ plain_below table ks) c.in_ok-push.ensures.pushed all
    ∙ (append_assoc c.args.list.now (c.args.n ∷ []) (plain_below table (kids_of table c.args.n))
    ∙ ap (λ l. c.args.list.now ++ l) (sym (plain_at table laws.well_formed laws.ordered laws.ways_up c.laws.ensures.nested c.args.n c.requires))))
