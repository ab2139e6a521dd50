-- A kid has one ancestor more than its parent, and no node has more than the limit of depth allows.
use Rattle.std.proofs.Common.{◌≡◌, ℕ, ◌≤◌, List, [], ◌∷◌, ◌++◌, length, take, true, refl, sym, ap, ◌∙◌, subst, arith, append-nil, append_assoc}
use Rattle.std.proofs.lemmas.List.{take_all}
use Rattle.std.proofs.lemmas.Result.{IfOk-from_err}
use Rattle.std.specs.List.{flat_map}
use Rattle.sch_base.proofs.Lists.{flat_map-next}
use Rattle.doc_table.specs.Lists.{mem}
use Rattle.doc_table.specs.Table.{Table, kids_of}
use Rattle.doc_table.specs.Walks.{ancestors, below}
use Rattle.doc_table.specs.inner.Parts.{table_of}
use Rattle.doc_table.proofs.ListLemmas.{mem-get}
use Rattle.doc_table.proofs.bare.Bare.+push_below.Goals as goal

pub push_below-requires : goal.push_below-requires
push_below-requires t c =
    let kid : ℕ = c.kid-item.result in
    let listed : mem kid c.kids-kid-items.result.now ≡ true =
    subst (λ m. mem m c.kids-kid-items.result.now ≡ true) (sym c.kid-item.is) (mem-get c.kids-kid-items.result.now c.loop-kid.kid-index kid c.loop-kid-test.true) in
    let member : mem kid (kids_of (table_of c.args.self.now) c.args.n) ≡ true = ap (mem kid) (sym c.kids-kid-items.ensures) ∙ listed in
    let up : ancestors (table_of c.args.self.now) kid ≡ c.args.n ∷ ancestors (table_of c.args.self.now) c.args.n =
    c.laws.ensures.ways_up.ancestors_at kid c.args.n (c.laws.ensures.well_formed.kid_parent c.args.n kid member) in
    (omega (arith, c.decreases, ap length up, c.laws.ensures.ways_up.ancestors_bound kid), c.requires)

pub loop-kid-init : goal.loop-kid-init
loop-kid-init t c = sym (append-nil c.push_all.new.self)

pub loop-kid-preserved : goal.loop-kid-preserved
loop-kid-preserved t c =
    let next = flat_map-next (below (table_of c.args.self.now)) c.kids-kid-items.result.now c.loop-kid.kid-index c.kid-item.result c.kid-item.is c.loop-kid-test.true in
    c.in_ok-push_below.ensures.pushed ∙ rw (next, c.loop-kid.invariant) (append_assoc c.push_all.new.self _ _)

-- the node, its attributes, and what the kids gave
gathered : (start pushed all list items attributes : List ℕ) (n i : ℕ) (f : ℕ → List ℕ) → pushed ≡ start ++ n ∷ [] → all ≡ pushed ++ attributes →
    list ≡ all ++ flat_map f (take i items) → length items ≤ i → list ≡ start ++ n ∷ (attributes ++ flat_map f items)
gathered start pushed all list items attributes n i f pushed_is all_is list_is over =
    list_is ∙ rw (all_is, pushed_is, take_all i items over)
    (append_assoc (start ++ n ∷ []) attributes (flat_map f items) ∙ append_assoc start (n ∷ []) (attributes ++ flat_map f items))

pub returns-clause-pushed : goal.returns-clause-pushed
returns-clause-pushed t c =
    let T : Table = table_of c.args.self.now in
    gathered c.args.list.now c.push.new.self c.push_all.new.self c.loop-kid.list c.kids-kid-items.result.now c.attrs.result.now c.args.n c.loop-kid.kid-index (below T)
    c.in_ok-push.ensures.pushed c.in_ok-push_all.ensures.pushed c.loop-kid.invariant c.loop-kid-test.false
    ∙ rw (c.laws.ensures.ordered.below_at c.args.n, c.attrs.ensures, c.kids-kid-items.ensures) refl

pub returns-in_err-push_all-clause-pushed : goal.returns-in_err-push_all-clause-pushed
returns-in_err-push_all-clause-pushed t c = IfOk-from_err c.from_residual-in_err-push_all.result _ c.from_residual-in_err-push_all.ensures.0

pub returns-in_err-push_below-clause-pushed : goal.returns-in_err-push_below-clause-pushed
returns-in_err-push_below-clause-pushed t c = IfOk-from_err c.from_residual-in_err-push_below.result _ c.from_residual-in_err-push_below.ensures.0
