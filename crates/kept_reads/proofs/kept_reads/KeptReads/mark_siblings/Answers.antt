-- One kid more, and at last all.
use Rattle.std.proofs.Common.{◌≡◌, ◌∙◌, ◌+◌, ◌⊎◌, ℕ, List, true, take, ap, sym, subst, arith}
use Rattle.std.proofs.lemmas.List.{take_all}
use Rattle.doc_tree.proofs.ListLemmas.{mem-get}
use Rattle.doc_tree.specs.Lists.{mem}
use Rattle.doc_tree.specs.Table.{kids_of}
use Rattle.edit_commands.specs.Touched.{holds_cell}
use Rattle.kept_reads.specs.inner.Dropping.{DropsTouched}
use Rattle.kept_reads.specs.inner.Naming.{IsAlongAny, IsAlongSome, is_sibling_axis}
use Rattle.kept_reads.proofs.DroppingLemmas.{drops_none, drops_then, drops_where}
use Rattle.kept_reads.proofs.NamingLemmas.{any_less, any_more, any_nothing}
use Rattle.kept_reads.proofs.kept_reads.KeptReads.mark_siblings.Goals as goal

pub loop-kid-init : goal.loop-kid-init
loop-kid-init c =
    drops_none c.args.at.now.tree.now.nodes (holds_cell c.args.at.now.tree.now.nodes c.args.at.now.touched.now) c.args.at.now.width _ c.args.self.now
    (any_nothing c.args.at.now.tree.now.nodes c.args.node is_sibling_axis)

pub mark_sibling-requires-clause-kid : goal.mark_sibling-requires-clause-kid
mark_sibling-requires-clause-kid c =
    let kid : ℕ = c.kid-item.result in
    let kids = c.kids-kid-items.result.now in
    let listed : mem kid kids ≡ true =
    subst (λ (m : ℕ). mem m kids ≡ true) (sym c.kid-item.is) (mem-get kids c.loop-kid.kid-index kid c.loop-kid-test.true) in
    ap (mem kid) (sym c.kids-kid-items.ensures) ∙ listed

pub loop-kid-preserved : goal.loop-kid-preserved
loop-kid-preserved c =
    let T = c.args.at.now.tree.now.nodes in
    let touched = holds_cell c.args.at.now.tree.now.nodes c.args.at.now.touched.now in
    let width = c.args.at.now.width in
    let kids = c.kids-kid-items.result.now in
    let i = c.loop-kid.kid-index in
    let kid = c.kid-item.result in
    drops_where T touched width (λ r. IsAlongAny T c.args.node is_sibling_axis (take i kids) r ⊎ IsAlongSome T c.args.node is_sibling_axis kid r)
    (IsAlongAny T c.args.node is_sibling_axis (take (i + 1) kids)) c.args.self.now c.mark_sibling.new.self
    (any_more T c.args.node is_sibling_axis kids i kid c.loop-kid-test.true c.kid-item.is)
    (any_less T c.args.node is_sibling_axis kids i kid c.loop-kid-test.true c.kid-item.is)
    (drops_then T touched width (IsAlongAny T c.args.node is_sibling_axis (take i kids)) (IsAlongSome T c.args.node is_sibling_axis kid)
    c.args.self.now
    c.loop-kid.self c.mark_sibling.new.self c.loop-kid.invariant c.mark_sibling.ensures)

pub returns : goal.returns
returns c =
    let T = c.args.at.now.tree.now.nodes in
    let kids = c.kids-kid-items.result.now in
    let all : take c.loop-kid.kid-index kids ≡ kids_of T c.args.parent =
    take_all c.loop-kid.kid-index kids (omega (arith, c.loop-kid-test.false)) ∙ c.kids-kid-items.ensures in
    subst
    (λ (ns : List ℕ). DropsTouched T (holds_cell c.args.at.now.tree.now.nodes c.args.at.now.touched.now) c.args.at.now.width
    (IsAlongAny T c.args.node is_sibling_axis ns) c.args.self.now c.loop-kid.self) all c.loop-kid.invariant
