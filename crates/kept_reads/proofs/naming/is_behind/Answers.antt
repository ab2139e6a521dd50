-- An element is no attribute.
use Rattle.std.proofs.Common.{◌≡◌, ◌∙◌, ◌&&◌, Bool, true, false, not, ap, sym}
use Rattle.doc_axes.specs.Axes.{is_after, is_ancestor}
use Rattle.kept_reads.proofs.NamingLemmas.{element_lives, following_plain}
use Rattle.kept_reads.proofs.naming.is_behind.Goals as goal

pub is_before-after-requires-clause-b_lives : goal.is_before-after-requires-clause-b_lives
is_before-after-requires-clause-b_lives c = element_lives c.args.tree.now.nodes c.args.element c.requires.element

pub returns-then-after : goal.returns-then-after
returns-then-after c =
    let T = c.args.tree.now.nodes in
    let m = c.args.element in
    let n = c.args.n in
    let there : is_after T n m ≡ true = sym c.is_before-after.ensures ∙ c.if-after.true in
    ap not c.is_ancestor-below.ensures ∙ ap (λ (b : Bool). b && not (is_ancestor T m n)) (sym there) ∙ following_plain T m n c.requires.element

pub returns-else-after : goal.returns-else-after
returns-else-after c =
    let T = c.args.tree.now.nodes in
    let m = c.args.element in
    let n = c.args.n in
    let gone : is_after T n m ≡ false = sym c.is_before-after.ensures ∙ c.if-after.false in
    c.if-after.false ∙ ap (λ (b : Bool). b && not (is_ancestor T m n)) (sym gone) ∙ following_plain T m n c.requires.element
