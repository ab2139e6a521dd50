-- An element is no attribute.
use Rattle.std.proofs.Common.{◌≡◌, ◌∙◌, ◌&&◌, Bool, true, false, not, ap, sym}
use Rattle.doc_axes.specs.Axes.{is_after, is_ancestor}
use Rattle.kept_reads.proofs.NamingLemmas.{element_lives, preceding_plain}
use Rattle.kept_reads.proofs.naming.is_ahead.Goals as goal

pub is_before-before-requires-clause-a_lives : goal.is_before-before-requires-clause-a_lives
is_before-before-requires-clause-a_lives c = element_lives c.args.tree.now.nodes c.args.element c.requires.element

pub returns-then-before : goal.returns-then-before
returns-then-before c =
    let T = c.args.tree.now.nodes in
    let m = c.args.element in
    let n = c.args.n in
    let there : is_after T m n ≡ true = sym c.is_before-before.ensures ∙ c.if-before.true in
    ap not c.is_ancestor-above.ensures ∙ ap (λ (b : Bool). b && not (is_ancestor T n m)) (sym there) ∙ preceding_plain T m n c.requires.element

pub returns-else-before : goal.returns-else-before
returns-else-before c =
    let T = c.args.tree.now.nodes in
    let m = c.args.element in
    let n = c.args.n in
    let gone : is_after T m n ≡ false = sym c.is_before-before.ensures ∙ c.if-before.false in
    c.if-before.false ∙ ap (λ (b : Bool). b && not (is_ancestor T n m)) (sym gone) ∙ preceding_plain T m n c.requires.element
