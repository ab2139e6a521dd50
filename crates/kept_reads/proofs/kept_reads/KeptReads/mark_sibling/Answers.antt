-- A kid stands before a sibling where the sibling follows it.
use Rattle.std.proofs.Common.{◌∙◌, ◌⊎◌}
use Rattle.doc_tree.specs.declared.axes.Axis.TheVariants.{FollowingSibling, PrecedingSibling}
use Rattle.edit_commands.specs.Touched.{holds_cell}
use Rattle.kept_reads.specs.inner.Naming.{IsAlongFrom, IsAlongSome, is_sibling_axis}
use Rattle.kept_reads.proofs.DroppingLemmas.{drops_then, drops_where}
use Rattle.kept_reads.proofs.NamingLemmas.{element_lives, kid_before, kid_behind, siblings_back, siblings_here}
use Rattle.kept_reads.proofs.kept_reads.KeptReads.mark_sibling.Goals as goal

pub is_before-before-requires-clause-a_lives : goal.is_before-before-requires-clause-a_lives
is_before-before-requires-clause-a_lives c = c.laws.ensures.ways_up.kid_live c.args.parent c.args.kid c.requires.kid

pub is_before-before-requires-clause-b_lives : goal.is_before-before-requires-clause-b_lives
is_before-before-requires-clause-b_lives c = element_lives c.args.at.now.tree.now.nodes c.args.node c.requires.element

pub is_before-behind-requires-clause-a_lives : goal.is_before-behind-requires-clause-a_lives
is_before-behind-requires-clause-a_lives c = element_lives c.args.at.now.tree.now.nodes c.args.node c.requires.element

pub is_before-behind-requires-clause-b_lives : goal.is_before-behind-requires-clause-b_lives
is_before-behind-requires-clause-b_lives c = c.laws.ensures.ways_up.kid_live c.args.parent c.args.kid c.requires.kid

pub mark_if-requires : goal.mark_if-requires
mark_if-requires c =
    let laws = c.laws.ensures in
    c.is_before-before.ensures
    ∙ kid_before c.args.at.now.tree.now.nodes laws.well_formed laws.ordered laws.ways_up laws.nested c.args.node c.requires.element c.args.kid
    c.args.parent
    c.requires.kid c.requires.up

pub mark_if-requires-2 : goal.mark_if-requires-2
mark_if-requires-2 c =
    let laws = c.laws.ensures in
    c.is_before-behind.ensures
    ∙ kid_behind c.args.at.now.tree.now.nodes laws.well_formed laws.ordered laws.ways_up laws.nested c.args.node c.requires.element c.args.kid
    c.args.parent
    c.requires.kid c.requires.up

pub returns : goal.returns
returns c =
    let T = c.args.at.now.tree.now.nodes in
    let touched = holds_cell c.args.at.now.tree.now.nodes c.args.at.now.touched.now in
    let width = c.args.at.now.width in
    drops_where T touched width
    (λ r. IsAlongFrom T c.args.node FollowingSibling c.args.kid r ⊎ IsAlongFrom T c.args.node PrecedingSibling c.args.kid r)
    (IsAlongSome T c.args.node is_sibling_axis c.args.kid) c.args.self.now c.mark_if-2.new.self
    (siblings_here T c.args.node c.args.kid) (siblings_back T c.args.node c.args.kid)
    (drops_then T touched width (IsAlongFrom T c.args.node FollowingSibling c.args.kid) (IsAlongFrom T c.args.node PrecedingSibling c.args.kid)
    c.args.self.now
    c.mark_if.new.self c.mark_if-2.new.self c.mark_if.ensures c.mark_if-2.ensures)
