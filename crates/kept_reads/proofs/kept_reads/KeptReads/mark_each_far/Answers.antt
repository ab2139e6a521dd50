-- One node more, and at last all.
use Rattle.std.proofs.Common.{◌+◌, ◌≤◌, ◌⊎◌, length, arith}
use Rattle.edit_commands.specs.Touched.{holds_cell}
use Rattle.kept_reads.specs.inner.Naming.{IsAlongBelow, IsAlongSome}
use Rattle.read_index.specs.Names.{is_far}
use Rattle.kept_reads.proofs.DroppingLemmas.{drops_none, drops_then, drops_where}
use Rattle.kept_reads.proofs.NamingLemmas.{below_all, below_each, below_less, below_more, below_nothing}
use Rattle.kept_reads.proofs.kept_reads.KeptReads.mark_each_far.Goals as goal

pub loop-number-init : goal.loop-number-init
loop-number-init c =
    drops_none c.args.at.now.tree.now.nodes (holds_cell c.args.at.now.tree.now.nodes c.args.at.now.touched.now) c.args.at.now.width _ c.args.self.now
    (below_nothing c.args.at.now.tree.now.nodes c.args.node is_far)

pub loop-number-preserved : goal.loop-number-preserved
loop-number-preserved c =
    let T = c.args.at.now.tree.now.nodes in
    let touched = holds_cell c.args.at.now.tree.now.nodes c.args.at.now.touched.now in
    let width = c.args.at.now.width in
    let i = c.loop-number.number in
    let n = c.from_number.result in
    drops_where T touched width (λ r. IsAlongBelow T c.args.node is_far i r
    ⊎ IsAlongSome T c.args.node is_far n r) (IsAlongBelow T c.args.node is_far (i + 1))
    c.args.self.now c.mark_far.new.self (below_more T c.args.node is_far i n c.from_number.ensures)
    (below_less T c.args.node is_far i n c.from_number.ensures)
    (drops_then T touched width (IsAlongBelow T c.args.node is_far i) (IsAlongSome T c.args.node is_far n) c.args.self.now c.loop-number.self
    c.mark_far.new.self
    c.loop-number.invariant c.mark_far.ensures)

pub returns : goal.returns
returns c =
    let T = c.args.at.now.tree.now.nodes in
    let laws = c.laws.ensures in
    let whole : length T ≤ c.loop-number.number = omega (arith, c.loop-number-test.false, c.numbers_made-numbers.ensures) in
    drops_where T (holds_cell c.args.at.now.tree.now.nodes c.args.at.now.touched.now) c.args.at.now.width
    (IsAlongBelow T c.args.node is_far c.loop-number.number)
    (IsAlongBelow T c.args.node is_far (length T)) c.args.self.now c.loop-number.self
    (below_all T laws.well_formed laws.ordered laws.ways_up laws.nested c.args.node c.requires.element c.loop-number.number)
    (below_each T laws.well_formed laws.ordered laws.ways_up laws.nested c.args.node c.requires.element c.loop-number.number whole)
    c.loop-number.invariant
