use Rattle.std.proofs.Common.{◌∙◌, arith, subst, sym}
use Rattle.xslt_match.specs.Names.{HoldsNames}
use Rattle.xslt_match.proofs.Recording.{holds_fewer, up_covered, up_held, up_more}
use Rattle.xslt_match.proofs.names.NamesUp.read_to.Goals as goal

pub returns-in_ok-read_above-clause-read : goal.returns-in_ok-read_above-clause-read
returns-in_ok-read_above-clause-read c =
    let T = c.args.tree.now.nodes in
    c.in_ok-read_above.ensures.read ∙ up_more T c.args.self.now.node c.args.self.now.levels c.args.levels c.args.reads.now (omega (arith, c.requires.next, c.if-self-levels.true)) c.requires.held

pub returns-in_ok-read_above-clause-named : goal.returns-in_ok-read_above-clause-named
returns-in_ok-read_above-clause-named c =
    let T = c.args.tree.now.nodes in
    let n = c.args.self.now.node in
    subst (HoldsNames T n c.args.levels)
    (sym (c.in_ok-read_above.ensures.read ∙ up_more T n c.args.self.now.levels c.args.levels c.args.reads.now (omega (arith, c.requires.next, c.if-self-levels.true)) c.requires.held))
    (up_held T n c.args.levels c.args.reads.now)

pub returns-else-self-levels-clause-read : goal.returns-else-self-levels-clause-read
returns-else-self-levels-clause-read c =
    let T = c.args.tree.now.nodes in
    let n = c.args.self.now.node in
    sym (up_covered T n c.args.levels c.args.reads.now
    (holds_fewer T n c.args.self.now.levels c.args.levels c.args.reads.now (omega (arith, c.if-self-levels.false)) c.requires.held))
