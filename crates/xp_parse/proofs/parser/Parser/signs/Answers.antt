use Rattle.std.proofs.Common.{arith}
use Rattle.sch_base.specs.declared.limits.TheConstants.{MAX_NESTING}
use Rattle.xp_grammar.specs.Grammar.{no_sign}
use Rattle.xp_parse.proofs.Failing.{signs_on, signs_fail}
use Rattle.xp_parse.proofs.parser.Parser.signs.Goals as goal

pub loop-depth-init : goal.loop-depth-init
loop-depth-init c = (no_sign _, omega (arith, c.requires))

pub returns-then-depth-count-ge-MAX_NESTING : goal.returns-then-depth-count-ge-MAX_NESTING
returns-then-depth-count-ge-MAX_NESTING c =
    signs_fail MAX_NESTING c.args.depth c.loop-depth.count _ _ c.loop-depth.invariant.0 c.loop-depth-test.ensures
    c.loop-depth.invariant.1 c.if-depth-count-ge-MAX_NESTING.true

pub loop-depth-preserved : goal.loop-depth-preserved
loop-depth-preserved c =
    let f = c.loop-depth-test.ensures in (
      signs_on c.loop-depth.count _ _ _ c.loop-depth.invariant.0 f (c.advance.ensures f.placed f.rest f.is),
      omega (arith, c.if-depth-count-ge-MAX_NESTING.false),
    )
