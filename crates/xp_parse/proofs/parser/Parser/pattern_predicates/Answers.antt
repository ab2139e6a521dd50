use Rattle.sch_base.specs.declared.limits.TheConstants.{MAX_NESTING}
use Rattle.xp_parse.proofs.Exits.{exits}
use Rattle.xp_parse.proofs.Paths.{predicates_start, predicates_more, predicates_read}
use Rattle.xp_parse.proofs.PathSteps.{predicates_stop}
use Rattle.xp_parse.proofs.parser.Parser.pattern_predicates.Goals as goal

pub loop-self-init : goal.loop-self-init
loop-self-init c = predicates_start MAX_NESTING 0 _ _ c.new-found.ensures.items

pub returns-in_err-predicate : goal.returns-in_err-predicate
returns-in_err-predicate c =
    exits _ _ _ c.in_err-predicate.field-0.0 c.from_residual.ensures.1
    (predicates_stop _ _ _ _ _ c.loop-self.invariant c.loop-self-test.ensures c.in_err-predicate.ensures)

pub loop-self-preserved : goal.loop-self-preserved
loop-self-preserved c =
    predicates_more MAX_NESTING 0 _ _ _ _ _ _ c.loop-self.invariant c.loop-self-test.ensures c.in_ok-predicate.ensures c.in_ok-push.ensures.items

pub returns : goal.returns
returns c = predicates_read MAX_NESTING 0 _ _ _ c.loop-self.invariant c.loop-self-test.ensures
