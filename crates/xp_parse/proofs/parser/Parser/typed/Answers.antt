use Rattle.std.proofs.Common.{subst, sym}
use Rattle.xp_parse.specs.inner.Parsing.{TypeRead}
use Rattle.xp_parse.proofs.Exits.{exits}
use Rattle.xp_parse.proofs.NodeTests.{typed_of, typed_by_pi, typed_unopened, typed_unclosed}
use Rattle.xp_parse.proofs.parser.Parser.typed.Goals as goal

pub returns-in_err-take : goal.returns-in_err-take
returns-in_err-take c =
    exits _ _ _ c.in_err-take.field-0.0 c.from_residual.ensures.1 (typed_unopened _ _ _ _ c.in_err-take.ensures)

pub returns-in_err-take-in_default : goal.returns-in_err-take-in_default
returns-in_err-take-in_default c =
    exits _ _ _ c.in_err-take-in_default.field-0.0 c.from_residual-in_err-take-in_default.ensures.1
    (typed_unclosed _ _ _ _ _ c.in_default.not-Pi c.in_ok-take.ensures c.in_err-take-in_default.ensures)

pub returns-in-Pi : goal.returns-in-Pi
returns-in-Pi c = typed_by_pi _ _ _ _ _ c.in-Pi.is c.in_ok-take.ensures c.target.ensures

pub returns-in_ok-take-in_default : goal.returns-in_ok-take-in_default
returns-in_ok-take-in_default c =
    subst (TypeRead _ _ _) (sym c.type_test.ensures) (typed_of c.args.node_type _ _ _ c.in_ok-take.ensures c.in_ok-take-in_default.ensures)
