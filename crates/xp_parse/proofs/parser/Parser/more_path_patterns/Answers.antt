use Rattle.std.proofs.Common.{arith}
use Rattle.xp_parse.proofs.Exits.{exits}
use Rattle.xp_parse.proofs.Failing.{took_of, took_shorter}
use Rattle.xp_parse.proofs.PathPatterns.{union_first, paths_start, paths_fail, paths_more, paths_found}
use Rattle.xp_parse.proofs.parser.Parser.more_path_patterns.Goals as goal

pub loop-self-init : goal.loop-self-init
loop-self-init c = (omega arith, λ a ended. paths_start a _ _ ended)

pub returns-in_err-path : goal.returns-in_err-path
returns-in_err-path c =
    let f = union_first _ _ c.in-Some.ensures in
    λ a ended. exits _ _ _ c.in_err-path.field-0.0 c.from_residual.ensures.1
    (paths_fail a _ _ _ _ _ _ _ (c.loop-self.invariant.1 a ended) (took_of _ _ _ f (c.advance.ensures f.placed f.rest f.is)) c.in_err-path.ensures)

pub loop-self-preserved : goal.loop-self-preserved
loop-self-preserved c =
    let f = union_first _ _ c.in-Some.ensures in
    let t = took_of _ _ _ f (c.advance.ensures f.placed f.rest f.is) in let shorter = took_shorter _ _ _ t in (
      omega (arith, c.loop-self.invariant.0, shorter, c.in_ok-path.ensures.shorter),
      λ a ended. paths_more a _ _ _ _ _ _ _ _ (c.loop-self.invariant.1 a ended) t c.in_ok-path.ensures c.in_ok-push.ensures.items,
    )

pub returns : goal.returns
returns c = λ a ended. paths_found a _ _ _ _ (c.loop-self.invariant.1 a ended) c.in_default.ensures
