use Rattle.std.proofs.Common.{◌≡◌, ◌<◌, arith, get_or, length, subst, sym}
use Rattle.std.proofs.lemmas.List.{get_or_default}
use Rattle.xslt_match.specs.Refusing.{Refuses}
use Rattle.rule_run.proofs.classes.ClassRules.refused_levels.Goals as goal

-- the number that is kept of the rule
pub returns-then-levels-lt-TRIED : goal.returns-then-levels-lt-TRIED
returns-then-levels-lt-TRIED c = λ C L rules rule n refused there is.
    let xs = c.args.self.now.levels in
    let many : c.args.r < length xs = omega arith in
    let same : get_or xs c.args.r 0 ≡ get_or xs c.args.r 255 = get_or_default xs c.args.r 0 255 many in
    subst (λ k. Refuses C.nodes L rule.context k n) (sym same) (refused.each L c.args.r n rule there (omega (arith, same)) is)
