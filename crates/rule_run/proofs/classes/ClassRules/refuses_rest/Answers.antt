use Rattle.std.proofs.Common.{◌≤◌, arith, get_or, leb-true}
use Rattle.std.proofs.lemmas.Option.{slice_get_within}
use Rattle.xslt_match.proofs.Classes.{refuses_held}
use Rattle.rule_run.proofs.classes.ClassRules.refuses_rest.Goals as goal

-- each reads the names of as many nodes as are needed, or of fewer
pub returns-then-self-r : goal.returns-then-self-r
returns-then-self-r c = λ enough C L rules q rule n refused past there is held count names.
    let known = c.args.self.now in
    let most : known.rest.needed ≤ c.args.levels = omega (arith, leb-true _ _ enough) in
    let here = refused.rest q (omega (arith, past, c.if-self-r.true)) (slice_get_within rules q rule there) in
    let less : get_or known.levels q 255 ≤ c.args.levels = omega (arith, here.1, most) in
    refuses_held C.nodes L rule.context (get_or known.levels q 255) c.args.levels n held count less names (refused.each L q n rule there here.0 is)
