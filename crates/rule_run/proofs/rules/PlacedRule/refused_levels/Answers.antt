use Rattle.std.proofs.Common.{subst}
use Rattle.std.proofs.lemmas.Option.{IfSome_then}
use Rattle.std.specs.Prelude.{IfSome, slice_get}
use Rattle.xslt_match.specs.Refusing.{IsOfClass, Refuses}
use Rattle.rule_run.specs.Classes.{AreRefused}
use Rattle.rule_run.proofs.MatchesKept.{each_if}
use Rattle.rule_run.proofs.rules.PlacedRule.refused_levels.Goals as goal

pub returns-in-Some : goal.returns-in-Some
returns-in-Some c = IfSome_then c.refused_levels.result c.refused_levels.ensures (λ levels refuses C L n known.
    let rules = c.args.self.now.rules.now in
    let here : IsOfClass C c.in-Some.known.class n × AreRefused C rules c.in-Some.known =
    subst (λ o. IfSome o (λ one. IsOfClass C one.class n × AreRefused C rules one)) c.in-Some.is known in
    each_if (λ rule. Refuses C.nodes L rule.context levels n) (slice_get rules c.args.self.now.number)
    (λ rule there. refuses C L rules rule n here.1 there here.0))
