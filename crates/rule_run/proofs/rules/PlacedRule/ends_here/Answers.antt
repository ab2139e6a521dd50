use Rattle.std.proofs.Common.{subst}
use Rattle.std.specs.Prelude.{IfSome}
use Rattle.xslt_match.specs.Refusing.{IsOfClass}
use Rattle.rule_run.specs.Classes.{AreRefused}
use Rattle.rule_run.proofs.rules.PlacedRule.ends_here.Goals as goal

pub returns-in-Some : goal.returns-in-Some
returns-in-Some c = λ is C L q rule n known past there.
    let rules = c.args.self.now.rules.now in
    let here : IsOfClass C c.in-Some.known.class n × AreRefused C rules c.in-Some.known =
    subst (λ o. IfSome o (λ one. IsOfClass C one.class n × AreRefused C rules one)) c.in-Some.is known in
    c.refuses_rest.ensures is C L rules q rule n here.1 past there here.0
