use Rattle.std.proofs.Common.{Some, sym, ap, ◌∙◌}
use Rattle.xp_types.proofs.ScopeLemmas.{namespace-looked_up}
use Rattle.xp_types.proofs.env.Env.namespace.Goals as goal

pub returns-in-Some : goal.returns-in-Some
returns-in-Some c =
    ap Some c.as_str.ensures
    ∙ namespace-looked_up c.self.inside.prefixes.entries c.args.self.now c.args.prefix.now _ (ap (λ s. s.prefixes) c.self.view_is) (sym c.if-is_xml.false ∙ c.is_xml.ensures) c.in-Some.ensures.value

pub returns-in-None : goal.returns-in-None
returns-in-None c =
    namespace-looked_up c.self.inside.prefixes.entries c.args.self.now c.args.prefix.now _ (ap (λ s. s.prefixes) c.self.view_is) (sym c.if-is_xml.false ∙ c.is_xml.ensures) c.in-None.ensures.value
