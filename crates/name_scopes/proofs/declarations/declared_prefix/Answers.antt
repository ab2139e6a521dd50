-- What follows `xmlns` in the name is nothing, or a colon and the prefix.
use Rattle.std.proofs.Common.{lit<, sym, ◌∙◌}
use Rattle.std.proofs.lemmas.Str.Pattern.{strip_prefix_char}
use Rattle.name_scopes.proofs.DeclaringNames.{declares-by, declares-default, declares-none, empty}
use Rattle.name_scopes.proofs.declarations.declared_prefix.Goals as goal

pub returns-then-is_empty : goal.returns-then-is_empty
returns-then-is_empty c =
    declares-default c.args.attr.now c.in-Some.rest.now (sym c.as_str.ensures ∙ c.in-Some.ensures) (empty c.in-Some.rest.now (sym c.is_empty.ensures ∙ c.if-is_empty.true))

pub returns-else-is_empty : goal.returns-else-is_empty
returns-else-is_empty c =
    declares-by c.args.attr.now c.in-Some.rest.now c.strip_prefix.result (sym c.as_str.ensures ∙ c.in-Some.ensures) (sym c.is_empty.ensures ∙ c.if-is_empty.false)
    (strip_prefix_char 58 c.in-Some.rest.now c.strip_prefix.result c.strip_prefix.ensures.cases (lit< tt))

pub returns-in-None : goal.returns-in-None
returns-in-None c = declares-none c.args.attr.now (λ rest is. c.in-None.ensures rest (c.as_str.ensures ∙ is))
