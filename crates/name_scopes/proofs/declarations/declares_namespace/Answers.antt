-- Nothing follows `xmlns`, or a colon does.
use Rattle.std.proofs.Common.{lit<, sym, ◌∙◌}
use Rattle.std.proofs.lemmas.Str.Pattern.{starts_char}
use Rattle.name_scopes.proofs.DeclaringNames.{empty, names-by, names-default, names-none}
use Rattle.name_scopes.proofs.declarations.declares_namespace.Goals as goal

pub returns-then-is_empty : goal.returns-then-is_empty
returns-then-is_empty c =
    c.if-is_empty.true ∙ sym (names-default c.args.name.now (c.in-Some.rest.now) c.in-Some.ensures (empty c.in-Some.rest.now (sym c.is_empty.ensures ∙ c.if-is_empty.true)))

pub returns-else-is_empty : goal.returns-else-is_empty
returns-else-is_empty c =
    names-by c.args.name.now c.in-Some.rest.now c.starts_with.result c.in-Some.ensures (sym c.is_empty.ensures ∙ c.if-is_empty.false)
    (starts_char 58 c.in-Some.rest.now c.starts_with.result c.starts_with.ensures.cases (lit< tt) (lit< tt))

pub returns-in-None : goal.returns-in-None
returns-in-None c = sym (names-none c.args.name.now c.in-None.ensures)
