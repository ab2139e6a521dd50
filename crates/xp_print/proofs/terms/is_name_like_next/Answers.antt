use Rattle.std.proofs.Common.{◌∙◌}
use Rattle.xp_print.proofs.Printing.{next-named}
use Rattle.xp_print.proofs.terms.is_name_like_next.Goals as goal

pub returns-in-Some : goal.returns-in-Some
returns-in-Some c =
    c.is_name_like.ensures ∙ next-named c.args.rest.now c.args.at c.in-Some.operand.now c.args.behind c.in-Some.ensures.lookup.3.0 c.in-Some.ensures.lookup.1
