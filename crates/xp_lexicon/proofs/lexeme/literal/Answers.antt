use Rattle.std.proofs.Common.{Some, None}
use Rattle.std.proofs.lemmas.Str.Pattern.{split_parts}
use Rattle.xp_lexicon.proofs.Literals.{quote_is_low, none_inside, longest_literal, no_literals}
use Rattle.xp_lexicon.proofs.lexeme.literal.Goals as goal

pub returns-in-Some : goal.returns-in-Some
returns-in-Some c =
    let parts = split_parts c.args.quote c.args.text.now (Some (c.in-Some.value, c.in-Some.rest)) c.in-Some.ensures.cases
    (quote_is_low c.args.quote c.requires) in
    rw c.new.ensures
    (longest_literal c.args.quote c.args.text.now c.in-Some.value.now c.in-Some.rest.now c.requires
    (none_inside c.args.quote c.in-Some.value.now parts.1) parts.0)

pub returns-in-None : goal.returns-in-None
returns-in-None c =
    no_literals c.args.quote c.args.text.now
    (none_inside c.args.quote c.args.text.now
    (split_parts c.args.quote c.args.text.now None c.in-None.ensures.cases (quote_is_low c.args.quote c.requires)))
