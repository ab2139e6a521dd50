use Rattle.std.proofs.Common.{inr, ap, ◌∙◌}
use Rattle.xp_grammar.specs.Parts.{everywhere}
use Rattle.xp_parse.proofs.Failing.{first_same, took_of}
use Rattle.xp_parse.proofs.parser.Parser.lead.Goals as goal

pub returns-in_ok-push-in-DoubleSlash : goal.returns-in_ok-push-in-DoubleSlash
returns-in_ok-push-in-DoubleSlash c =
    let f = first_same _ _ _ c.in-DoubleSlash.is c.in-Some.ensures in
    inr (record {
      took = took_of _ _ _ f (c.advance-in-DoubleSlash.ensures f.placed f.rest f.is);
      it = c.everywhere.result;
      is = λ rest. c.everywhere.ensures rest ∙ ap (λ o. everywhere o rest) c.offset-offset.ensures;
      found = c.in_ok-push-in-DoubleSlash.ensures.items;
    })
