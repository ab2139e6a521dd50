use Rattle.xp_lexicon.proofs.LongNames.{qname_end, longest_variable, no_variables}
use Rattle.xp_lexicon.proofs.name.variable.Goals as goal

pub before-requires : goal.before-requires
before-requires c = qname_end c.args.text.now c.in-Some.rest.now c.in-Some.ensures

pub returns-in-Some : goal.returns-in-Some
returns-in-Some c = rw c.new.ensures
    (longest_variable c.args.text.now c.before-in-Some.result.now c.in-Some.rest.now c.before-in-Some.ensures c.in-Some.ensures)

pub returns-in-None : goal.returns-in-None
returns-in-None c = no_variables c.args.text.now c.in-None.ensures
