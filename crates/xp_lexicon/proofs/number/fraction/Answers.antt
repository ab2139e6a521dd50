use Rattle.xp_lexicon.proofs.LongNumbers.{fraction_end, no_fraction, longest_fraction}
use Rattle.xp_lexicon.proofs.number.fraction.Goals as goal

pub returns-then-rest-behind : goal.returns-then-rest-behind
returns-then-rest-behind c = no_fraction c.args.text.now c.args.behind.now c.after_run-rest.result.now c.requires c.after_run-rest.ensures c.if-rest-behind.true

pub before-requires : goal.before-requires
before-requires c = fraction_end c.args.text.now c.args.behind.now c.after_run-rest.result.now c.requires c.after_run-rest.ensures

pub returns : goal.returns
returns c = rw c.new.ensures
    (longest_fraction c.args.text.now c.args.behind.now c.before-2.result.now c.after_run-rest.result.now c.requires c.before-2.ensures
    c.after_run-rest.ensures c.if-rest-behind.false)
