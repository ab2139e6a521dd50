use Rattle.xp_lexicon.proofs.LongNames.{local_end, with_prefix, with_star, without_prefix}
use Rattle.xp_lexicon.proofs.name.longest_name.Goals as goal

pub before-requires : goal.before-requires
before-requires c = local_end c.args.text.now c.args.first.now c.args.rest.now c.in-Some.rest.now c.requires c.in-Some.ensures

pub returns-in-Some : goal.returns-in-Some
returns-in-Some c = rw c.new.ensures
    (with_prefix c.args.text.now c.before-in-Some.result.now c.args.first.now c.args.rest.now c.in-Some.rest.now c.before-in-Some.ensures c.requires
    c.in-Some.ensures)

pub returns-in-Some-after_star : goal.returns-in-Some-after_star
returns-in-Some-after_star c = rw c.new-in-Some-after_star.ensures
    (with_star c.args.text.now c.args.first.now c.args.rest.now c.in-Some-after_star.rest.now c.requires c.in_default.ensures
    c.in-Some-after_star.ensures)

pub returns-in-None : goal.returns-in-None
returns-in-None c = rw c.new-in-None.ensures
    (without_prefix c.args.text.now c.args.first.now c.args.rest.now c.requires c.in_default.ensures c.in-None.ensures)
