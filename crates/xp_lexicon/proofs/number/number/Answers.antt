use Rattle.xp_lexicon.proofs.LongNumbers.{number_end, longest_number}
use Rattle.xp_lexicon.proofs.number.number.Goals as goal

pub before-requires : goal.before-requires
before-requires c = number_end c.args.text.now c.after_digits-rest.result.now c.after_digits-rest.ensures

pub returns : goal.returns
returns c = rw c.new.ensures
    (longest_number c.args.text.now c.before-2.result.now c.after_digits-rest.result.now c.before-2.ensures c.requires c.after_digits-rest.ensures)
