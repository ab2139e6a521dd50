-- The counterparts that are kept are those that are meant.
use Rattle.std.proofs.Common.{◌≡◌, chars, nat_eq}
use Rattle.std.specs.HashMap.{get}
use Rattle.xp_values.specs.Texts.{counterpart}
use Rattle.xp_values.proofs.replacing.translate.Goals as goal

pub returns : goal.returns
returns c =
    let same : get nat_eq c.in_ok-counterparts.counterparts ≡ counterpart (chars c.args.from.now) (chars c.args.to.now) = λ i q. c.in_ok-counterparts.ensures q i in
    rw same at c.all_replaced.ensures
