use Rattle.std.proofs.Common.{nat_eq, sym, ◌∙◌}
use Rattle.std.specs.HashMap.{get}
use Rattle.xp_values.proofs.ReplaceLemmas.{kept_already, kept_anew}
use Rattle.xp_values.proofs.replacing.put_first.Goals as goal

pub returns-else-not-contains_key : goal.returns-else-not-contains_key
returns-else-not-contains_key c = λ q. kept_already (get nat_eq c.args.counterparts.now) c.args.c c.args.other (sym c.contains_key.ensures ∙ c.if-not-contains_key.false) q

pub returns-in_ok-insert : goal.returns-in_ok-insert
returns-in_ok-insert c = λ q.
    c.in_ok-insert.ensures.updates.0 q
    ∙ kept_anew (get nat_eq c.args.counterparts.now) c.args.c c.args.other (sym c.contains_key.ensures ∙ c.if-not-contains_key.true) q
