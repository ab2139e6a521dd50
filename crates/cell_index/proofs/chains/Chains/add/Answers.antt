-- The item stands at the newest link of the key, which leads to those that stood there.
use Rattle.std.proofs.Common.{refl}
use Rattle.cell_index.specs.declared.chains.Chains.{Chains}
use Rattle.cell_index.proofs.LinkLemmas.{chains_alike, item_added, keep_either}
use Rattle.cell_index.proofs.chains.Chains.add.Goals as goal

pub returns-clause-added : goal.returns-clause-added
returns-clause-added c =
    let mid : Chains = record { heads = c.reach.new.heads; links = c.args.self.now.links } in
    item_added c.put_first.result mid c.put_first.new.self c.args.key c.args.item c.in_ok-reach.ensures.there c.put_first.ensures.added

pub returns-clause-keeps : goal.returns-clause-keeps
returns-clause-keeps c =
    let mid : Chains = record { heads = c.reach.new.heads; links = c.args.self.now.links } in
    keep_either c.put_first.result c.args.self.now mid c.put_first.new.self c.args.key c.args.item c.in_ok-reach.ensures.there
    (chains_alike c.args.self.now mid c.in_ok-reach.ensures.same refl) c.put_first.ensures.added c.put_first.ensures.unchanged c.put_first.ensures.same
