-- A node that was made has a place.
use Rattle.std.proofs.Common.{length, arith}
use Rattle.kept_units.proofs.SeenLemmas.{place_within}
use Rattle.kept_units.proofs.kept_units.KeptUnits.place.Goals as goal

pub returns-clause-within : goal.returns-clause-within
returns-clause-within c =
    omega (
      arith,
      c.place_of.ensures,
      place_within c.args.at.now.run.plan.now c.args.at.now.pattern c.args.n (length c.args.at.now.run.caller.tree.now.nodes)
          (length c.args.self.now.reads.entries)
          c.requires.ready.active c.requires.made c.requires.ready.places,
    )
