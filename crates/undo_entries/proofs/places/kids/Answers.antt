-- There are no more than numbers.
use Rattle.std.proofs.Common.{length, ap, arith}
use Rattle.edit_paths.proofs.LeadingLemmas.{few-listed}
use Rattle.undo_entries.proofs.places.kids.Goals as goal

pub returns-clause-few : goal.returns-clause-few
returns-clause-few c =
    omega (arith, ap length c.kids.ensures, few-listed c.args.tree.now.nodes c.laws.ensures.well_formed c.args.n)
