use Rattle.std.proofs.Common.{ap, sym}
use Rattle.xp_outcome.proofs.Runs.{ran_alike}
use Rattle.xp_meaning.specs.Conversions.{sum_in}
use Rattle.xp_meaning.specs.Functions.{as_number}
use Rattle.xp_calls.proofs.caller.Caller.sum.Goals as goal

pub returns : goal.returns
returns g c =
    ran_alike (ap (λ ns. as_number (sum_in c.args.self.now.tree.now.nodes ns)) (sym c.nodes_at.ensures))
    (c.number_value.ensures _ _ _ _ _ c.sum_in.ensures)
