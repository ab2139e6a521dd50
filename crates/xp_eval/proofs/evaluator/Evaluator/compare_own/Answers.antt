use Rattle.std.proofs.Common.{refl, sym, ap}
use Rattle.xp_outcome.proofs.Runs.{ran_alike, ran_visits, ran_moved}
use Rattle.xp_values.specs.declared.values.Value.TheVariants.{NodeSet, Truth, Chars}
use Rattle.xp_meaning.specs.Conversions.{compare_in}
use Rattle.xp_eval.proofs.Handing.{ran_as}
use Rattle.xp_eval.proofs.evaluator.Evaluator.compare_own.Goals as goal

pub returns : goal.returns
returns g c =
    let own = ap (λ ns. compare_in c.args.self.now.caller.tree.now.nodes c.args.operator (NodeSet ns) (Chars c.args.literal.now)) (sym c.from_ref-own.ensures.value) in
    ran_visits 4 (ran_moved refl refl (sym c.tick_times.ensures) refl (ran_as Truth c.compare_nodes_in.result c.truth_value.ensures (ran_alike own c.compare_nodes_in.ensures)))
