-- Nodes beside a text.
use Rattle.std.proofs.Common.{Ok, refl, sym, ap, ◌∙◌}
use Rattle.xp_values.specs.declared.values.Value.TheVariants.{NodeSet}
use Rattle.xp_values.proofs.TextCompareLemmas.{set_with_text}
use Rattle.xp_values.proofs.comparisons.compare_nodes.Goals as goal

pub returns : goal.returns
returns c =
    set_with_text c.args.tree.now.nodes c.args.op (NodeSet c.args.nodes.now) c.args.nodes.now c.args.text.now (cc) refl ∙ ap Ok (sym c.in_ok-holds.ensures)
