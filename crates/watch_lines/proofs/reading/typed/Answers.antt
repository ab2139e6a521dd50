-- Where no variable is in scope none is named.
use Rattle.xp_tree.specs.View.{tree_of}
use Rattle.xp_typed_tree.specs.Slots.{slots_in}
use Rattle.watch_lines.proofs.LineLemmas.{no_slots}
use Rattle.watch_lines.proofs.reading.typed.Goals as goal

pub returns-in-Ok-clause-named : goal.returns-in-Ok-clause-named
returns-in-Ok-clause-named c =
    no_slots c.args.env.now c.requires.none (slots_in c.in-Ok.typed)
    (c.slots_are_in_scope.ensures.expressions c.args.env.now (tree_of c.args.expr) c.in-Ok.typed c.in-Ok.ensures.typed)
