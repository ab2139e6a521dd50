-- A unit is made of expressions, of matching and of names; lets in force are moved one after another.
use Rattle.sch_iso_laws.specs.Moves.{GivenLetsMove}
use Rattle.sch_iso_laws.proofs.UnitLemmas.{given-move, own-move}
use Rattle.sch_iso_laws.proofs.units_move.Goals as goal

pub returns : goal.returns
returns c =
    let given : GivenLetsMove = given-move c.renumbered_trees_hang.ensures c.expressions_move.ensures.expressions c.patterns_move.ensures in
    record { given = given; own = own-move given }
