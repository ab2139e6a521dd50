-- Each stage of a run goes on, or halts it.
use Rattle.sch_cli.proofs.WayLemmas.{WayLaws}
use Rattle.sch_cli_laws.proofs.SomeOutput.{some-output}
use Rattle.sch_cli_laws.proofs.laws.some_output.Goals as goal

pub returns : goal.returns
returns c =
    let ways : WayLaws = record {
      makes = c.edits_make_trees.ensures;
      keeps = c.edits_keep_trees.ensures;
      fit = c.edits_stay_within.ensures;
      stay = c.edits_stay_in_scope.ensures;
      grow = c.numbers_grow.ensures;
      undone = c.commands_are_undone.ensures;
      formed = c.undoings_are_formed.ensures;
      stand = c.histories_stand.ensures;
    } in
    some-output c.documents_have_trees.ensures c.each_inclusion_ends.ensures c.each_phase_is_compiled.ensures c.pair_cap_is_for_pairs.ensures ways
    c.scripts_are_well_formed.ensures c.items_are_well_formed.ensures c.each_file_is_read.ensures
