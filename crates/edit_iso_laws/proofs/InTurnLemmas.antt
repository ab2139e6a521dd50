-- Commands that are done in turn.
use Rattle.std.proofs.Common.{◌≡◌, true, List, ◌++◌, refl, ◌∙◌}
use Rattle.doc_tree.specs.Kinds.{is_document}
use Rattle.doc_tree.specs.Laws.{WellFormed}
use Rattle.doc_tree.specs.Table.{Contents}
use Rattle.edit_script.specs.declared.command.Command.{Command}
use Rattle.edit_command_laws.specs.TreesKept.{EditsKeepTrees}
use Rattle.edit_iso_laws.specs.CommandsMove.{DoneInTurn, none, then}

-- a document stays one
pub kept-in-turn : EditsKeepTrees → (before after : Contents) (commands : List Command) → WellFormed before.nodes → is_document before.nodes ≡ true → DoneInTurn before commands after →
    WellFormed after.nodes × (is_document after.nodes ≡ true)
kept-in-turn keeps _ _ _ form document (none before) = (form, document)
kept-in-turn keeps _ _ _ form document (then before next after command commands free edited kept rest) =
    let here = keeps before command next.nodes form document free edited in kept-in-turn keeps next after commands here.0 here.1 rest

-- so does the pair cap
pub cap-in-turn : (before after : Contents) (commands : List Command) → DoneInTurn before commands after → after.pair_cap ≡ before.pair_cap
cap-in-turn _ _ _ (none before) = refl
cap-in-turn _ _ _ (then before next after command commands free edited kept rest) = cap-in-turn next after commands rest ∙ kept

-- some, and others after them
pub done-on : (before middle after : Contents) (commands more : List Command) → DoneInTurn before commands middle → DoneInTurn middle more after → DoneInTurn before (commands ++ more) after
done-on _ _ after _ more (none before) rest = rest
done-on _ _ after _ more (then before next middle command commands free edited kept done) rest =
    then before next after command (commands ++ more) free edited kept (done-on next middle after commands more done rest)
