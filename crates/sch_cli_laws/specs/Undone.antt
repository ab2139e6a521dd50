-- What is shown behind an undo, and of a document that was saved.
use Rattle.std.specs.Prelude.{◌≡◌, ◌⊎◌, ℕ, suc, ◌+◌, ◌≤◌, true, false, List, ◌++◌, length, None, Some}
use Rattle.std.specs.FinMap.{get}
use Rattle.sch_io.specs.Files.{Files}
use Rattle.sch_io.specs.declared.reading.TheConstants.{MAX_FILE_BYTES}
use Rattle.doc_tree.specs.Kinds.{is_document}
use Rattle.doc_tree.specs.Laws.{WellFormed}
use Rattle.doc_tree.specs.Table.{Table}
use Rattle.doc_tree.specs.declared.refusal.EditRefusal.{EditRefusal}
use Rattle.doc_tree.specs.declared.refusal.EditRefusal.TheVariants.{IdsSpent}
use Rattle.doc_tree.specs.limits.TheConstants.{MAX_NODE_NUMBERS}
use Rattle.doc_write.specs.TreeText.{tree_text}
use Rattle.name_scopes.specs.Scoping.{InScope}
use Rattle.edit_script.specs.Undos.{Items, edits, undoes}
use Rattle.edit_script.specs.declared.command.Command.{Command}
use Rattle.edit_commands.specs.Commands.{IsEdited, command_refusal}
use Rattle.edit_paths.specs.Entries.{undoing_numbers}
use Rattle.sch_cli.specs.Pairs.{has_too_many_pairs}
use Rattle.sch_cli.specs.State.{state_text}
use Rattle.sch_cli.specs.shown.Shown.{Shown}
use Rattle.sch_compiled.specs.declared.plan.Plan.{Plan}
use Rattle.state_iso_laws.specs.States.{ShowTheSame}
use Rattle.sch_words.specs.Commands.{follow, validate}
use Rattle.sch_stops.specs.EditLines.{edit_line, refused_line, undo_line}
use Rattle.sch_stops.specs.Output.{Output}
use Rattle.sch_loading.specs.Loading.{Planning}
use Rattle.sch_loading.specs.Stages.{goes}
use Rattle.sch_cli.specs.Behaviours.{IsWhole}
use Rattle.sch_cli.specs.Following.{Earlier, Follows, IsTakenBack, items_of}
use Rattle.sch_cli.specs.Output.{state}
use Rattle.sch_cli.specs.Telling.{by_plan, under}

-- the document behind an undo has the state of that from before the edit: the same text, which shows the same
abbrev pub UndosShowTheSame : Type 0
UndosShowTheSame = (plan : Plan) (T U : Table) (back : Earlier) → WellFormed T → is_document T ≡ true → WellFormed back.tree →
    IsTakenBack (by_plan plan) T back U → ShowTheSame plan back.tree U

-- where an edit is done and undone at once, and enough numbers are left for the undo, what is written begins with the line of the edit
-- and the state behind it, the line of the undo, and the state from before the edit, byte for byte
abbrev pub UndoneAtOnce : Type 0
UndoneAtOnce = (plan : Plan) (undos : ℕ) (T U : Table) (backs : List Earlier) (number : ℕ) (seen : Shown) (command : Command) (rest : Items) (output : Output) →
    WellFormed T → is_document T ≡ true → command_refusal (under (by_plan plan) T) command ≡ None → IsEdited T command U →
    length U + undoing_numbers T command ≤ MAX_NODE_NUMBERS →
    Follows (by_plan plan) (suc undos) T backs number seen (edits command (undoes rest)) output →
    (more : List ℕ) × (output.out ≡ (edit_line number ++ state_text plan U) ++ ((undo_line (number + 1) ++ state_text plan T) ++ more))

-- what a run writes behind the first state, where its script begins with a command and an undo: the first state's bytes come again behind
-- the undo, unless the command is refused, or too few numbers are left for the undo
abbrev pub WritesUndone : List ℕ → List ℕ → Type 0
WritesUndone first behind =
    ((edited more : List ℕ) × (behind ≡ (edit_line 1 ++ edited) ++ ((undo_line 2 ++ first) ++ more)))
    ⊎ ((edited more : List ℕ) × (behind ≡ (edit_line 1 ++ edited) ++ (refused_line 2 IdsSpent ++ more)))
    ⊎ ((reason : EditRefusal) × (more : List ℕ) × (behind ≡ refused_line 1 reason ++ more))

-- the first state is what a validation of the document writes
abbrev pub RunsUndone : Type 0
RunsUndone = (files : Files) (undos : ℕ) (phase schema document script bytes : List ℕ) (command : Command) (rest : Items) (validated followed : Output) →
    get files script ≡ Some bytes → items_of (suc undos) bytes ≡ edits command (undoes rest) →
    IsWhole (validate phase schema document) files validated → IsWhole (follow (suc undos) phase schema document script) files followed →
    (behind : List ℕ) × WritesUndone validated.out behind × (followed.out ≡ validated.out ++ behind)

-- a document that was written, and is validated under its name, has the state that it had, where its text is no larger than a file may be,
-- and its nodes make no more pairs than may be
abbrev pub SavedDocumentsValidateAlike : Type 0
SavedDocumentsValidateAlike = (files : Files) (phase schema name : List ℕ) (opened : List (List ℕ)) (plan : Plan) (T : Table) →
    WellFormed T → InScope T → is_document T ≡ true → Planning files phase schema opened (goes plan) → get files name ≡ Some (tree_text T) →
    length (tree_text T) ≤ MAX_FILE_BYTES → has_too_many_pairs plan T ≡ false → IsWhole (validate phase schema name) files (state plan T)

-- all of them
pub record UndoneEditsShowTheSame : Type 0 where
  pub undo : UndosShowTheSame
  pub at_once : UndoneAtOnce
  pub run : RunsUndone
  pub saved : SavedDocumentsValidateAlike
