-- Each command by its own law.
use Rattle.std.proofs.Common.{◌≡◌, ℕ, ◌+◌, ◌≤◌, true, List, length, Option, None, Some, refl}
use Rattle.doc_tree.specs.Changes.{Meeting, meeting}
use Rattle.doc_tree.specs.Kinds.{is_document}
use Rattle.doc_tree.specs.Laws.{WellFormed}
use Rattle.doc_tree.specs.Table.{Contents, kids_above, parent_of}
use Rattle.doc_tree.specs.Walks.{order}
use Rattle.doc_tree.specs.limits.TheConstants.{MAX_NODE_NUMBERS}
use Rattle.name_scopes.specs.Scoping.{InScope}
use Rattle.edit_script.specs.WellFormed.{WellFormedCommand}
use Rattle.edit_script.specs.declared.command.Command.TheVariants.{Insert, Delete, SetText, SetAttr, UnsetAttr, Rename, RenameAttr}
use Rattle.edit_script.specs.declared.command.PathStep.{PathStep}
use Rattle.edit_commands.specs.Commands.{IsEdited, command_refusal}
use Rattle.edit_paths.specs.Entries.{undoing_numbers}
use Rattle.edit_undo_laws.specs.Undoing.{AttributeRenamesAreUndone, CommandsAreUndone, InsertsAreUndone, IsUndone, LoneDeletionsAreUndone, MergingDeletionsAreUndone, RenamesAreUndone, SettingsAreUndone, TextsAreUndone, UnsettingsAreUndone}

-- whether texts met or not
pub deletion-undone : LoneDeletionsAreUndone → MergingDeletionsAreUndone → (before after : Contents) (path : List PathStep) → WellFormed before.nodes → InScope before.nodes →
    is_document before.nodes ≡ true → length (order before.nodes) ≤ before.pair_cap → WellFormedCommand (Delete path) → command_refusal before (Delete path) ≡ None →
    IsEdited before.nodes (Delete path) after.nodes → after.pair_cap ≡ before.pair_cap → length after.nodes + undoing_numbers before.nodes (Delete path) ≤ MAX_NODE_NUMBERS →
    IsUndone before after (Delete path)
deletion-undone lone merging before after path form scoped document bound well free edited cap few =
    by (meeting before.nodes n (kids_above before.nodes (parent_of before.nodes n))) refl
  where
    n : ℕ
    n = edited.node

    by : (o : Option Meeting) → meeting before.nodes n (kids_above before.nodes (parent_of before.nodes n)) ≡ o → IsUndone before after (Delete path)
    by None e = lone before after path n form scoped document bound edited.named e free edited cap few
    by (Some texts) e = merging before after path n texts form scoped document bound well edited.named e free edited cap few

pub commands-are-undone : InsertsAreUndone → TextsAreUndone → SettingsAreUndone → UnsettingsAreUndone → RenamesAreUndone → AttributeRenamesAreUndone →
    LoneDeletionsAreUndone → MergingDeletionsAreUndone → CommandsAreUndone
commands-are-undone inserts texts settings unsettings renames attributes lone merging before after (Insert path at events) form scoped document bound well free edited cap few =
    inserts before after path at events form document free edited
commands-are-undone inserts texts settings unsettings renames attributes lone merging before after (Delete path) form scoped document bound well free edited cap few =
    deletion-undone lone merging before after path form scoped document bound well free edited cap few
commands-are-undone inserts texts settings unsettings renames attributes lone merging before after (SetText path new) form scoped document bound well free edited cap few =
    texts before after path new edited.node form edited.named free edited
commands-are-undone inserts texts settings unsettings renames attributes lone merging before after (SetAttr path name value) form scoped document bound well free edited cap few =
    settings before after path name value edited.node form edited.named free edited
commands-are-undone inserts texts settings unsettings renames attributes lone merging before after (UnsetAttr path name) form scoped document bound well free edited cap few =
    unsettings before after path name edited.node form scoped bound edited.named free edited cap few
commands-are-undone inserts texts settings unsettings renames attributes lone merging before after (Rename path name) form scoped document bound well free edited cap few =
    renames before after path name edited.node form scoped edited.named free edited
commands-are-undone inserts texts settings unsettings renames attributes lone merging before after (RenameAttr path old name) form scoped document bound well free edited cap few =
    attributes before after path old name edited.node form scoped edited.named free edited
