-- A command against which nothing speaks finds its node, and an insert the piece of its fragment.
use Rattle.std.proofs.Common.{◌≡◌, ℕ, ◌-◌, ◌≤◌, Option, None, Some, refl, sum_by, arith}
use Rattle.doc_tree.specs.Laws.{WellFormed}
use Rattle.doc_tree.specs.limits.TheConstants.{MAX_LIVE_TEXT_BYTES}
use Rattle.doc_tree.specs.Changes.{deleted, inserted, said}
use Rattle.doc_tree.specs.Edited.{attribute_renamed, attribute_set, attribute_unset, element_renamed}
use Rattle.doc_tree.specs.Refusals.{place_refusal}
use Rattle.doc_tree.specs.Table.{Contents, Table}
use Rattle.doc_tree.specs.declared.refusal.EditRefusal.TheVariants.{NoNode}
use Rattle.doc_tree.proofs.RefusalLemmas.{or-none}
use Rattle.name_scopes.specs.Fragments.{piece_refusal, plain_text}
use Rattle.name_scopes.specs.QNames.{local_part, prefix_part}
use Rattle.name_scopes_laws.specs.Pieces.{FragmentsHavePieces}
use Rattle.edit_script.specs.declared.command.Command.{Command}
use Rattle.edit_script.specs.declared.command.Command.TheVariants.{Insert, Delete, SetText, SetAttr, UnsetAttr, Rename, RenameAttr}
use Rattle.edit_script.specs.WellFormed.{WellFormedCommand}
use Rattle.edit_commands.specs.Commands.{EditedAt, IsEdited, path_of, refusal_at, refusal_where, size_refusal, top_kind}
use Rattle.edit_commands.specs.Paths.{node_named}
use Rattle.edit_command_laws.specs.SomeEdit.{EditsMakeTrees}

module _ (pieces : FragmentsHavePieces) (tree : Contents) (formed : WellFormed tree.nodes) where
  edited-at : (command : Command) (n : ℕ) → WellFormedCommand command → refusal_at tree command n ≡ None → (U : Table) × EditedAt tree.nodes command n U
  edited-at (Insert path at events) n form free =
      let placed = or-none (place_refusal tree.nodes n at (top_kind events)) _ free in
      let fits : piece_refusal tree.nodes n events ≡ None = (or-none (piece_refusal tree.nodes n events) (size_refusal tree events) placed.1).0 in
      let little : sum_by plain_text events ≤ MAX_LIVE_TEXT_BYTES = omega (arith, form.2.short) in
      let made = pieces tree.nodes n events formed form.2.fragment form.2.names little fits in
      (inserted tree.nodes n (at - 1) made.0, record { piece = made.0; well_formed = made.1; scoped = made.2; is = refl })
  edited-at (Delete path) n form free = (deleted tree.nodes n, refl)
  edited-at (SetText path text) n form free = (said tree.nodes n text, refl)
  edited-at (SetAttr path name value) n form free = (attribute_set tree.nodes n (prefix_part name) (local_part name) value, refl)
  edited-at (UnsetAttr path name) n form free = (attribute_unset tree.nodes n (prefix_part name) (local_part name), refl)
  edited-at (Rename path name) n form free = (element_renamed tree.nodes n (prefix_part name) (local_part name), refl)
  edited-at (RenameAttr path old name) n form free = (attribute_renamed tree.nodes n (prefix_part old) (local_part old) (prefix_part name) (local_part name), refl)

  edited-where : (command : Command) (found : Option ℕ) → node_named tree.nodes (path_of command) ≡ found → WellFormedCommand command → refusal_where tree command found ≡ None →
      (U : Table) × IsEdited tree.nodes command U
  edited-where command None named form free = absurd (let clash : Some NoNode ≡ None = free in cc)
  edited-where command (Some n) named form free =
      let made = edited-at command n form free in
      (made.0, record { node = n; named = named; edited = made.1 })

pub edits-make-trees : FragmentsHavePieces → EditsMakeTrees
edits-make-trees pieces tree command formed form free = edited-where pieces tree formed command (node_named tree.nodes (path_of command)) refl form free
