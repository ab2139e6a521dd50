-- A command names one node, and what it makes of a table there is one table.
use Rattle.std.proofs.Common.{◌≡◌, ℕ, ◌-◌, List, Option, sym, ap, ◌∙◌, subst}
use Rattle.std.specs.Prelude.{unwrap_or}
use Rattle.pyx_core.specs.declared.event.Event.{Event}
use Rattle.doc_tree.specs.Changes.{inserted}
use Rattle.doc_tree.specs.InOrder.{OneTable}
use Rattle.doc_tree.specs.Laws.{WellFormedIsEnough}
use Rattle.doc_tree.specs.Scope.{scope_at}
use Rattle.doc_tree.specs.Table.{Table}
use Rattle.edit_script.specs.declared.command.Command.{Command}
use Rattle.edit_script.specs.declared.command.Command.TheVariants.{Insert, Delete, SetText, SetAttr, UnsetAttr, Rename, RenameAttr}
use Rattle.edit_commands.specs.Commands.{EditedAt, InsertedAt, IsEdited}
use Rattle.edit_command_laws.specs.OneEdit.{OneEdit}
use Rattle.edit_command_laws.proofs.OnePiece.{one-piece}

module _ (laws : WellFormedIsEnough) (one : OneTable) (T U V : Table) where
  inserted-once : (p at : ℕ) (events : List Event) → InsertedAt T p at events U → InsertedAt T p at events V → U ≡ V
  inserted-once p at events this other =
      this.is
      ∙ (ap (inserted T p (at - 1)) (one-piece laws one (scope_at T p) events this.piece other.piece this.well_formed other.well_formed this.scoped other.scoped)
      ∙ sym other.is)

  edited-once : (command : Command) (n : ℕ) → EditedAt T command n U → EditedAt T command n V → U ≡ V
  edited-once (Insert path at piece) n this other = inserted-once n at piece this other
  edited-once (Delete path) n this other = this ∙ sym other
  edited-once (SetText path text) n this other = this ∙ sym other
  edited-once (SetAttr path name value) n this other = this ∙ sym other
  edited-once (UnsetAttr path name) n this other = this ∙ sym other
  edited-once (Rename path name) n this other = this ∙ sym other
  edited-once (RenameAttr path old name) n this other = this ∙ sym other

  command-once : (command : Command) → IsEdited T command U → IsEdited T command V → U ≡ V
  command-once command this other =
      let same : other.node ≡ this.node = ap (λ (o : Option ℕ). unwrap_or o 0) (sym other.named ∙ this.named) in
      edited-once command this.node this.edited (subst (λ n. EditedAt T command n V) same other.edited)

pub one-edit : WellFormedIsEnough → OneTable → OneEdit
one-edit laws one T U V command this other = command-once laws one T U V command this other
