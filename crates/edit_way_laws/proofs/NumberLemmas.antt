-- How many numbers there are after an edit.
use Rattle.std.proofs.Common.{◌≡◌, ℕ, ◌-◌, ◌≤◌, List, [], ◌∷◌, ◌++◌, length, Option, None, Some, sym, ap, ◌∙◌, arith, length-append}
use Rattle.doc_table.proofs.Appending.{holder-live}
use Rattle.doc_edits.specs.Changes.{Meeting, changed_at, deleted, deleted_by, meeting, removed, with_attribute}
use Rattle.doc_edits.specs.Fitting.{MayTake}
use Rattle.doc_edits.proofs.InsertionLemmas.{length-inserted}
use Rattle.doc_edits.proofs.TableLemmas.{changed-length}
use Rattle.doc_tree.specs.Edited.{attribute_name_at, element_name_at, with_other_name, with_value, without_attribute}
use Rattle.doc_tree.specs.Laws.{WellFormed}
use Rattle.doc_tree.specs.NameTests.{attribute_meant}
use Rattle.doc_tree.specs.Table.{Contents, Facts, Name, Table, attribute, kids_above, parent_of, value_of}
use Rattle.name_scopes.specs.QNames.{local_part, prefix_part}
use Rattle.edit_script.specs.declared.command.Command.{Command}
use Rattle.edit_script.specs.declared.command.Command.TheVariants.{Insert, Delete, SetText, SetAttr, UnsetAttr, Rename, RenameAttr}
use Rattle.edit_commands.specs.Commands.{EditedAt, refusal_at, refusal_where}
use Rattle.edit_iso_laws.proofs.CommandLemmas.{piece-may}
use Rattle.edit_iso_laws.proofs.GoingOnLemmas.{removed-length, renamed-length, said-length}
use Rattle.edit_way_laws.specs.Staying.{NumbersGrow}

deleted-numbers : (T : Table) (n : ℕ) → length T ≤ length (deleted T n)
deleted-numbers T n = by (meeting T n (kids_above T (parent_of T n)))
  where
    by : (o : Option Meeting) → length T ≤ length (deleted_by T n o)
    by None = omega (arith, removed-length T n)
    by (Some texts) =
        omega (
          arith,
          said-length (removed (removed T texts.right) n) texts.left (value_of T texts.left ++ value_of T texts.right),
          removed-length (removed T texts.right) n,
          removed-length T texts.right,
        )

set-numbers : (T : Table) (n : ℕ) (name : Name) (value : List ℕ) (o : Option ℕ) → length T ≤ length (with_value T n name o value)
set-numbers T n name value None =
    let one : Option Facts = Some (record { parent = Some n; kids = []; attributes = []; content = attribute name value }) in
    omega (arith, changed-length T n (with_attribute (length T)), length-append (changed_at n (with_attribute (length T)) T) (one ∷ []))
set-numbers T n name value (Some a) = omega (arith, said-length T a value)

unset-numbers : (T : Table) (o : Option ℕ) → length T ≤ length (without_attribute T o)
unset-numbers T None = omega arith
unset-numbers T (Some a) = omega (arith, removed-length T a)

other-name-numbers : (T : Table) (o : Option ℕ) (name : Name) → length T ≤ length (with_other_name T o name)
other-name-numbers T None name = omega arith
other-name-numbers T (Some a) name = omega (arith, renamed-length T a name)

module _ (before : Contents) (form : WellFormed before.nodes) where
  abbrev T : Table
  T = before.nodes

  at-grow : (command : Command) (n : ℕ) (U : Table) → refusal_at before command n ≡ None → EditedAt T command n U → length T ≤ length U
  at-grow (Insert path at events) n U free edited =
      let may : MayTake T n (at - 1) edited.piece = piece-may before n at events edited.piece edited.well_formed edited.scoped free in
      omega (arith, ap length edited.is, length-inserted T edited.piece n (at - 1) (holder-live T n may.under))
  at-grow (Delete path) n U free edited = omega (arith, ap length edited, deleted-numbers T n)
  at-grow (SetText path text) n U free edited = omega (arith, ap length edited, said-length T n text)
  at-grow (SetAttr path name value) n U free edited =
      omega (
        arith,
        ap length edited,
        set-numbers T n (attribute_name_at T n (prefix_part name) (local_part name)) value (attribute_meant T n (prefix_part name) (local_part name)),
      )
  at-grow (UnsetAttr path name) n U free edited =
      omega (arith, ap length edited, unset-numbers T (attribute_meant T n (prefix_part name) (local_part name)))
  at-grow (Rename path name) n U free edited =
      omega (arith, ap length edited, renamed-length T n (element_name_at T n (prefix_part name) (local_part name)))
  at-grow (RenameAttr path old name) n U free edited =
      omega (
        arith,
        ap length edited,
        other-name-numbers T (attribute_meant T n (prefix_part old) (local_part old)) (attribute_name_at T n (prefix_part name) (local_part name)),
      )

pub numbers-grow : NumbersGrow
numbers-grow before command U form free edited =
    at-grow before form command edited.node U (ap (refusal_where before command) (sym edited.named) ∙ free) edited.edited
