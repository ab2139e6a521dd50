-- Commands that were done on a tree are done on another that is the same.
use Rattle.std.proofs.Common.{◌≡◌, ℕ, ◌+◌, ◌-◌, true, List, [], ◌∷◌, length, Option, None, Some, refl, sym, ap, ◌∙◌, arith, length-append}
use Rattle.std.proofs.lemmas.List.Elements.{All-head, All-tail}
use Rattle.doc_table.proofs.Appending.{holder-live}
use Rattle.doc_table.proofs.Forests.{formed-of}
use Rattle.doc_table.proofs.TreeLaws.{ordered}
use Rattle.doc_edits.specs.Changes.{changed_at, Meeting, deleted, deleted_by, meeting, removed, removed_from, renamed, said, with_attribute, with_name, with_text}
use Rattle.doc_edits.specs.Fitting.{MayTake}
use Rattle.doc_edits.proofs.ClearLemmas.{cut-length}
use Rattle.doc_edits.proofs.InsertionLemmas.{length-inserted}
use Rattle.doc_edits.proofs.TableLemmas.{changed-length}
use Rattle.doc_tree.specs.Edited.{attribute_name_at, element_name_at, with_other_name, with_value, without_attribute}
use Rattle.doc_tree.specs.Kinds.{is_document}
use Rattle.doc_tree.specs.Laws.{WellFormed}
use Rattle.doc_tree.specs.NameTests.{attribute_meant}
use Rattle.doc_tree.specs.Table.{Contents, Facts, Name, Table, attribute, kids_above, parent_of}
use Rattle.doc_tree.specs.Walks.{below}
use Rattle.doc_tree.proofs.InsertLemmas.{nodes-brought}
use Rattle.name_scopes.specs.QNames.{local_part, prefix_part}
use Rattle.name_scopes_laws.proofs.PieceSizes.{piece-nodes}
use Rattle.edit_script.specs.WellFormed.{WellFormedCommand}
use Rattle.edit_script.specs.declared.command.Command.{Command}
use Rattle.edit_script.specs.declared.command.Command.TheVariants.{Insert, Delete, SetText, SetAttr, UnsetAttr, Rename, RenameAttr}
use Rattle.edit_commands.specs.Commands.{EditedAt, IsEdited, command_refusal, refusal_at, refusal_where}
use Rattle.edit_command_laws.specs.SomeEdit.{EditsMakeTrees}
use Rattle.edit_command_laws.specs.TreesKept.{EditsKeepTrees}
use Rattle.edit_iso_laws.specs.CommandsMove.{CommandsMove, DoneInTurn, GoesOn, NumbersMove, RefusalsMove, ScriptsGoOn, none, numbers_for_value, numbers_made, numbers_made_at, numbers_made_where, then}
use Rattle.edit_iso_laws.proofs.CommandLemmas.{piece-may}

-- no edit but one that adds makes numbers
pub said-length : (T : Table) (n : ℕ) (new : List ℕ) → length (said T n new) ≡ length T
said-length T n new = changed-length T n (with_text new)

pub renamed-length : (T : Table) (n : ℕ) (name : Name) → length (renamed T n name) ≡ length T
renamed-length T n name = changed-length T n (with_name name)

pub removed-length : (T : Table) (n : ℕ) → length (removed T n) ≡ length T
removed-length T n = by (parent_of T n)
  where
    by : (o : Option ℕ) → length (removed_from T n o) ≡ length T
    by None = refl
    by (Some p) = cut-length T n p (below T n)

deleted-length : (T : Table) (n : ℕ) → length (deleted T n) ≡ length T
deleted-length T n = by (meeting T n (kids_above T (parent_of T n)))
  where
    by : (o : Option Meeting) → length (deleted_by T n o) ≡ length T
    by None = removed-length T n
    by (Some texts) =
        said-length (removed (removed T texts.right) n) texts.left _ ∙ (removed-length (removed T texts.right) n ∙ removed-length T texts.right)

set-length : (T : Table) (n : ℕ) (name : Name) (value : List ℕ) (o : Option ℕ) → length (with_value T n name o value) ≡ length T + numbers_for_value o
set-length T n name value None =
    let one : Option Facts = Some (record { parent = Some n; kids = []; attributes = []; content = attribute name value }) in
    omega (arith, changed-length T n (with_attribute (length T)), length-append (changed_at n (with_attribute (length T)) T) (one ∷ []))
set-length T n name value (Some a) = omega (arith, said-length T a value)

unset-length : (T : Table) (o : Option ℕ) → length (without_attribute T o) ≡ length T
unset-length T None = refl
unset-length T (Some a) = removed-length T a

other-name-length : (T : Table) (o : Option ℕ) (name : Name) → length (with_other_name T o name) ≡ length T
other-name-length T None name = refl
other-name-length T (Some a) name = renamed-length T a name

module _ (before : Contents) (form : WellFormed before.nodes) where
  at-length : (command : Command) (n : ℕ) (U : Table) → refusal_at before command n ≡ None → EditedAt before.nodes command n U → length U ≡ length before.nodes + numbers_made_at before.nodes command n
  at-length (Insert path at events) n U free edited =
      let may : MayTake before.nodes n (at - 1) edited.piece = piece-may before n at events edited.piece edited.well_formed edited.scoped free in
      omega (
        arith,
        ap length edited.is,
        length-inserted before.nodes edited.piece n (at - 1) (holder-live before.nodes n may.under),
        nodes-brought edited.piece edited.well_formed (ordered edited.piece (formed-of edited.piece edited.well_formed)),
        piece-nodes edited.piece edited.well_formed events edited.scoped.lines_are,
      )
  at-length (Delete path) n U free edited = omega (arith, ap length edited, deleted-length before.nodes n)
  at-length (SetText path text) n U free edited = omega (arith, ap length edited, said-length before.nodes n text)
  at-length (SetAttr path name value) n U free edited =
      omega (
        arith,
        ap length edited,
        set-length before.nodes n (attribute_name_at before.nodes n (prefix_part name) (local_part name)) value (attribute_meant before.nodes n (prefix_part name) (local_part name)),
      )
  at-length (UnsetAttr path name) n U free edited =
      omega (arith, ap length edited, unset-length before.nodes (attribute_meant before.nodes n (prefix_part name) (local_part name)))
  at-length (Rename path name) n U free edited =
      omega (arith, ap length edited, renamed-length before.nodes n (element_name_at before.nodes n (prefix_part name) (local_part name)))
  at-length (RenameAttr path old name) n U free edited =
      omega (
        arith,
        ap length edited,
        other-name-length before.nodes (attribute_meant before.nodes n (prefix_part old) (local_part old)) (attribute_name_at before.nodes n (prefix_part name) (local_part name)),
      )

  edited-length : (command : Command) (U : Table) → command_refusal before command ≡ None → IsEdited before.nodes command U → length U ≡ length before.nodes + numbers_made before.nodes command
  edited-length command U free edited =
      at-length command edited.node U (ap (refusal_where before command) (sym edited.named) ∙ free) edited.edited
      ∙ ap (λ o. length before.nodes + numbers_made_where before.nodes command o) (sym edited.named)

-- commands in turn make some numbers, or none
grown : EditsKeepTrees → (before after : Contents) (commands : List Command) → WellFormed before.nodes → is_document before.nodes ≡ true → DoneInTurn before commands after →
    (more : ℕ) × (length after.nodes ≡ length before.nodes + more)
grown keeps _ _ _ form document (none before) = (0, omega arith)
grown keeps _ _ _ form document (then before next after command commands free edited kept rest) =
    let here : WellFormed next.nodes × (is_document next.nodes ≡ true) = keeps before command next.nodes form document free edited in
    let behind = grown keeps next after commands here.0 here.1 rest in
    let first : length next.nodes ≡ length before.nodes + numbers_made before.nodes command = edited-length before form command next.nodes free edited in
    (numbers_made before.nodes command + behind.0, omega (arith, behind.1, first))

pub scripts-go-on : EditsKeepTrees → EditsMakeTrees → CommandsMove → RefusalsMove → NumbersMove → ScriptsGoOn
scripts-go-on keeps makes move refusals numbers _ other _ _ more form form-other document document-other alike cap formed (none before) rise room =
    record { end = other; done = none other; same = alike; numbers = omega (arith, rise); cap = refl }
scripts-go-on keeps makes move refusals numbers _ other _ _ more form form-other document document-other alike cap formed (then before next after command commands free edited kept rest) rise room =
    let here : WellFormed next.nodes × (is_document next.nodes ≡ true) = keeps before command next.nodes form document free edited in
    let behind = grown keeps next after commands here.0 here.1 rest in
    let first : length next.nodes ≡ length before.nodes + numbers_made before.nodes command = edited-length before form command next.nodes free edited in
    let free2 : command_refusal other command ≡ None = refusals before other command form form-other alike cap free (omega (arith, room, rise, behind.1, first)) in
    let made = makes other command form-other (All-head WellFormedCommand command commands formed) free2 in
    let next2 : Contents = record other { nodes = made.0 } in
    let there : WellFormed made.0 × (is_document made.0 ≡ true) = keeps other command made.0 form-other document-other free2 made.1 in
    let same-numbers : numbers_made other.nodes command ≡ numbers_made before.nodes command = numbers before other command form form-other alike in
    let second : length made.0 ≡ length other.nodes + numbers_made before.nodes command =
    edited-length other form-other command made.0 free2 made.1 ∙ ap (λ k. length other.nodes + k) same-numbers in
    let on : GoesOn next2 commands after behind.0 =
    scripts-go-on keeps makes move refusals numbers next next2 after commands behind.0 here.0 there.0 here.1 there.1
    (move before other command next.nodes made.0 form form-other alike free free2 edited made.1) (cap ∙ sym kept) (All-tail WellFormedCommand command commands formed) rest behind.1
    (omega (arith, room, rise, behind.1, first, second)) in
    record {
      end = on.end;
      done = then other next2 on.end command commands free2 made.1 refl on.done;
      same = on.same;
      numbers = omega (arith, on.numbers, second, rise, behind.1, first);
      cap = on.cap;
    }
