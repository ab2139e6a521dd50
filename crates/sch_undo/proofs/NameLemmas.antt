-- Of the commands that take a command back none but the first gives a node another name.
use Rattle.std.proofs.Common.{◌≡◌, ℕ, false, List, [], ◌∷◌, ◌++◌, ◌⊎◌, inl, inr, map, take, Option, None, Some, refl, sym, subst}
use Rattle.std.specs.Prelude.{All}
use Rattle.std.proofs.lemmas.List.Elements.{All-append, All-cons, All-drop, All-head, All-map, All-nil, All-tail, All-take}
use Rattle.circular_buffer.specs.Buffer.{Buffer, buffer}
use Rattle.doc_tree.specs.cell.Cell.TheVariants.{Name}
use Rattle.doc_tree.specs.Changes.{Meeting, meeting}
use Rattle.doc_tree.specs.NameTests.{attribute_meant}
use Rattle.doc_tree.specs.Table.{Table, attrs_of, kids_above, parent_of}
use Rattle.doc_edit_laws.specs.Touching.{touched_meeting}
use Rattle.name_scopes.specs.QNames.{local_part, prefix_part}
use Rattle.edit_script.specs.declared.command.Command.{Command}
use Rattle.edit_script.specs.declared.command.Command.TheVariants.{Insert, Delete, SetText, SetAttr, UnsetAttr, Rename, RenameAttr}
use Rattle.edit_script.specs.declared.command.PathStep.{PathStep}
use Rattle.edit_commands.specs.Commands.{path_of}
use Rattle.edit_commands.specs.Paths.{node_named}
use Rattle.edit_commands.specs.Touched.{touched_at, touched_by, touched_setting, touched_under, touched_where}
use Rattle.edit_paths.specs.Entries.{attribute_comes, attribute_goes, attribute_renaming_undone, behind, comes_again, deletion_undone, path_above, setting_undone, undoing, undoing_at, undoing_where, unsetting_undone}
use Rattle.undo_entries.specs.declared.entry.Entry.{Entry}
use Rattle.sch_undo.specs.inner.Doing.{KeepsNames, NamesFirst}
use Rattle.sch_undo.specs.inner.Held.{NamesComeFirst}

-- a command that gives no node another name touches none
no-meeting : (o : Option Meeting) (n : ℕ) → touched_meeting o (Name n) ≡ false
no-meeting None n = refl
no-meeting (Some texts) n = refl

no-setting : (T : Table) (m : ℕ) (o : Option ℕ) (n : ℕ) → touched_setting T m o (Name n) ≡ false
no-setting T m None n = refl
no-setting T m (Some a) n = refl

no-under : (T : Table) (m : ℕ) (o : Option ℕ) (n : ℕ) → touched_under T m o (Name n) ≡ false
no-under T m None n = refl
no-under T m (Some p) n = no-meeting (meeting T m (kids_above T (Some p))) n

no-name-at : (T : Table) (command : Command) (m : ℕ) → KeepsNames command → (n : ℕ) → touched_at T command m (Name n) ≡ false
no-name-at T (Insert path at piece) m keeps n = refl
no-name-at T (Delete path) m keeps n = no-under T m (parent_of T m) n
no-name-at T (SetText path text) m keeps n = refl
no-name-at T (SetAttr path name value) m keeps n = no-setting T m (attribute_meant T m (prefix_part name) (local_part name)) n
no-name-at T (UnsetAttr path name) m keeps n = refl
no-name-at T (Rename path name) m keeps n = absurd keeps
no-name-at T (RenameAttr path old name) m keeps n = absurd keeps

pub no-name : (T : Table) (command : Command) → KeepsNames command → (n : ℕ) → touched_by T command (Name n) ≡ false
no-name T command keeps n = by (node_named T (path_of command))
  where
    by : (o : Option ℕ) → touched_where T command o (Name n) ≡ false
    by None = refl
    by (Some m) = no-name-at T command m keeps n

-- a command behind the first
among : (front : List Command) (command : Command) (back : List Command) → All KeepsNames (front ++ command ∷ back) → KeepsNames command
among [] command back h = All-head KeepsNames command back h
among (other ∷ front) command back h = among front command back (All-tail KeepsNames other (front ++ command ∷ back) h)

pub later-keeps : (front : List Command) (command : Command) (back : List Command) → NamesFirst (front ++ command ∷ back) →
    (front ≡ []) ⊎ KeepsNames command
later-keeps [] command back h = inl refl
later-keeps (other ∷ front) command back h = inr (among front command back h)

-- what takes a command back
alone : NamesFirst []
alone = All-nil KeepsNames

deletion-names : (path : List PathStep) (T : Table) (n : ℕ) (o : Option Meeting) → NamesFirst (deletion_undone path T n o)
deletion-names path T n None = alone
deletion-names path T n (Some texts) =
    All-cons KeepsNames (comes_again path T n) (comes_again path T texts.right ∷ []) tt (All-cons KeepsNames (comes_again path T texts.right) [] tt alone)

setting-names : (path : List PathStep) (name : List ℕ) (T : Table) (o : Option ℕ) → NamesFirst (setting_undone path name T o)
setting-names path name T None = alone
setting-names path name T (Some a) = alone

unsetting-names : (path : List PathStep) (T : Table) (n : ℕ) (o : Option ℕ) → NamesFirst (unsetting_undone path T n o)
unsetting-names path T n None = alone
unsetting-names path T n (Some a) =
    let gone : List Command = map (attribute_goes path T) (behind a (attrs_of T n)) in
    let come : List Command = map (attribute_comes path T) (a ∷ behind a (attrs_of T n)) in
    All-drop KeepsNames 1 (gone ++ come)
    (All-append KeepsNames gone come (All-map KeepsNames (attribute_goes path T) (behind a (attrs_of T n)) (λ i d less. tt))
    (All-map KeepsNames (attribute_comes path T) (a ∷ behind a (attrs_of T n)) (λ i d less. tt)))

renaming-names : (path : List PathStep) (name : List ℕ) (T : Table) (o : Option ℕ) → NamesFirst (attribute_renaming_undone path name T o)
renaming-names path name T None = alone
renaming-names path name T (Some a) = alone

names-at : (T : Table) (command : Command) (n : ℕ) → NamesFirst (undoing_at T command n)
names-at T (Insert path at piece) n = alone
names-at T (Delete path) n = deletion-names (path_above path) T n (meeting T n (kids_above T (parent_of T n)))
names-at T (SetText path text) n = alone
names-at T (SetAttr path name value) n = setting-names path name T (attribute_meant T n (prefix_part name) (local_part name))
names-at T (UnsetAttr path name) n = unsetting-names path T n (attribute_meant T n (prefix_part name) (local_part name))
names-at T (Rename path name) n = alone
names-at T (RenameAttr path old name) n = renaming-names path name T (attribute_meant T n (prefix_part old) (local_part old))

undoing-names : (T : Table) (command : Command) → NamesFirst (undoing T command)
undoing-names T command = by (node_named T (path_of command))
  where
    by : (o : Option ℕ) → NamesFirst (undoing_where T command o)
    by None = alone
    by (Some n) = names-at T command n

-- what is kept once it was put in front
pub pushed-names : (T : Table) (command : Command) (kept left : Buffer Entry) (entry : Entry) → entry.commands ≡ undoing T command →
    left ≡ buffer (take kept.capacity (entry ∷ kept.items)) kept.capacity → All NamesComeFirst kept.items → All NamesComeFirst left.items
pushed-names T command kept left entry commands pushed names =
    subst (λ (b : Buffer Entry). All NamesComeFirst b.items) (sym pushed)
    (All-take NamesComeFirst kept.capacity (entry ∷ kept.items)
    (All-cons NamesComeFirst entry kept.items (subst NamesFirst (sym commands) (undoing-names T command)) names))

-- and the newest one
pub front-names : (entry : Entry) (kept others : List Entry) → kept ≡ entry ∷ others → All NamesComeFirst kept → NamesFirst entry.commands
front-names entry kept others is names = All-head NamesComeFirst entry others (subst (All NamesComeFirst) is names)
