-- A command at corresponding nodes of trees that are the same.
use Rattle.std.proofs.Common.{◌≡◌, ℕ, ◌-◌, true, List, [], Option, None, Some, refl, sym, ap, ap₂, ◌∙◌, subst}
use Rattle.std.specs.Prelude.{option_map, unwrap_or}
use Rattle.pyx_core.specs.declared.event.Event.{Event}
use Rattle.doc_table.proofs.Forests.{formed-of}
use Rattle.doc_table.proofs.TreeLaws.{ordered, ways-up}
use Rattle.doc_table.specs.inner.Sound.{Formed}
use Rattle.doc_edits.specs.Fitting.{MayGain, MayTake}
use Rattle.doc_iso_laws.specs.EditsMove.{AdditionsMove, ChangesMove}
use Rattle.doc_tree.specs.Changes.{deleted, inserted, removed, renamed, said}
use Rattle.doc_tree.specs.Edited.{attribute_name_at, attribute_renamed, attribute_set, attribute_unset, element_name_at, element_renamed, with_other_name, with_value, without_attribute}
use Rattle.doc_tree.specs.InOrder.{OneTable}
use Rattle.doc_tree.specs.Kinds.{is_document}
use Rattle.doc_tree.specs.Laws.{HasWaysUp, WellFormed, WellFormedIsEnough}
use Rattle.doc_tree.specs.NameTests.{attribute_meant}
use Rattle.doc_tree.specs.Refusals.{setting_refusal}
use Rattle.doc_tree.specs.SameTree.{SameTree}
use Rattle.doc_tree.specs.Scope.{attribute_namespace, namespace_in, scope_at}
use Rattle.doc_tree.specs.Table.{Contents, Name, Table}
use Rattle.doc_tree.proofs.AttributeLemmas.{found-member, may-gain, may-go}
use Rattle.doc_tree.proofs.InsertLemmas.{may-take}
use Rattle.name_scopes.specs.Fragments.{ScopedPiece}
use Rattle.name_scopes.specs.QNames.{local_part, prefix_part}
use Rattle.edit_script.specs.declared.command.Command.{Command}
use Rattle.edit_script.specs.declared.command.Command.TheVariants.{Insert, Delete, SetText, SetAttr, UnsetAttr, Rename, RenameAttr}
use Rattle.edit_script.specs.declared.command.PathStep.{PathStep}
use Rattle.edit_commands.specs.Commands.{EditedAt, IsEdited, command_refusal, insertion_refusal, path_of, refusal_at, refusal_where}
use Rattle.edit_commands.specs.Paths.{node_named}
use Rattle.edit_command_laws.specs.TreesKept.{EditsKeepTrees}
use Rattle.edit_command_laws.proofs.OnePiece.{one-piece}
use Rattle.edit_command_laws.proofs.TreesKept.{fits, one}
use Rattle.tree_iso.specs.Renumbering.{RenumberedTreesAreSame, Renumbers, SameTreesAreRenumbered, renumbered}
use Rattle.edit_iso_laws.specs.CommandsMove.{CommandsMove, ScriptsMove, none, then}
use Rattle.edit_iso_laws.specs.PathsMove.{PathsMove}

-- the piece that a fragment is may come where nothing speaks against the fragment
pub piece-may : (before : Contents) (n at : ℕ) (events : List Event) (P : Table) → WellFormed P → ScopedPiece (scope_at before.nodes n) events P → insertion_refusal before n at events ≡ None →
    MayTake before.nodes n (at - 1) P
piece-may before n at events P form scoped free =
    let piece : Formed P = formed-of P form in
    may-take before n at P (fits before n at events P form piece scoped free) (ordered P piece) (one before n at events P form piece scoped free)

module _ (laws : WellFormedIsEnough) (one_table : OneTable) (changes : ChangesMove) (additions : AdditionsMove) (paths : PathsMove) (same : RenumberedTreesAreSame)
    (before other : Contents) (form : WellFormed before.nodes) (form-other : WellFormed other.nodes) (alike : SameTree before.nodes other.nodes)
    (f : ℕ → ℕ) (r : Renumbers f before.nodes other.nodes) where
  abbrev T : Table
  T = before.nodes

  abbrev U : Table
  U = other.nodes

  abbrev Both : Command → ℕ → Type 0
  Both command n = (A B : Table) → refusal_at before command n ≡ None → refusal_at other command (f n) ≡ None → EditedAt T command n A → EditedAt U command (f n) B → SameTree A B

  -- trees that are what edits make of the two
  end : (A B A2 B2 : Table) → A ≡ A2 → B ≡ B2 → SameTree A2 B2 → SameTree A B
  end A B A2 B2 a b h = subst (λ X. SameTree X B) (sym a) (subst (λ Y. SameTree A2 Y) (sym b) h)

  insertion-same : (path : List PathStep) (at : ℕ) (events : List Event) (n : ℕ) → Both (Insert path at events) n
  insertion-same path at events n A B free free-other here there =
      let around : scope_at U (f n) ≡ scope_at T n = paths.scope f T U n form form-other r in
      let scoped : ScopedPiece (scope_at T n) events there.piece = subst (λ scope. ScopedPiece scope events there.piece) around there.scoped in
      let is : here.piece ≡ there.piece = one-piece laws one_table (scope_at T n) events here.piece there.piece here.well_formed there.well_formed here.scoped scoped in
      let may : MayTake T n (at - 1) there.piece = piece-may before n at events there.piece there.well_formed scoped free in
      let may-other : MayTake U (f n) (at - 1) there.piece = piece-may other (f n) at events there.piece there.well_formed there.scoped free-other in
      end A B (inserted T n (at - 1) there.piece) (inserted U (f n) (at - 1) there.piece) (here.is ∙ ap (inserted T n (at - 1)) is) there.is
      (additions.insertion f T U there.piece n (at - 1) form form-other there.well_formed r may may-other)

  -- a QName is one name at both, and means one attribute
  attribute-name : (n : ℕ) (prefix local : List ℕ) → attribute_name_at U (f n) prefix local ≡ attribute_name_at T n prefix local
  attribute-name n prefix local =
      ap (λ scope. record { prefix = prefix; local = local; uri = unwrap_or (attribute_namespace scope prefix) [] }) (paths.scope f T U n form form-other r)

  element-name : (n : ℕ) (prefix local : List ℕ) → element_name_at U (f n) prefix local ≡ element_name_at T n prefix local
  element-name n prefix local =
      ap (λ scope. record { prefix = prefix; local = local; uri = unwrap_or (namespace_in scope prefix) [] }) (paths.scope f T U n form form-other r)

  means : (n : ℕ) (prefix local : List ℕ) (o : Option ℕ) → attribute_meant T n prefix local ≡ o → attribute_meant U (f n) prefix local ≡ option_map f o
  means n prefix local o e = paths.meant f T U n prefix local form form-other r ∙ ap (option_map f) e

  set-same : (n : ℕ) (prefix local value : List ℕ) → setting_refusal before n prefix local value ≡ None → setting_refusal other (f n) prefix local value ≡ None →
      SameTree (attribute_set T n prefix local value) (attribute_set U (f n) prefix local value)
  set-same n prefix local value free free-other = by (attribute_meant T n prefix local) refl
    where
      moved : (o : Option ℕ) → attribute_meant T n prefix local ≡ o →
          attribute_set U (f n) prefix local value ≡ with_value U (f n) (attribute_name_at T n prefix local) (option_map f o) value
      moved o e = ap₂ (λ (k : Name) (q : Option ℕ). with_value U (f n) k q value) (attribute-name n prefix local) (means n prefix local o e)

      by : (o : Option ℕ) → attribute_meant T n prefix local ≡ o → SameTree (attribute_set T n prefix local value) (attribute_set U (f n) prefix local value)
      by None e =
          end (attribute_set T n prefix local value) (attribute_set U (f n) prefix local value) (with_value T n (attribute_name_at T n prefix local) None value)
          (with_value U (f n) (attribute_name_at T n prefix local) None value)
          (ap (λ q. with_value T n (attribute_name_at T n prefix local) q value) e) (moved None e)
          (additions.gain f T U n (attribute_name_at T n prefix local) value form form-other r (may-gain before n prefix local value free e)
          (subst (λ k. MayGain U (f n) k value) (attribute-name n prefix local) (may-gain other (f n) prefix local value free-other (means n prefix local None e))))
      by (Some a) e =
          end (attribute_set T n prefix local value) (attribute_set U (f n) prefix local value) (with_value T n (attribute_name_at T n prefix local) (Some a) value)
          (with_value U (f n) (attribute_name_at T n prefix local) (Some (f a)) value)
          (ap (λ q. with_value T n (attribute_name_at T n prefix local) q value) e) (moved (Some a) e)
          (same f (said T a value) (said U (f a) value) (changes.saying f T U a value form form-other r))

  unset-same : (n : ℕ) (prefix local : List ℕ) → SameTree (attribute_unset T n prefix local) (attribute_unset U (f n) prefix local)
  unset-same n prefix local = by (attribute_meant T n prefix local) refl
    where
      ways : HasWaysUp T
      ways = ways-up T (formed-of T form)

      by : (o : Option ℕ) → attribute_meant T n prefix local ≡ o → SameTree (attribute_unset T n prefix local) (attribute_unset U (f n) prefix local)
      by None e =
          end (attribute_unset T n prefix local) (attribute_unset U (f n) prefix local) T U (ap (without_attribute T) e)
          (ap (without_attribute U) (means n prefix local None e)) alike
      by (Some a) e =
          end (attribute_unset T n prefix local) (attribute_unset U (f n) prefix local) (removed T a) (removed U (f a)) (ap (without_attribute T) e)
          (ap (without_attribute U) (means n prefix local (Some a) e))
          (same f (removed T a) (removed U (f a)) (changes.removal f T U a form form-other r (may-go T form ways n a (found-member T n a prefix local e))))

  renamed-same : (n : ℕ) (prefix local : List ℕ) → SameTree (element_renamed T n prefix local) (element_renamed U (f n) prefix local)
  renamed-same n prefix local =
      let name : Name = element_name_at T n prefix local in
      end (element_renamed T n prefix local) (element_renamed U (f n) prefix local) (renamed T n name) (renamed U (f n) name)
      refl (ap (renamed U (f n)) (element-name n prefix local))
      (same f (renamed T n name) (renamed U (f n) name) (changes.renaming f T U n name form form-other r))

  attribute-renamed-same : (n : ℕ) (old_prefix old_local prefix local : List ℕ) →
      SameTree (attribute_renamed T n old_prefix old_local prefix local) (attribute_renamed U (f n) old_prefix old_local prefix local)
  attribute-renamed-same n old_prefix old_local prefix local = by (attribute_meant T n old_prefix old_local) refl
    where
      name : Name
      name = attribute_name_at T n prefix local

      here : Table
      here = attribute_renamed T n old_prefix old_local prefix local

      there : Table
      there = attribute_renamed U (f n) old_prefix old_local prefix local

      by : (o : Option ℕ) → attribute_meant T n old_prefix old_local ≡ o → SameTree here there
      by None e =
          end here there T U (ap (λ o. with_other_name T o name) e)
          (ap₂ (λ (k : Name) (o : Option ℕ). with_other_name U o k) (attribute-name n prefix local) (means n old_prefix old_local None e)) alike
      by (Some a) e =
          end here there (renamed T a name) (renamed U (f a) name) (ap (λ o. with_other_name T o name) e)
          (ap₂ (λ (k : Name) (o : Option ℕ). with_other_name U o k) (attribute-name n prefix local) (means n old_prefix old_local (Some a) e))
          (same f (renamed T a name) (renamed U (f a) name) (changes.renaming f T U a name form form-other r))

  command-same : (command : Command) (n : ℕ) → Both command n
  command-same (Insert path at events) n = insertion-same path at events n
  command-same (Delete path) n = λ A B free free-other here there.
      end A B (deleted T n) (deleted U (f n)) here there (same f (deleted T n) (deleted U (f n)) (changes.deletion f T U n form form-other r))
  command-same (SetText path text) n = λ A B free free-other here there.
      end A B (said T n text) (said U (f n) text) here there (same f (said T n text) (said U (f n) text) (changes.saying f T U n text form form-other r))
  command-same (SetAttr path name value) n = λ A B free free-other here there.
      end A B (attribute_set T n (prefix_part name) (local_part name) value) (attribute_set U (f n) (prefix_part name) (local_part name) value) here there
      (set-same n (prefix_part name) (local_part name) value free free-other)
  command-same (UnsetAttr path name) n = λ A B free free-other here there.
      end A B (attribute_unset T n (prefix_part name) (local_part name)) (attribute_unset U (f n) (prefix_part name) (local_part name)) here there
      (unset-same n (prefix_part name) (local_part name))
  command-same (Rename path name) n = λ A B free free-other here there.
      end A B (element_renamed T n (prefix_part name) (local_part name)) (element_renamed U (f n) (prefix_part name) (local_part name)) here there
      (renamed-same n (prefix_part name) (local_part name))
  command-same (RenameAttr path old name) n = λ A B free free-other here there.
      end A B (attribute_renamed T n (prefix_part old) (local_part old) (prefix_part name) (local_part name))
      (attribute_renamed U (f n) (prefix_part old) (local_part old) (prefix_part name) (local_part name)) here there
      (attribute-renamed-same n (prefix_part old) (local_part old) (prefix_part name) (local_part name))

  both-same : (command : Command) (A B : Table) → command_refusal before command ≡ None → command_refusal other command ≡ None → IsEdited T command A → IsEdited U command B → SameTree A B
  both-same command A B free free-other here there =
      let named : node_named U (path_of command) ≡ Some (f here.node) = paths.path f T U (path_of command) form form-other r ∙ ap (option_map f) here.named in
      let node : there.node ≡ f here.node = ap (λ (o : Option ℕ). unwrap_or o 0) (sym there.named ∙ named) in
      command-same command here.node A B (ap (refusal_where before command) (sym here.named) ∙ free) (ap (refusal_where other command) (sym named) ∙ free-other) here.edited
      (subst (λ n. EditedAt U command n B) node there.edited)

pub commands-move : WellFormedIsEnough → OneTable → ChangesMove → AdditionsMove → PathsMove → RenumberedTreesAreSame → SameTreesAreRenumbered → CommandsMove
commands-move laws one_table changes additions paths same renumber before other command A B form form-other alike free free-other here there =
    both-same laws one_table changes additions paths same before other form form-other alike (renumbered before.nodes other.nodes) (renumber before.nodes other.nodes form form-other alike)
    command A B free free-other here there

pub scripts-move : EditsKeepTrees → CommandsMove → ScriptsMove
scripts-move keeps move _ _ _ _ _ form form-other document document-other alike (none before) (none other) = alike
scripts-move keeps move _ _ _ _ _ form form-other document document-other alike (then before next after command commands free edited cap rest) (then other next2 after2 _ _ free2 edited2 cap2 rest2) =
    let kept : WellFormed next.nodes × (is_document next.nodes ≡ true) = keeps before command next.nodes form document free edited in
    let kept2 : WellFormed next2.nodes × (is_document next2.nodes ≡ true) = keeps other command next2.nodes form-other document-other free2 edited2 in
    scripts-move keeps move next next2 after after2 commands kept.0 kept2.0 kept.1 kept2.1
    (move before other command next.nodes next2.nodes form form-other alike free free2 edited edited2) rest rest2
