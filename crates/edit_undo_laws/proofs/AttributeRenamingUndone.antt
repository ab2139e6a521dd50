-- An attribute that got another name has its own again.
use Rattle.std.proofs.Common.{◌≡◌, ◌≢◌, ℕ, true, false, not, List, [], ◌∷◌, length, Option, None, Some, is_some, refl, sym, ap, ap₂, ◌∙◌, subst, ⊎_elim, true≢false, arith, eq-eqb, unwrap_or}
use Rattle.std.specs.Option.{option_or}
use Rattle.sch_base.specs.Names.{QNamesSplit}
use Rattle.doc_table.proofs.Appending.{holder-live}
use Rattle.doc_table.proofs.ListLemmas.{In, eq_or, mem-In}
use Rattle.doc_table.proofs.SameTreeLemmas.{same-lines-same-tree}
use Rattle.doc_table.proofs.TreeLaws.{well-formed}
use Rattle.doc_edits.specs.Changes.{renamed}
use Rattle.doc_edits.specs.Fitting.{MayRename}
use Rattle.doc_edits.proofs.RenamingLemmas.{name-other, name-renamed}
use Rattle.doc_tree.specs.kind.Kind.TheVariants.{Element}
use Rattle.doc_tree.specs.declared.refusal.EditRefusal.TheVariants.{WrongKind, NoPrefix, XmlnsName}
use Rattle.doc_tree.specs.Edited.{attribute_name_at, attribute_renamed, with_other_name}
use Rattle.doc_tree.specs.Kinds.{holds_kids, is_element}
use Rattle.doc_tree.specs.Laws.{WellFormed}
use Rattle.doc_tree.specs.Lists.{mem}
use Rattle.doc_tree.specs.NameTests.{attribute_in, attribute_meant, has_name}
use Rattle.doc_tree.specs.QNames.{written_in}
use Rattle.doc_tree.specs.Refusals.{absence_refusal, are_two, attribute_renaming_refusal, declares_namespace, is_unbound, name_pair_refusal, name_refusal}
use Rattle.doc_tree.specs.SameTree.{SameTree}
use Rattle.doc_tree.specs.Scope.{attribute_namespace, scope_at}
use Rattle.doc_tree.specs.Table.{Contents, Name, Table, attrs_of, expanded_in, kind_of, name_of}
use Rattle.doc_tree.proofs.AttributeLemmas.{found-member, known, owner}
use Rattle.doc_tree.proofs.RefusalLemmas.{find-in, none-of-three, or-none}
use Rattle.doc_tree.proofs.RenamingLemmas.{may-rename-attribute}
use Rattle.doc_undo_laws.proofs.ContentBack.{renamed-back}
use Rattle.name_scopes.specs.QNames.{local_part, prefix_part}
use Rattle.name_scopes.specs.Scoping.{InScope}
use Rattle.edit_script.specs.declared.command.Command.{Command}
use Rattle.edit_script.specs.declared.command.Command.TheVariants.{RenameAttr}
use Rattle.edit_script.specs.declared.command.PathStep.{PathStep}
use Rattle.edit_commands.specs.Commands.{IsEdited, refusal_where}
use Rattle.edit_commands.specs.Paths.{node_named}
use Rattle.edit_iso_laws.proofs.GoingOnLemmas.{renamed-length}
use Rattle.edit_paths.specs.Entries.{attribute_renaming_undone, numbers_where, undoing_where}
use Rattle.edit_commands.proofs.RenamingLemmas.{free-name}
use Rattle.edit_undo_laws.specs.Undoing.{AttributeRenamesAreUndone, TakesBack}
use Rattle.edit_undo_laws.proofs.AttributesFound.{expanded-has, meant-is, refusal-kept}
use Rattle.edit_undo_laws.proofs.OwnAttributes.{IsOwn, own, own-free, own-known, pair_of}
use Rattle.edit_undo_laws.proofs.SettingUndone.{one-done}
use Rattle.edit_undo_laws.proofs.RenamingUndone.{attributes-after, kind-after, path-after, scope-after, tree-after}

-- what speaks against one of two names of an attribute, and against both
name-parts : (T : Table) (n : ℕ) (prefix local : List ℕ) → name_refusal T n prefix local ≡ None →
    (not (is_element (kind_of T n)) ≡ false) × (is_unbound T n prefix ≡ false) × (declares_namespace prefix local ≡ false)
name-parts T n prefix local free =
    none-of-three (not (is_element (kind_of T n))) (is_unbound T n prefix) (declares_namespace prefix local) WrongKind NoPrefix XmlnsName free

both-free : (T : Table) (n : ℕ) (old_prefix old_local prefix local : List ℕ) → name_refusal T n old_prefix old_local ≡ None →
    name_refusal T n prefix local ≡ None → are_two (attribute_meant T n old_prefix old_local) (attribute_meant T n prefix local) ≡ false →
    name_pair_refusal T n old_prefix old_local prefix local ≡ None
both-free T n old_prefix old_local prefix local first second one =
    let a = name-parts T n old_prefix old_local first in
    let b = name-parts T n prefix local second in
    rw (a.0, a.1, b.1, one, a.2, b.2) refl

module _ (splits : QNamesSplit) (before : Contents) (path : List PathStep) (former name : List ℕ) (n : ℕ) (form : WellFormed before.nodes)
    (scoped : InScope before.nodes) (named : node_named before.nodes path ≡ Some n)
    (free : name_pair_refusal before.nodes n (prefix_part former) (local_part former) (prefix_part name) (local_part name) ≡ None)
    (a : ℕ) (found : attribute_meant before.nodes n (prefix_part former) (local_part former) ≡ Some a) where
  abbrev T : Table
  T = before.nodes

  abbrev prefix : List ℕ
  prefix = prefix_part name

  abbrev local : List ℕ
  local = local_part name

  abbrev new : Name
  new = attribute_name_at T n prefix local

  abbrev U : Table
  U = renamed T a new

  may : MayRename T a new
  may = may-rename-attribute T n a (prefix_part former) (local_part former) prefix local form free found

  alone : name_refusal T n prefix local ≡ None
  alone = free-name T n (prefix_part former) (local_part former) prefix local free

  kind : kind_of T n ≡ Some Element
  kind = owner T n prefix local alone

  among : In a (attrs_of T n)
  among = mem-In a (attrs_of T n) (found-member T n a (prefix_part former) (local_part former) found)

  old : IsOwn T n a
  old = own splits T n a form scoped among

  abbrev nm : Name
  nm = (pair_of T a).0

  abbrev written : List ℕ
  written = written_in (name_of T a)

  kind-there : kind_of U n ≡ Some Element
  kind-there = kind-after T a new form may n ∙ kind

  scope-there : scope_at U n ≡ scope_at T n
  scope-there = scope-after T a new form may n (holder-live T n (ap holds_kids kind))

  -- the new name means it, and its own name means no other
  meant-new : attribute_meant U n prefix local ≡ Some a
  meant-new =
      meant-is U n a prefix new (well-formed U (tree-after T a new form may)) (subst (In a) (sym (attributes-after T a new form may n)) among)
      (name-renamed T a new may)
      (ap (λ s. attribute_namespace s prefix) scope-there ∙ known T n prefix local alone)

  no-other : (c : ℕ) → mem c (attrs_of T n) ≡ true → has_name U c nm.uri nm.local ≡ true → a ≡ c
  no-other c there pass =
      ⊎_elim (λ (e : c ≡ a). sym e)
      (λ (ne : c ≢ a).
      sym (form.names_differ n c a there (found-member T n a (prefix_part former) (local_part former) found)
      (ap expanded_in (sym (name-other T a new may c ne)) ∙ (expanded-has U c nm.uri nm.local pass ∙ sym (ap expanded_in old.name)))))
      (eq_or c a)

  meant-own : attribute_meant U n (prefix_part written) (local_part written) ≡ attribute_in U n (Some nm.uri) nm.local
  meant-own =
      ap₂ (attribute_meant U n) old.prefix old.local ∙ ap (λ uri. attribute_in U n uri nm.local) (own-known T n a old U kind-there scope-there)

  one : are_two (attribute_meant U n prefix local) (attribute_meant U n (prefix_part written) (local_part written)) ≡ false
  one = ap₂ are_two meant-new meant-own ∙ by (attribute_in U n (Some nm.uri) nm.local) refl
    where
      by : (o : Option ℕ) → attribute_in U n (Some nm.uri) nm.local ≡ o → are_two (Some a) o ≡ false
      by None e = refl
      by (Some c) e =
          let first = find-in (λ d. has_name U d nm.uri nm.local) (attrs_of U n) c e in
          ap not (eq-eqb a c (no-other c (subst (λ l. mem c l ≡ true) (attributes-after T a new form may n) first.0) first.1))

  free-after : attribute_renaming_refusal U n prefix local (prefix_part written) (local_part written) ≡ None
  free-after =
      ap₂ option_or
      (both-free U n prefix local (prefix_part written) (local_part written)
      (refusal-kept T U n prefix local (kind-after T a new form may n) scope-there ∙ alone)
      (own-free T n a old U kind-there scope-there) one)
      (ap absence_refusal meant-new)

  name-is : attribute_name_at U n (prefix_part written) (local_part written) ≡ nm
  name-is =
      ap₂ (attribute_name_at U n) old.prefix old.local
      ∙ ap (λ (o : Option (List ℕ)). record { prefix = nm.prefix; local = nm.local; uri = unwrap_or o [] }) (own-known T n a old U kind-there scope-there)

  again : attribute_renamed U n prefix local (prefix_part written) (local_part written) ≡ T
  again = ap₂ (with_other_name U) meant-new name-is ∙ renamed-back T a nm new old.name

  pub attribute-undone : (after : Contents) → after.nodes ≡ U → TakesBack before after (RenameAttr path name written ∷ []) 0
  attribute-undone after is =
      let command : Command = RenameAttr path name written in
      let changed : Contents = record after { nodes = U } in
      let end : Table = attribute_renamed U n prefix local (prefix_part written) (local_part written) in
      let named-after : node_named U path ≡ Some n = path-after T a new form may path ∙ named in
      let done : IsEdited U command end = record { node = n; named = named-after; edited = refl } in
      subst (λ V. TakesBack before (record after { nodes = V }) (command ∷ []) 0) (sym is)
      (one-done before changed end command 0 (ap (refusal_where changed command) named-after ∙ free-after) done
      (subst (SameTree T) (sym again) (same-lines-same-tree T T form form refl)) (omega (arith, ap length again, renamed-length T a new)))

pub attribute-renames-are-undone : QNamesSplit → AttributeRenamesAreUndone
attribute-renames-are-undone splits before after path former name n form scoped named free edited =
    subst
    (λ o. TakesBack before after (undoing_where before.nodes (RenameAttr path former name) o) (numbers_where before.nodes (RenameAttr path former name) o))
    (sym named)
    (by (attribute_meant before.nodes n (prefix_part former) (local_part former)) refl is)
  where
    node : edited.node ≡ n
    node = ap (λ (o : Option ℕ). unwrap_or o 0) (sym edited.named ∙ named)

    is : after.nodes ≡ attribute_renamed before.nodes n (prefix_part former) (local_part former) (prefix_part name) (local_part name)
    is =
        subst (λ m. after.nodes ≡ attribute_renamed before.nodes m (prefix_part former) (local_part former) (prefix_part name) (local_part name))
        node edited.edited

    both : (name_pair_refusal before.nodes n (prefix_part former) (local_part former) (prefix_part name) (local_part name) ≡ None)
        × (absence_refusal (attribute_meant before.nodes n (prefix_part former) (local_part former)) ≡ None)
    both =
        or-none (name_pair_refusal before.nodes n (prefix_part former) (local_part former) (prefix_part name) (local_part name))
        (absence_refusal (attribute_meant before.nodes n (prefix_part former) (local_part former)))
        (ap (refusal_where before (RenameAttr path former name)) (sym named) ∙ free)

    by : (o : Option ℕ) → attribute_meant before.nodes n (prefix_part former) (local_part former) ≡ o →
        after.nodes ≡ with_other_name before.nodes o (attribute_name_at before.nodes n (prefix_part name) (local_part name)) →
        TakesBack before after (attribute_renaming_undone path name before.nodes o) 0
    by None e same = absurd (true≢false (ap is_some (sym (ap absence_refusal e) ∙ both.1)))
    by (Some a) e same = attribute-undone splits before path former name n form scoped named both.0 a e after same
