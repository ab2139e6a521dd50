-- An element or an attribute gets another name.
use Rattle.std.proofs.Common.{◌≡◌, ℕ, true, false, not, ◌||◌, List, [], ◌∷◌, Option, None, Some, is_none, is_some, refl, sym, ap, ◌∙◌, subst, true≢false, unwrap_or}
use Rattle.std.specs.Option.{option_or}
use Rattle.std.specs.Str.{bytes_eq}
use Rattle.pyx_core.specs.Nesting.{is_name}
use Rattle.doc_table.specs.Laws.{WellFormed}
use Rattle.doc_tree.specs.declared.refusal.EditRefusal.TheVariants.{WrongKind, NoPrefix, SameAttribute, XmlnsName}
use Rattle.doc_tree.specs.kind.Kind.TheVariants.{Element}
use Rattle.doc_tree.specs.Edited.{attribute_name_at, attribute_renamed, element_name_at, element_renamed, with_other_name}
use Rattle.doc_tree.specs.Kinds.{is_element}
use Rattle.doc_tree.specs.Lists.{mem}
use Rattle.doc_tree.specs.NameTests.{attribute_meant}
use Rattle.doc_tree.specs.Refusals.{absence_refusal, are_two, attribute_renaming_refusal, declares_namespace, is_unbound, name_pair_refusal, name_refusal, renaming_refusal}
use Rattle.doc_tree.specs.Scope.{Decl, attribute_namespace, first_declared, namespace_at, namespace_in, scope_at, xml_prefix, xmlns_prefix}
use Rattle.doc_tree.specs.Table.{Contents, Name, Table, attrs_of, kind_of}
use Rattle.doc_tree.proofs.AttributeLemmas.{found-member, known}
use Rattle.doc_tree.proofs.RefusalLemmas.{and-false, is-element, none-of-four, none-of-three, not-true, or-false, or-none}
use Rattle.doc_tree.proofs.RenamingLemmas.{may-rename, may-rename-attribute}
use Rattle.doc_edits.specs.Changes.{renamed}
use Rattle.doc_edits.specs.Fitting.{MayRename}
use Rattle.doc_edit_laws.specs.Along.{Edit, renames}
use Rattle.doc_edit_laws.specs.Touching.{touched_name}
use Rattle.name_scopes.specs.QNames.{local_part, prefix_part}
use Rattle.name_scopes.specs.Scoping.{InScope}
use Rattle.name_scopes.proofs.TagFacts.{parted}
use Rattle.name_scopes_laws.specs.Scopes.{RenamesKeepScope}
use Rattle.edit_script.specs.declared.command.Command.TheVariants.{Rename, RenameAttr}
use Rattle.edit_script.specs.declared.command.PathStep.{PathStep}
use Rattle.edit_commands.specs.declared.touched.Touched.TheVariants.{Named}
use Rattle.edit_commands.specs.Touched.{touched_renaming}
use Rattle.edit_commands.specs.inner.Done.{Done}
use Rattle.edit_commands.proofs.AttributeLemmas.{no-declaration}

there : (o : Option (List ℕ)) → is_none o ≡ false → o ≡ Some (unwrap_or o [])
there None h = absurd (true≢false h)
there (Some uri) h = refl

-- the empty prefix is in each scope
empty-xmlns : bytes_eq [] xmlns_prefix ≡ false
unfolding xmlns_prefix
empty-xmlns = refl

empty-xml : bytes_eq [] xml_prefix ≡ false
unfolding xml_prefix
empty-xml = refl

default-some : (scope : List Decl) → is_none (namespace_in scope []) ≡ false
default-some scope = rw (empty-xmlns, empty-xml) (by (first_declared scope []))
  where
    by : (o : Option (List ℕ)) → is_none (option_or o (Some [])) ≡ false
    by None = refl
    by (Some uri) = refl

-- a prefix that an attribute may have is one that an element may have
in-each : (scope : List Decl) (prefix : List ℕ) → is_none (attribute_namespace scope prefix) ≡ false → is_none (namespace_in scope prefix) ≡ false
in-each scope [] h = default-some scope
in-each scope (b ∷ prefix) h = h

-- a name of an element against which nothing speaks
module _ (T : Table) (n : ℕ) (prefix : List ℕ) (free : renaming_refusal T n prefix ≡ None) where
  parts : (not (is_element (kind_of T n)) ≡ false) × (is_unbound T n prefix ≡ false) × (bytes_eq prefix xmlns_prefix ≡ false)
  parts = none-of-three (not (is_element (kind_of T n))) (is_unbound T n prefix) (bytes_eq prefix xmlns_prefix) WrongKind NoPrefix XmlnsName free

  pub named-element : kind_of T n ≡ Some Element
  named-element = is-element (kind_of T n) (not-true (is_element (kind_of T n)) parts.0)

  -- its prefix is in scope
  pub prefix-known : namespace_at T n prefix ≡ Some (unwrap_or (namespace_at T n prefix) [])
  prefix-known =
      there (namespace_at T n prefix)
      (in-each (scope_at T n) prefix
      (and-false (not (bytes_eq prefix xmlns_prefix)) (is_none (attribute_namespace (scope_at T n) prefix)) parts.1 (ap not parts.2)))

pub rename-done : RenamesKeepScope → (before after : Contents) (n : ℕ) (name : List ℕ) → WellFormed before.nodes → is_name name ≡ true →
    renaming_refusal before.nodes n (prefix_part name) ≡ None → after.nodes ≡ element_renamed before.nodes n (prefix_part name) (local_part name) →
    (path : List PathStep) → Done before after (Rename path name) n (Named n)
rename-done scopes before after n name form spelt free done path =
    let called : Name = element_name_at before.nodes n (prefix_part name) (local_part name) in
    let may : MayRename before.nodes n called = may-rename before.nodes n (prefix_part name) (local_part name) form free in
    record {
      within = free;
      edited = done;
      holds = λ c. refl;
      edit = subst (λ (U : Table). Edit before.nodes U (touched_name n)) (sym done) (renames n called may);
      scope = λ s. subst InScope (sym done)
          (scopes.element before.nodes n called form s may (named-element before.nodes n (prefix_part name) free) (parted name spelt).qualified
          (prefix-known before.nodes n (prefix_part name) free));
    }

-- two names of an attribute against which nothing speaks: the second one alone
pub free-name : (T : Table) (n : ℕ) (old_prefix old_local prefix local : List ℕ) → name_pair_refusal T n old_prefix old_local prefix local ≡ None →
    name_refusal T n prefix local ≡ None
free-name T n old_prefix old_local prefix local free =
    let parts = none-of-four (not (is_element (kind_of T n))) (is_unbound T n old_prefix || is_unbound T n prefix)
    (are_two (attribute_meant T n old_prefix old_local) (attribute_meant T n prefix local))
    (declares_namespace old_prefix old_local || declares_namespace prefix local) WrongKind NoPrefix SameAttribute XmlnsName free in
    rw (
      parts.0,
      (or-false (is_unbound T n old_prefix) (is_unbound T n prefix) parts.1).1,
      (or-false (declares_namespace old_prefix old_local) (declares_namespace prefix local) parts.3).1,
    ) refl

module _ (before after : Contents) (n : ℕ) (old name : List ℕ)
    (free : attribute_renaming_refusal before.nodes n (prefix_part old) (local_part old) (prefix_part name) (local_part name) ≡ None)
    (found : Option ℕ) (is : found ≡ attribute_meant before.nodes n (prefix_part old) (local_part old)) where
  abbrev T : Table
  T = before.nodes

  abbrev meant : Option ℕ
  meant = attribute_meant T n (prefix_part old) (local_part old)

  abbrev called : Name
  called = attribute_name_at T n (prefix_part name) (local_part name)

  both : (name_pair_refusal T n (prefix_part old) (local_part old) (prefix_part name) (local_part name) ≡ None) × (absence_refusal meant ≡ None)
  both = or-none (name_pair_refusal T n (prefix_part old) (local_part old) (prefix_part name) (local_part name)) (absence_refusal meant) free

  alone : name_refusal T n (prefix_part name) (local_part name) ≡ None
  alone = free-name T n (prefix_part old) (local_part old) (prefix_part name) (local_part name) both.0

  -- the attribute is there
  pub is-there : found ≡ None → ⊥
  is-there none = true≢false (ap is_some (sym (ap absence_refusal (sym is ∙ none)) ∙ both.1))

  pub rename-attribute-done : RenamesKeepScope → WellFormed T → is_name name ≡ true →
      after.nodes ≡ attribute_renamed T n (prefix_part old) (local_part old) (prefix_part name) (local_part name) →
      (a : ℕ) → found ≡ Some a → (path : List PathStep) → Done before after (RenameAttr path old name) n (Named a)
  rename-attribute-done scopes form spelt done a here path =
      let at : meant ≡ Some a = sym is ∙ here in
      let new : after.nodes ≡ renamed T a called = done ∙ ap (λ o. with_other_name T o called) at in
      let member : mem a (attrs_of T n) ≡ true = found-member T n a (prefix_part old) (local_part old) at in
      let may : MayRename T a called = may-rename-attribute T n a (prefix_part old) (local_part old) (prefix_part name) (local_part name) form both.0 at in
      record {
        within = free;
        edited = done;
        holds = λ c. ap (λ o. touched_renaming o c) (sym at);
        edit = subst (λ (U : Table). Edit T U (touched_renaming meant)) (sym new) (subst (λ o. Edit T (renamed T a called) (touched_renaming o)) (sym at) (renames a called may));
        scope = λ s. subst InScope (sym new)
            (scopes.attribute T a n called form s may member (parted name spelt).qualified (known T n (prefix_part name) (local_part name) alone)
            (no-declaration T n (prefix_part name) (local_part name) alone));
      }
