-- A node against whose new name nothing speaks may have it.
use Rattle.std.proofs.Common.{◌≡◌, ℕ, true, false, not, ◌&&◌, ◌||◌, List, Option, None, Some, refl, sym, ap, ap₂, ◌∙◌, true≢false, eqb, eqb-true, unwrap_or}
use Rattle.std.specs.Str.{bytes_eq}
use Rattle.std.proofs.lemmas.Bool.{and_parts}
use Rattle.std.proofs.lemmas.Slice.Eq.{bytes_eq-Decides}
use Rattle.doc_table.specs.declared.kind.Kind.TheVariants.{Element, Attribute}
use Rattle.doc_table.specs.Kinds.{has_own_name, is_element, is_kind}
use Rattle.doc_table.specs.Laws.{WellFormed}
use Rattle.doc_table.specs.Lists.{mem}
use Rattle.doc_table.specs.Table.{Name, Table, attrs_of, expanded, expanded_in, expanded_of, kind_of, name_of}
use Rattle.doc_edits.specs.Fitting.{MayRename}
use Rattle.doc_tree.specs.declared.refusal.EditRefusal.TheVariants.{WrongKind, NoPrefix, SameAttribute, XmlnsName}
use Rattle.doc_tree.specs.Edited.{attribute_name_at, element_name_at}
use Rattle.doc_tree.specs.NameTests.{attribute_in, attribute_meant, has_name, named}
use Rattle.doc_tree.specs.Refusals.{are_two, declares_namespace, is_unbound, name_pair_refusal, name_refusal, renaming_refusal}
use Rattle.doc_tree.specs.Scope.{xmlns_prefix}
use Rattle.doc_tree.proofs.AttributeLemmas.{found-member, has-expanded, known}
use Rattle.doc_tree.proofs.RefusalLemmas.{find-in, find-none, is-element, none-of-four, none-of-three, not-true, or-false}

-- an element is no attribute
pub may-rename : (T : Table) (n : ℕ) (prefix local : List ℕ) → WellFormed T → renaming_refusal T n prefix ≡ None → MayRename T n (element_name_at T n prefix local)
may-rename T n prefix local wf free =
    let parts = none-of-three (not (is_element (kind_of T n))) (is_unbound T n prefix) (bytes_eq prefix xmlns_prefix) WrongKind NoPrefix XmlnsName free in
    let kind : kind_of T n ≡ Some Element = is-element (kind_of T n) (not-true (is_element (kind_of T n)) parts.0) in
    record {
      named = ap has_own_name kind;
      is_new = λ p a here there e. absurd (true≢false (sym (ap (is_kind Attribute) (wf.attribute_kind p n here)) ∙ ap (is_kind Attribute) kind));
    }

-- a node that passes the test of a name has that expanded name
expanded-has : (T : Table) (a : ℕ) (name : Name) → has_name T a name.uri name.local ≡ true → expanded_of T a ≡ Some (expanded name)
expanded-has T a name h = by (name_of T a) h
  where
    by : (found : Option Name) → named found (λ m. bytes_eq m.uri name.uri && bytes_eq m.local name.local) ≡ true → expanded_in found ≡ Some (expanded name)
    by None e = absurd (true≢false (sym e))
    by (Some m) e =
        let same = and_parts (bytes_eq m.uri name.uri) (bytes_eq m.local name.local) e in
        ap₂ (λ (u l : List ℕ). Some (u, l)) ((bytes_eq-Decides m.uri name.uri).0 same.0) ((bytes_eq-Decides m.local name.local).0 same.1)

module _ (T : Table) (n a : ℕ) (old_prefix old_local prefix local : List ℕ) (wf : WellFormed T)
    (free : name_pair_refusal T n old_prefix old_local prefix local ≡ None) (found : attribute_meant T n old_prefix old_local ≡ Some a) where
  parts : (not (is_element (kind_of T n)) ≡ false) × ((is_unbound T n old_prefix || is_unbound T n prefix) ≡ false)
      × (are_two (attribute_meant T n old_prefix old_local) (attribute_meant T n prefix local) ≡ false)
      × ((declares_namespace old_prefix old_local || declares_namespace prefix local) ≡ false)
  parts =
      none-of-four (not (is_element (kind_of T n))) (is_unbound T n old_prefix || is_unbound T n prefix)
      (are_two (attribute_meant T n old_prefix old_local) (attribute_meant T n prefix local))
      (declares_namespace old_prefix old_local || declares_namespace prefix local) WrongKind NoPrefix SameAttribute XmlnsName free

  -- nothing speaks against the new name by itself
  free-name : name_refusal T n prefix local ≡ None
  free-name =
      rw (
        parts.0,
        (or-false (is_unbound T n old_prefix) (is_unbound T n prefix) parts.1).1,
        (or-false (declares_namespace old_prefix old_local) (declares_namespace prefix local) parts.3).1,
      ) refl

  abbrev name : Name
  name = attribute_name_at T n prefix local

  member : mem a (attrs_of T n) ≡ true
  member = found-member T n a old_prefix old_local found

  named-so : attribute_in T n (Some name.uri) local ≡ attribute_meant T n prefix local
  named-so = ap (λ uri. attribute_in T n uri local) (sym (known T n prefix local free-name))

  -- an attribute of the element that has the new name is this one
  only : (b : ℕ) → mem b (attrs_of T n) ≡ true → expanded_of T b ≡ Some (expanded name) → b ≡ a
  only b there e = by (attribute_meant T n prefix local) refl
    where
      by : (o : Option ℕ) → attribute_meant T n prefix local ≡ o → b ≡ a
      by None none = absurd (true≢false
          (sym (has-expanded T b name e) ∙ find-none (λ d. has_name T d name.uri local) (attrs_of T n) (named-so ∙ none) b there))
      by (Some c) is =
          let first = find-in (λ d. has_name T d name.uri local) (attrs_of T n) c (named-so ∙ is) in
          let one : a ≡ c = eqb-true a c (not-true (eqb a c) (sym (ap₂ are_two found is) ∙ parts.2)) in
          wf.names_differ n b c there first.0 (e ∙ sym (expanded-has T c name first.1)) ∙ sym one

  pub may-rename-attribute : MayRename T a name
  may-rename-attribute = record {
    named = ap has_own_name (wf.attribute_kind n a member);
    is_new = λ p b here there e.
        let same : p ≡ n = ap (λ o. unwrap_or o 0) (sym (wf.attribute_parent p a here) ∙ wf.attribute_parent n a member) in
        only b (ap (λ q. mem b (attrs_of T q)) (sym same) ∙ there) e;
  }
