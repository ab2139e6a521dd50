-- A node with another name stays in scope, where the name is in scope at its place.
use Rattle.std.proofs.Common.{◌≡◌, ◌≢◌, ℕ, true, List, [], ◌++◌, Option, None, Some, refl, sym, ap, ◌∙◌, subst, ⊎_elim}
use Rattle.doc_table.specs.declared.kind.Kind.TheVariants.{Attribute, Element}
use Rattle.doc_table.specs.Laws.{WellFormed}
use Rattle.doc_table.specs.Lists.{mem}
use Rattle.doc_table.specs.Table.{Content, Facts, Name, Table, attribute, attrs_of, comment, content_at, content_of, decls_at, decls_in, element, entry_at, instruction, is_live, kind_at, root, text}
use Rattle.doc_table.specs.inner.Sound.{Formed}
use Rattle.doc_table.proofs.Forests.{formed-of}
use Rattle.doc_table.proofs.ListLemmas.{eq_or}
use Rattle.doc_tree.specs.Scope.{Decl, attribute_namespace, namespace_in, scope_at, xmlns_prefix}
use Rattle.doc_edits.specs.Changes.{renamed, renaming, with_name}
use Rattle.doc_edits.specs.Keeping.{RenamesKeepTrees}
use Rattle.doc_edits.proofs.RecontentLemmas.{same-links}
use Rattle.doc_edits.proofs.RenamingLemmas.{named-live, renaming-kind}
use Rattle.doc_edits.proofs.TableLemmas.{changed-here, changed-other, changed-word}
use Rattle.name_scopes.specs.Scoping.{ContentInScope, InScope, NodeInScope, is_qualified}
use Rattle.name_scopes_laws.specs.Scopes.{RenamesKeepScope}
use Rattle.name_scopes_laws.proofs.ScopeLemmas.{Keeps, kept-scoped, placed, same-scope, scope-under}

renaming-decls : (new : Name) (c : Content) → decls_in (renaming new c) ≡ decls_in c
renaming-decls new root = refl
renaming-decls new (element _ _) = refl
renaming-decls new (attribute _ _) = refl
renaming-decls new (text _) = refl
renaming-decls new (comment _) = refl
renaming-decls new (instruction _ _) = refl

name-decls : (new : Name) (o : Option Facts) → decls_at (content_at (with_name new o)) ≡ decls_at (content_at o)
name-decls new None = refl
name-decls new (Some node) = renaming-decls new node.content

renamed-keeps : (name : Name) (T : Table) (n m : ℕ) → Keeps T (renamed T n name) m
renamed-keeps name T n m = record {
  parent = (same-links (renaming name) (renaming-kind name) T n m).parent;
  decls = changed-word (λ o. decls_at (content_at o)) (with_name name) (name-decls name) T n m;
}

-- a name in scope in the place of another: an element's, which keeps its declarations
module _ (scope : List Decl) (name : Name) (qualified : is_qualified name ≡ true) where
  element-content : namespace_in scope name.prefix ≡ Some name.uri → (c : Content) → kind_at (Some c) ≡ Some Element →
      ContentInScope scope (Some c) → ContentInScope scope (Some (renaming name c))
  element-content known root h g = absurd (cc)
  element-content known (element old decls) h g = record { named = qualified; namespace = known; declared = g.declared; once = g.once }
  element-content known (attribute old value) h g = absurd (cc)
  element-content known (text characters) h g = absurd (cc)
  element-content known (comment characters) h g = absurd (cc)
  element-content known (instruction target body) h g = absurd (cc)

  element-scoped : namespace_in scope name.prefix ≡ Some name.uri → (o : Option Facts) → kind_at (content_at o) ≡ Some Element →
      ContentInScope scope (content_at o) → ContentInScope scope (content_at (with_name name o))
  element-scoped known None h g = tt
  element-scoped known (Some node) h g = element-content known node.content h g

  -- and an attribute's, which keeps its value
  attribute-content : attribute_namespace scope name.prefix ≡ Some name.uri → (name.prefix ≡ [] → name.local ≢ xmlns_prefix) → (c : Content) →
      kind_at (Some c) ≡ Some Attribute → ContentInScope scope (Some c) → ContentInScope scope (Some (renaming name c))
  attribute-content known plain root h g = absurd (cc)
  attribute-content known plain (element old decls) h g = absurd (cc)
  attribute-content known plain (attribute old value) h g = record { named = qualified; namespace = known; no_declaration = plain; made = g.made }
  attribute-content known plain (text characters) h g = absurd (cc)
  attribute-content known plain (comment characters) h g = absurd (cc)
  attribute-content known plain (instruction target body) h g = absurd (cc)

  attribute-scoped : attribute_namespace scope name.prefix ≡ Some name.uri → (name.prefix ≡ [] → name.local ≢ xmlns_prefix) → (o : Option Facts) →
      kind_at (content_at o) ≡ Some Attribute → ContentInScope scope (content_at o) → ContentInScope scope (content_at (with_name name o))
  attribute-scoped known plain None h g = tt
  attribute-scoped known plain (Some node) h g = attribute-content known plain node.content h g

-- all others keep their scopes and their contents
renamed-scoped : (T : Table) (n : ℕ) (name : Name) → Formed T → Formed (renamed T n name) → is_live T n ≡ true → InScope T →
    ContentInScope (scope_at T n) (content_at (with_name name (entry_at T n))) → InScope (renamed T n name)
renamed-scoped T n name formed after live scoped here m =
    let same : (k : ℕ) → is_live T k ≡ true → scope_at (renamed T n name) k ≡ scope_at T k =
    λ k alive. same-scope T (renamed T n name) formed.forest after.forest formed.whole after.whole (λ j l. renamed-keeps name T n j) k alive in
    ⊎_elim
    (λ (e : m ≡ n).
    subst (NodeInScope (renamed T n name)) (sym e)
    (placed (renamed T n name) n (scope_at T n) (content_at (with_name name (entry_at T n))) (same n live)
    (ap content_at (changed-here T n (with_name name) live)) here))
    (λ (ne : m ≢ n). kept-scoped T (renamed T n name) m (ap content_at (changed-other T n (with_name name) m ne)) (same m) (scoped m))
    (eq_or m n)

-- an attribute declares nothing, so that the scope at it is that at its element
attribute-decls : (o : Option Content) → kind_at o ≡ Some Attribute → decls_at o ≡ []
attribute-decls None h = refl
attribute-decls (Some root) h = refl
attribute-decls (Some (element _ _)) h = absurd (cc)
attribute-decls (Some (attribute _ _)) h = refl
attribute-decls (Some (text _)) h = refl
attribute-decls (Some (comment _)) h = refl
attribute-decls (Some (instruction _ _)) h = refl

element-scope : (T : Table) (a n : ℕ) → WellFormed T → mem a (attrs_of T n) ≡ true → scope_at T n ≡ scope_at T a
element-scope T a n form member =
    let formed : Formed T = formed-of T form in
    sym (scope-under T formed.forest formed.whole a n (form.attribute_parent n a member)
    ∙ ap (λ (l : List Decl). l ++ scope_at T n) (attribute-decls (content_of T a) (form.attribute_kind n a member)))

pub renames-keep-scope : RenamesKeepTrees → RenamesKeepScope
renames-keep-scope renames = record {
  element = λ T n name form scoped may kind qualified known.
      renamed-scoped T n name (formed-of T form) (formed-of (renamed T n name) (renames T n name form may)) (named-live T n may.named) scoped
      (element-scoped (scope_at T n) name qualified known (entry_at T n) kind (scoped n));
  attribute = λ T a n name form scoped may member qualified known plain.
      renamed-scoped T a name (formed-of T form) (formed-of (renamed T a name) (renames T a name form may)) (named-live T a may.named) scoped
      (attribute-scoped (scope_at T a) name qualified
      (subst (λ (s : List Decl). attribute_namespace s name.prefix ≡ Some name.uri) (element-scope T a n form member) known) plain
      (entry_at T a) (form.attribute_kind n a member) (scoped a));
}
