-- An element that got another name has its own again.
use Rattle.std.proofs.Common.{◌≡◌, ℕ, Bool, true, false, not, ◌&&◌, List, [], ◌∷◌, length, Option, None, Some, is_none, is_some, refl, sym, ap, ap₂, ◌∙◌, subst, true≢false, arith, unwrap_or}
use Rattle.std.specs.Str.{bytes_eq}
use Rattle.sch_base.specs.Names.{QNamesSplit}
use Rattle.doc_table.proofs.Appending.{holder-live}
use Rattle.doc_table.proofs.Forests.{formed-of}
use Rattle.doc_table.proofs.SameTreeLemmas.{same-lines-same-tree}
use Rattle.doc_table.specs.inner.Sound.{Formed}
use Rattle.doc_edits.specs.Changes.{renamed, renaming, with_name}
use Rattle.doc_edits.specs.Fitting.{MayRename}
use Rattle.doc_edits.proofs.RecontentLemmas.{same-kind, same-links}
use Rattle.doc_edits.proofs.RenamingLemmas.{renames-keep-trees, renaming-kind}
use Rattle.doc_edits.proofs.TableLemmas.{changed-word}
use Rattle.doc_tree.specs.kind.Kind.TheVariants.{Element}
use Rattle.doc_tree.specs.declared.refusal.EditRefusal.TheVariants.{WrongKind, NoPrefix, XmlnsName}
use Rattle.doc_tree.specs.Edited.{element_name_at, element_renamed}
use Rattle.doc_tree.specs.Kinds.{holds_kids, is_element}
use Rattle.doc_tree.specs.Laws.{WellFormed}
use Rattle.doc_tree.specs.QNames.{written_in}
use Rattle.doc_tree.specs.Refusals.{is_unbound, renaming_refusal}
use Rattle.doc_tree.specs.SameTree.{SameTree}
use Rattle.doc_tree.specs.Scope.{Decl, attribute_namespace, namespace_at, namespace_in, scope_at, xmlns_prefix}
use Rattle.doc_tree.specs.Table.{Content, Contents, Facts, Name, Table, attribute, attrs_of, comment, content_at, content_of, decls_at, decls_in, element, instruction, is_live, kind_at, kind_of, name_at, name_of, root, text}
use Rattle.doc_tree.proofs.RefusalLemmas.{is-element, none-of-three, not-true}
use Rattle.doc_tree.proofs.RenamingLemmas.{may-rename}
use Rattle.doc_undo_laws.proofs.ContentBack.{renamed-back}
use Rattle.name_scopes.specs.QNames.{local_part, prefix_part}
use Rattle.name_scopes.specs.Scoping.{ContentInScope, InScope, is_qualified}
use Rattle.name_scopes.proofs.ItemNames.{Spelled, spelled}
use Rattle.edit_script.specs.declared.command.Command.{Command}
use Rattle.edit_script.specs.declared.command.Command.TheVariants.{Rename}
use Rattle.edit_script.specs.declared.command.PathStep.{PathStep}
use Rattle.edit_commands.specs.Commands.{IsEdited, refusal_where}
use Rattle.edit_commands.specs.Paths.{node_named}
use Rattle.edit_iso_laws.proofs.GoingOnLemmas.{renamed-length}
use Rattle.edit_paths.specs.Entries.{numbers_where, undoing_where}
use Rattle.edit_undo_laws.specs.Undoing.{RenamesAreUndone, TakesBack}
use Rattle.edit_undo_laws.proofs.ScopesKept.{scope-kept}
use Rattle.edit_undo_laws.proofs.SettingUndone.{one-done}
use Rattle.edit_undo_laws.proofs.TextUndone.{led-same}

-- another name keeps the declarations
renaming-decls : (new : Name) (c : Content) → decls_in (renaming new c) ≡ decls_in c
renaming-decls new root = refl
renaming-decls new (element name decls) = refl
renaming-decls new (attribute name value) = refl
renaming-decls new (text characters) = refl
renaming-decls new (comment characters) = refl
renaming-decls new (instruction name body) = refl

name-decls : (new : Name) (o : Option Facts) → decls_at (content_at (with_name new o)) ≡ decls_at (content_at o)
name-decls new None = refl
name-decls new (Some node) = renaming-decls new node.content

-- and the scopes, kinds, attributes and paths
module _ (T : Table) (a : ℕ) (new : Name) (form : WellFormed T) (may : MayRename T a new) where
  pub tree-after : Formed (renamed T a new)
  tree-after = renames-keep-trees T a new may (formed-of T form)

  pub scope-after : (n : ℕ) → is_live T n ≡ true → scope_at (renamed T a new) n ≡ scope_at T n
  scope-after n live =
      scope-kept T (renamed T a new) (formed-of T form) tree-after
      (λ m lives. record {
        parent = (same-links (renaming new) (renaming-kind new) T a m).parent;
        decls = changed-word (λ o. decls_at (content_at o)) (with_name new) (name-decls new) T a m;
      }) n live

  pub kind-after : (n : ℕ) → kind_of (renamed T a new) n ≡ kind_of T n
  kind-after n = same-kind (renaming new) (renaming-kind new) T a n

  pub attributes-after : (n : ℕ) → attrs_of (renamed T a new) n ≡ attrs_of T n
  attributes-after n = (same-links (renaming new) (renaming-kind new) T a n).attributes

  pub path-after : (path : List PathStep) → node_named (renamed T a new) path ≡ node_named T path
  path-after path = led-same T (renamed T a new) (λ m. (same-links (renaming new) (renaming-kind new) T a m).kids) kind-after (Some 0) path

-- the own name of an element in scope
pub record IsCalled (scope : List Decl) (o : Option Name) : Type 0 where
  pub name : Name
  pub is : o ≡ Some name
  pub qualified : is_qualified name ≡ true
  pub known : namespace_in scope name.prefix ≡ Some name.uri

called-by : (scope : List Decl) (o : Option Content) → kind_at o ≡ Some Element → ContentInScope scope o → IsCalled scope (name_at o)
called-by scope None kind fits = absurd (cc)
called-by scope (Some root) kind fits = absurd (cc)
called-by scope (Some (element name decls)) kind fits = record { name = name; is = refl; qualified = fits.named; known = fits.namespace }
called-by scope (Some (attribute name value)) kind fits = absurd (cc)
called-by scope (Some (text characters)) kind fits = absurd (cc)
called-by scope (Some (comment characters)) kind fits = absurd (cc)
called-by scope (Some (instruction name body)) kind fits = absurd (cc)

pub called : (T : Table) (n : ℕ) → InScope T → kind_of T n ≡ Some Element → IsCalled (scope_at T n) (name_of T n)
called T n scoped kind = called-by (scope_at T n) (content_of T n) kind (scoped n)

-- it is that of an element that is renamed
pub renamed-element : (T : Table) (n : ℕ) (prefix : List ℕ) → renaming_refusal T n prefix ≡ None → kind_of T n ≡ Some Element
renamed-element T n prefix free =
    is-element (kind_of T n) (not-true (is_element (kind_of T n))
    (none-of-three (not (is_element (kind_of T n))) (is_unbound T n prefix) (bytes_eq prefix xmlns_prefix) WrongKind NoPrefix XmlnsName free).0)

-- a prefix in scope is not `xmlns`, and is one that an attribute may have
no-xmlns : (scope : List Decl) (prefix uri : List ℕ) → namespace_in scope prefix ≡ Some uri → bytes_eq prefix xmlns_prefix ≡ false
no-xmlns scope prefix uri known = by (bytes_eq prefix xmlns_prefix) refl
  where
    by : (b : Bool) → bytes_eq prefix xmlns_prefix ≡ b → b ≡ false
    by false e = refl
    by true e = let none : namespace_in scope prefix ≡ None = rw e refl in absurd (true≢false (ap is_some (sym known ∙ none)))

bound-for : (scope : List Decl) (prefix uri : List ℕ) → namespace_in scope prefix ≡ Some uri → is_none (attribute_namespace scope prefix) ≡ false
bound-for scope [] uri known = refl
bound-for scope (b ∷ prefix) uri known = ap is_none known

and-no : (a b : Bool) → b ≡ false → (a && b) ≡ false
and-no true b e = e
and-no false b e = refl

-- nothing speaks against the name of an element in scope
own-name-free : (T : Table) (n : ℕ) (prefix uri : List ℕ) → kind_of T n ≡ Some Element → namespace_at T n prefix ≡ Some uri → renaming_refusal T n prefix ≡ None
own-name-free T n prefix uri kind known =
    let holds : not (is_element (kind_of T n)) ≡ false = ap (λ k. not (is_element k)) kind in
    let bound : is_unbound T n prefix ≡ false =
    and-no (not (bytes_eq prefix xmlns_prefix)) (is_none (attribute_namespace (scope_at T n) prefix)) (bound-for (scope_at T n) prefix uri known) in
    rw (holds, bound, no-xmlns (scope_at T n) prefix uri known) refl

module _ (splits : QNamesSplit) (before : Contents) (path : List PathStep) (name : List ℕ) (n : ℕ) (form : WellFormed before.nodes)
    (scoped : InScope before.nodes) (named : node_named before.nodes path ≡ Some n) (free : renaming_refusal before.nodes n (prefix_part name) ≡ None) where
  abbrev T : Table
  T = before.nodes

  abbrev new : Name
  new = element_name_at T n (prefix_part name) (local_part name)

  abbrev U : Table
  U = renamed T n new

  may : MayRename T n new
  may = may-rename T n (prefix_part name) (local_part name) form free

  kind : kind_of T n ≡ Some Element
  kind = renamed-element T n (prefix_part name) free

  old : IsCalled (scope_at T n) (name_of T n)
  old = called T n scoped kind

  spells : Spelled old.name
  spells = spelled splits old.name old.qualified

  abbrev written : List ℕ
  written = written_in (name_of T n)

  prefix-is : prefix_part written ≡ old.name.prefix
  prefix-is = ap (λ o. prefix_part (written_in o)) old.is ∙ spells.prefix

  local-is : local_part written ≡ old.name.local
  local-is = ap (λ o. local_part (written_in o)) old.is ∙ spells.local

  known-after : namespace_at U n old.name.prefix ≡ Some old.name.uri
  known-after = ap (λ s. namespace_in s old.name.prefix) (scope-after T n new form may n (holder-live T n (ap holds_kids kind))) ∙ old.known

  free-after : renaming_refusal U n (prefix_part written) ≡ None
  free-after = ap (renaming_refusal U n) prefix-is ∙ own-name-free U n old.name.prefix old.name.uri (kind-after T n new form may n ∙ kind) known-after

  name-is : element_name_at U n (prefix_part written) (local_part written) ≡ old.name
  name-is =
      ap₂ (element_name_at U n) prefix-is local-is
      ∙ ap (λ (o : Option (List ℕ)). record { prefix = old.name.prefix; local = old.name.local; uri = unwrap_or o [] }) known-after

  again : element_renamed U n (prefix_part written) (local_part written) ≡ T
  again = ap (renamed U n) name-is ∙ renamed-back T n old.name new old.is

  pub element-undone : (after : Contents) → after.nodes ≡ U → TakesBack before after (Rename path written ∷ []) 0
  element-undone after is =
      let command : Command = Rename path written in
      let changed : Contents = record after { nodes = U } in
      let end : Table = element_renamed U n (prefix_part written) (local_part written) in
      let named-after : node_named U path ≡ Some n = path-after T n new form may path ∙ named in
      let done : IsEdited U command end = record { node = n; named = named-after; edited = refl } in
      subst (λ V. TakesBack before (record after { nodes = V }) (command ∷ []) 0) (sym is)
      (one-done before changed end command 0 (ap (refusal_where changed command) named-after ∙ free-after) done
      (subst (SameTree T) (sym again) (same-lines-same-tree T T form form refl)) (omega (arith, ap length again, renamed-length T n new)))

pub renames-are-undone : QNamesSplit → RenamesAreUndone
renames-are-undone splits before after path name n form scoped named free edited =
    let T : Table = before.nodes in
    let node : edited.node ≡ n = ap (λ (o : Option ℕ). unwrap_or o 0) (sym edited.named ∙ named) in
    let is : after.nodes ≡ element_renamed T n (prefix_part name) (local_part name) =
    subst (λ m. after.nodes ≡ element_renamed T m (prefix_part name) (local_part name)) node edited.edited in
    let free-at : renaming_refusal T n (prefix_part name) ≡ None = ap (refusal_where before (Rename path name)) (sym named) ∙ free in
    subst (λ o. TakesBack before after (undoing_where T (Rename path name) o) (numbers_where T (Rename path name) o)) (sym named)
    (element-undone splits before path name n form scoped named free-at after is)
