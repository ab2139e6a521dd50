-- The attributes of an element in scope, by their own names.
use Rattle.std.proofs.Common.{◌≡◌, ◌≢◌, ℕ, suc, List, [], ◌∷◌, ◌++◌, take, drop, Option, None, Some, refl, sym, ap, ap₂, ◌∙◌, subst, ⊎_elim, arith, unwrap_or}
use Rattle.sch_base.specs.Names.{QNamesSplit}
use Rattle.doc_table.proofs.DeclareLemmas.{has-scopes}
use Rattle.doc_table.proofs.Forests.{formed-of}
use Rattle.doc_table.proofs.ListLemmas.{In, In-mem, eq_or, occurs-other}
use Rattle.doc_edits.proofs.NumberingLemmas.{place-head, place-tail}
use Rattle.doc_tree.specs.kind.Kind.TheVariants.{Attribute, Element}
use Rattle.doc_tree.specs.Laws.{WellFormed}
use Rattle.doc_tree.specs.Lists.{place_in}
use Rattle.doc_tree.specs.QNames.{written_in}
use Rattle.doc_tree.specs.Refusals.{name_refusal}
use Rattle.doc_tree.specs.Scope.{Decl, attribute_namespace, scope_at}
use Rattle.doc_tree.specs.Table.{Content, Name, Table, attribute, attrs_of, comment, content_of, decls_at, element, instruction, kind_at, kind_of, name_at, name_of, no_name, root, text, value_at, value_of}
use Rattle.doc_undo_laws.specs.Undoing.{Pair}
use Rattle.name_scopes.specs.QNames.{local_part, prefix_part}
use Rattle.name_scopes.specs.Scoping.{AttributeInScope, ContentInScope, InScope}
use Rattle.name_scopes.proofs.ItemNames.{Spelled, spelled}
use Rattle.edit_paths.specs.Entries.{behind}
use Rattle.edit_undo_laws.proofs.AttributesFound.{name-free}

-- a list around one of its numbers
pub split-placed : (n : ℕ) (xs : List ℕ) → In n xs → xs ≡ take (place_in n xs) xs ++ n ∷ behind n xs
split-placed n [] h = absurd (omega (arith, h))
split-placed n (x ∷ xs) h =
    ⊎_elim
    (λ (e : n ≡ x). ap (λ m. m ∷ xs) (sym e) ∙ sym (ap (λ i. take i (x ∷ xs) ++ n ∷ drop (suc i) (x ∷ xs)) (place-head n x xs e)))
    (λ (ne : n ≢ x).
    let i : place_in n (x ∷ xs) ≡ suc (place_in n xs) = place-tail n x xs ne in
    ap (λ l. x ∷ l) (split-placed n xs (omega (arith, h, occurs-other n x xs ne)))
    ∙ sym (ap (λ i. take i (x ∷ xs) ++ n ∷ drop (suc i) (x ∷ xs)) i))
    (eq_or n x)

-- what an attribute is
abbrev pub pair_of : Table → ℕ → Pair
pair_of T a = (unwrap_or (name_of T a) no_name, value_of T a)

record IsPair (c : Option Content) : Type 0 where
  content : c ≡ Some (attribute (unwrap_or (name_at c) no_name) (value_at c))
  name : name_at c ≡ Some (unwrap_or (name_at c) no_name)
  decls : decls_at c ≡ []

is-pair : (c : Option Content) → kind_at c ≡ Some Attribute → IsPair c
is-pair None kind = absurd (cc)
is-pair (Some root) kind = absurd (cc)
is-pair (Some (element name decls)) kind = absurd (cc)
is-pair (Some (attribute name value)) kind = record { content = refl; name = refl; decls = refl }
is-pair (Some (text characters)) kind = absurd (cc)
is-pair (Some (comment characters)) kind = absurd (cc)
is-pair (Some (instruction name body)) kind = absurd (cc)

pub record IsOwn (T : Table) (n a : ℕ) : Type 0 where
  pub content : content_of T a ≡ Some (attribute (pair_of T a).0 (value_of T a))
  pub name : name_of T a ≡ Some (pair_of T a).0
  pub fits : AttributeInScope (scope_at T n) (pair_of T a).0 (value_of T a)
  pub prefix : prefix_part (written_in (name_of T a)) ≡ (pair_of T a).0.prefix
  pub local : local_part (written_in (name_of T a)) ≡ (pair_of T a).0.local

pub own : QNamesSplit → (T : Table) (n a : ℕ) → WellFormed T → InScope T → In a (attrs_of T n) → IsOwn T n a
own splits T n a form scoped h =
    let is : IsPair (content_of T a) = is-pair (content_of T a) (form.attribute_kind n a (In-mem a (attrs_of T n) h)) in
    let scope : scope_at T a ≡ scope_at T n =
    (has-scopes T (formed-of T form)).under a n (form.attribute_parent n a (In-mem a (attrs_of T n) h)) ∙ ap (λ (ds : List Decl). ds ++ scope_at T n) is.decls in
    let there : AttributeInScope (scope_at T a) (pair_of T a).0 (value_of T a) = subst (λ (c : Option Content). ContentInScope (scope_at T a) c) is.content (scoped a) in
    let fits : AttributeInScope (scope_at T n) (pair_of T a).0 (value_of T a) = subst (λ (s : List Decl). AttributeInScope s (pair_of T a).0 (value_of T a)) scope there in
    let name : Spelled (pair_of T a).0 = spelled splits (pair_of T a).0 fits.named in
    record {
      content = is.content;
      name = is.name;
      fits = fits;
      prefix = ap (λ o. prefix_part (written_in o)) is.name ∙ name.prefix;
      local = ap (λ o. local_part (written_in o)) is.name ∙ name.local;
    }

-- in a table with the element in the same scope
module _ (T : Table) (n a : ℕ) (is : IsOwn T n a) (V : Table) (kind : kind_of V n ≡ Some Element) (scope : scope_at V n ≡ scope_at T n) where
  abbrev nm : Name
  nm = (pair_of T a).0

  abbrev written : List ℕ
  written = written_in (name_of T a)

  pub own-known : attribute_namespace (scope_at V n) nm.prefix ≡ Some nm.uri
  own-known = ap (λ s. attribute_namespace s nm.prefix) scope ∙ is.fits.namespace

  pub own-free : name_refusal V n (prefix_part written) (local_part written) ≡ None
  own-free =
      ap₂ (name_refusal V n) is.prefix is.local
      ∙ name-free V n nm (value_of T a) kind (subst (λ (s : List Decl). AttributeInScope s nm (value_of T a)) (sym scope) is.fits)
