-- The attribute that a name means, and what speaks against a name.
use Rattle.std.proofs.Common.{◌≡◌, ◌≢◌, ℕ, Bool, true, false, cond, not, ◌&&◌, List, [], ◌∷◌, Option, None, Some, refl, sym, ap, ap₂, ◌∙◌, ⊎_elim, true≢false, arith, find, is_none, is_some}
use Rattle.std.specs.Prelude.{if◌then◌else◌}
use Rattle.std.specs.Str.{bytes_eq}
use Rattle.std.proofs.lemmas.Bool.{and_parts, false_from_ne_true}
use Rattle.std.proofs.lemmas.Slice.Eq.{bytes_eq-Decides}
use Rattle.doc_table.proofs.ListLemmas.{In, In-cons, In-mem, occurs-head}
use Rattle.doc_tree.specs.kind.Kind.{Kind}
use Rattle.doc_tree.specs.kind.Kind.TheVariants.{Element}
use Rattle.doc_tree.specs.declared.refusal.EditRefusal.{EditRefusal}
use Rattle.doc_tree.specs.declared.refusal.EditRefusal.TheVariants.{WrongKind, NoPrefix, XmlnsName}
use Rattle.doc_tree.specs.Kinds.{is_element}
use Rattle.doc_tree.specs.Laws.{WellFormed}
use Rattle.doc_tree.specs.NameTests.{attribute_in, attribute_meant, has_name, named}
use Rattle.doc_tree.specs.Refusals.{declares_namespace, name_refusal}
use Rattle.doc_tree.specs.Scope.{Decl, attribute_namespace, scope_at, xmlns_prefix}
use Rattle.doc_tree.specs.Table.{Name, Table, attrs_of, expanded, expanded_in, expanded_of, kind_of, name_of}
use Rattle.doc_tree.proofs.AttributeLemmas.{has-expanded}
use Rattle.name_scopes.specs.Scoping.{AttributeInScope}

-- the one of a list that passes a test is found; and none where none does
pub find-one : (f : ℕ → Bool) (xs : List ℕ) (b : ℕ) → In b xs → f b ≡ true → ((c : ℕ) → In c xs → f c ≡ true → c ≡ b) → find f xs ≡ Some b
find-one f [] b h pass one = absurd (omega (arith, h))
find-one f (x ∷ xs) b h pass one = by (f x) refl (λ more. find-one f xs b more pass (λ c k p. one c (omega (arith, k)) p))
  where
    by : (t : Bool) → f x ≡ t → (In b xs → find f xs ≡ Some b) → cond t (Some x) (find f xs) ≡ Some b
    by true e rest = ap Some (one x (occurs-head x xs) e)
    by false e rest =
        ⊎_elim (λ (same : b ≡ x). absurd (true≢false (sym pass ∙ (ap f same ∙ e)))) (λ (more : In b xs). rest more) (In-cons b x xs h)

pub find-nothing : (f : ℕ → Bool) (xs : List ℕ) → ((c : ℕ) → In c xs → f c ≡ false) → find f xs ≡ None
find-nothing f [] fails = refl
find-nothing f (x ∷ xs) fails = rw (fails x (occurs-head x xs)) (find-nothing f xs (λ c h. fails c (omega (arith, h))))

pub find-same : (f g : ℕ → Bool) (xs : List ℕ) → ((c : ℕ) → In c xs → f c ≡ g c) → find f xs ≡ find g xs
find-same f g [] same = refl
find-same f g (x ∷ xs) same =
    ap₂ (λ b o. cond b (Some x) o) (same x (occurs-head x xs)) (find-same f g xs (λ c h. same c (omega (arith, h))))

-- what passes the test of a name has that expanded name
pub expanded-has : (T : Table) (a : ℕ) (uri local : List ℕ) → has_name T a uri local ≡ true → expanded_of T a ≡ Some (uri, local)
expanded-has T a uri local h = by (name_of T a) h
  where
    by : (o : Option Name) → named o (λ m. bytes_eq m.uri uri && bytes_eq m.local local) ≡ true → expanded_in o ≡ Some (uri, local)
    by None e = absurd (true≢false (sym e))
    by (Some m) e =
        let both = and_parts (bytes_eq m.uri uri) (bytes_eq m.local local) e in
        ap₂ (λ (x y : List ℕ). Some (x, y)) ((bytes_eq-Decides m.uri uri).0 both.0) ((bytes_eq-Decides m.local local).0 both.1)

-- an attribute is meant by its expanded name
pub meant-is : (T : Table) (n b : ℕ) (prefix : List ℕ) (name : Name) → WellFormed T → In b (attrs_of T n) → name_of T b ≡ Some name →
    attribute_namespace (scope_at T n) prefix ≡ Some name.uri → attribute_meant T n prefix name.local ≡ Some b
meant-is T n b prefix name form among is known =
    ap (λ uri. attribute_in T n uri name.local) known
    ∙ find-one (λ a. has_name T a name.uri name.local) (attrs_of T n) b among
    (has-expanded T b name (ap expanded_in is))
    (λ c h pass. form.names_differ n c b (In-mem c (attrs_of T n) h) (In-mem b (attrs_of T n) among)
    (expanded-has T c name.uri name.local pass ∙ sym (ap expanded_in is)))

-- none is, where none has it
pub meant-none : (T : Table) (n : ℕ) (prefix : List ℕ) (name : Name) → attribute_namespace (scope_at T n) prefix ≡ Some name.uri →
    ((c : ℕ) → In c (attrs_of T n) → expanded_of T c ≢ Some (expanded name)) → attribute_meant T n prefix name.local ≡ None
meant-none T n prefix name known apart =
    ap (λ uri. attribute_in T n uri name.local) known
    ∙ find-nothing (λ a. has_name T a name.uri name.local) (attrs_of T n)
    (λ c h. false_from_ne_true (has_name T c name.uri name.local) (λ (pass : has_name T c name.uri name.local ≡ true).
    apart c h (expanded-has T c name.uri name.local pass)))

-- the same one is, where scope, list and names stay
pub meant-kept : (T U : Table) (n : ℕ) (prefix local : List ℕ) → scope_at U n ≡ scope_at T n → attrs_of U n ≡ attrs_of T n →
    ((b : ℕ) → In b (attrs_of T n) → name_of U b ≡ name_of T b) → attribute_meant U n prefix local ≡ attribute_meant T n prefix local
meant-kept T U n prefix local scope list names =
    ap (λ (s : List Decl). attribute_in U n (attribute_namespace s prefix) local) scope ∙ by (attribute_namespace (scope_at T n) prefix)
  where
    by : (uri : Option (List ℕ)) → attribute_in U n uri local ≡ attribute_in T n uri local
    by None = refl
    by (Some uri) =
        ap (find (λ a. has_name U a uri local)) list
        ∙ find-same (λ a. has_name U a uri local) (λ a. has_name T a uri local) (attrs_of T n)
        (λ b h. ap (λ o. named o (λ m. bytes_eq m.uri uri && bytes_eq m.local local)) (names b h))

-- what speaks against a name goes by the kind of the element, and by its scope
abbrev pub refusal_by : List ℕ → List ℕ → Option Kind → List Decl → Option EditRefusal
refusal_by prefix local kind scope =
    if not (is_element kind) then Some WrongKind
    else if not (bytes_eq prefix xmlns_prefix) && is_none (attribute_namespace scope prefix) then Some NoPrefix
    else if declares_namespace prefix local then Some XmlnsName
    else None

pub refusal-kept : (T U : Table) (n : ℕ) (prefix local : List ℕ) → kind_of U n ≡ kind_of T n → scope_at U n ≡ scope_at T n → name_refusal U n prefix local ≡ name_refusal T n prefix local
refusal-kept T U n prefix local kind scope = ap₂ (refusal_by prefix local) kind scope

-- the empty prefix is another word
empty-other : bytes_eq [] xmlns_prefix ≡ false
unfolding xmlns_prefix
empty-other = refl

-- nothing speaks against a name in scope
pub name-free : (T : Table) (n : ℕ) (name : Name) (value : List ℕ) → kind_of T n ≡ Some Element → AttributeInScope (scope_at T n) name value → name_refusal T n name.prefix name.local ≡ None
name-free T n name value kind fits = ap (λ k. refusal_by name.prefix name.local k (scope_at T n)) kind ∙ by name.prefix fits.namespace fits.no_declaration
  where
    by : (prefix : List ℕ) → attribute_namespace (scope_at T n) prefix ≡ Some name.uri → (prefix ≡ [] → name.local ≢ xmlns_prefix) →
        refusal_by prefix name.local (Some Element) (scope_at T n) ≡ None
    by [] known plain =
        let apart : bytes_eq name.local xmlns_prefix ≡ false = false_from_ne_true (bytes_eq name.local xmlns_prefix) (λ (same : bytes_eq name.local xmlns_prefix ≡ true).
        plain refl ((bytes_eq-Decides name.local xmlns_prefix).0 same)) in
        rw (empty-other, apart) refl
    by (b ∷ prefix) known plain = words (bytes_eq (b ∷ prefix) xmlns_prefix) refl
      where
        words : (t : Bool) → bytes_eq (b ∷ prefix) xmlns_prefix ≡ t → refusal_by (b ∷ prefix) name.local (Some Element) (scope_at T n) ≡ None
        words true e =
            let none : attribute_namespace (scope_at T n) (b ∷ prefix) ≡ None = rw e refl in
            absurd (true≢false (ap is_some (sym known ∙ none)))
        words false e = rw (known, e) refl
