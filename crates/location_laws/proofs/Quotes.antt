-- In a tree that is in scope an expression can say the names of attributes (Namespaces in XML 1.0, sections 3 to 6).
use Rattle.std.proofs.Common.{◌≡◌, ℕ, Bool, true, false, not, ◌&&◌, ◌||◌, List, [], ◌∷◌, ◌++◌, Option, None, Some, if◌then◌else◌, refl, ap, subst, ◌∙◌}
use Rattle.std.specs.Prelude.{unwrap_or}
use Rattle.std.specs.List.{flat_map, list_all}
use Rattle.std.specs.Option.{option_or}
use Rattle.std.specs.Str.{bytes_eq, chars, is_utf8}
use Rattle.std.proofs.lemmas.Str.{IsUtf8-from_is_utf8}
use Rattle.sch_base.specs.Characters.{is_xml_char}
use Rattle.sch_base.specs.Lists.{is_nil}
use Rattle.sch_base.specs.Names.{is_ncname}
use Rattle.pyx_core.specs.Nesting.{of_chars}
use Rattle.doc_tree.specs.kind.Kind.TheVariants as kinds
use Rattle.doc_tree.specs.Scope.{Decl, scope_at, first_declared, undeclared, namespace_in, xml_namespace, xml_prefix, xmlns_prefix}
use Rattle.doc_tree.specs.Table.{Table, Name, Content, root, element, attribute, text, comment, instruction, kind_at, name_at, decls_at, content_of, decls_of}
use Rattle.doc_tree.specs.Walks.{above}
use Rattle.name_scopes.specs.Declarations.{is_bad_declaration, has_both_quotes}
use Rattle.name_scopes.specs.Scoping.{attribute_namespace, is_part, is_good_declaration, AttributeInScope, ContentInScope, InScope}
use Rattle.xp_lexicon.specs.Lexicon.{IsNcname}
use Rattle.xp_print_laws.proofs.Fronts.{both, not-passing}
use Rattle.location_texts.specs.LocationSteps.{holds_both_quotes}
use Rattle.location_ways.specs.WayDown.{HasSpellableAttributes}

same_some : (xs ys : List ℕ) → Some xs ≡ Some ys → xs ≡ ys
same_some xs ys e = ap (λ (o : Option (List ℕ)). unwrap_or o []) e

both_pass : {A : Type 0} (p : A → Bool) (xs ys : List A) → list_all p xs ≡ true → list_all p ys ≡ true → list_all p (xs ++ ys) ≡ true
both_pass p [] ys all all_2 = all_2
both_pass p (x ∷ xs) ys all all_2 =
    let here = both (p x) (list_all p xs) all in
    rw here.0 (both_pass p xs ys here.1 all_2)

-- ---- declarations

-- a good declaration's namespace can stand in quotes
good_quotes : (decl : Decl) → is_good_declaration decl ≡ true → holds_both_quotes decl.1 ≡ false
good_quotes decl good = not-passing (has_both_quotes decl)
    (both (((is_nil decl.0 || is_part decl.0) && of_chars decl.1) && not (is_bad_declaration decl)) (not (has_both_quotes decl)) good).1

decls_good : (T : Table) → InScope T → (m : ℕ) → list_all is_good_declaration (decls_of T m) ≡ true
decls_good T scoped m = by (content_of T m) (scoped m)
  where
    by : (content : Option Content) → ContentInScope (scope_at T m) content → list_all is_good_declaration (decls_at content) ≡ true
    by None h = refl
    by (Some root) h = refl
    by (Some (element name decls)) h = h.declared
    by (Some (attribute name value)) h = refl
    by (Some (text characters)) h = refl
    by (Some (comment characters)) h = refl
    by (Some (instruction name body)) h = refl

all_good : (T : Table) → InScope T → (ms : List ℕ) → list_all is_good_declaration (flat_map (decls_of T) ms) ≡ true
all_good T scoped [] = refl
all_good T scoped (m ∷ ms) = both_pass is_good_declaration (decls_of T m) (flat_map (decls_of T) ms) (decls_good T scoped m) (all_good T scoped ms)

declared_quotes : (scope : List Decl) → list_all is_good_declaration scope ≡ true → (prefix uri : List ℕ) → first_declared scope prefix ≡ Some uri →
    holds_both_quotes uri ≡ false
declared_quotes [] good prefix uri e = absurd (cc)
declared_quotes (decl ∷ scope) good prefix uri e =
    let parts = both (is_good_declaration decl) (list_all is_good_declaration scope) good in
    by (bytes_eq decl.0 prefix) (λ (later : first_declared scope prefix ≡ Some uri). declared_quotes scope parts.1 prefix uri later) e
  where
    by : (b : Bool) → (first_declared scope prefix ≡ Some uri → holds_both_quotes uri ≡ false) →
        (if b then Some decl.1 else first_declared scope prefix) ≡ Some uri → holds_both_quotes uri ≡ false
    by true later is = subst (λ (u : List ℕ). holds_both_quotes u ≡ false) (same_some decl.1 uri is)
        (good_quotes decl (both (is_good_declaration decl) (list_all is_good_declaration scope) good).0)
    by false later is = later is

xml_quotes : holds_both_quotes xml_namespace ≡ false
unfolding xml_namespace
xml_quotes = refl

undeclared_quotes : (prefix uri : List ℕ) → undeclared prefix ≡ Some uri → holds_both_quotes uri ≡ false
undeclared_quotes [] uri e = subst (λ (u : List ℕ). holds_both_quotes u ≡ false) (same_some [] uri e) refl
undeclared_quotes (b ∷ prefix) uri e = absurd (cc)

namespace_quotes : (scope : List Decl) → list_all is_good_declaration scope ≡ true → (prefix uri : List ℕ) → namespace_in scope prefix ≡ Some uri →
    holds_both_quotes uri ≡ false
namespace_quotes scope good prefix uri e = by (bytes_eq prefix xmlns_prefix) (bytes_eq prefix xml_prefix) e
  where
    found : (o : Option (List ℕ)) → first_declared scope prefix ≡ o → option_or o (undeclared prefix) ≡ Some uri → holds_both_quotes uri ≡ false
    found None none is = undeclared_quotes prefix uri is
    found (Some u) some is = declared_quotes scope good prefix uri (some ∙ is)

    by : (a b : Bool) → (if a then None else if b then Some xml_namespace else option_or (first_declared scope prefix) (undeclared prefix)) ≡ Some uri → holds_both_quotes uri ≡ false
    by true b is = absurd (cc)
    by false true is = subst (λ (u : List ℕ). holds_both_quotes u ≡ false) (same_some xml_namespace uri is) xml_quotes
    by false false is = found (first_declared scope prefix) refl is

attribute_quotes : (scope : List Decl) → list_all is_good_declaration scope ≡ true → (prefix uri : List ℕ) →
    attribute_namespace scope prefix ≡ Some uri → holds_both_quotes uri ≡ false
attribute_quotes scope good [] uri e = subst (λ (u : List ℕ). holds_both_quotes u ≡ false) (same_some [] uri e) refl
attribute_quotes scope good (b ∷ prefix) uri e = namespace_quotes scope good (b ∷ prefix) uri e

-- ---- names

part_is_name : (name : List ℕ) → is_part name ≡ true → IsNcname name
part_is_name name is =
    let parts = both (of_chars name) (is_ncname name) is in
    record { utf8 = IsUtf8-from_is_utf8 name (both (is_utf8 name) (list_all is_xml_char (chars name)) parts.0).0; name = parts.1 }

name_spellable : (scope : List Decl) → list_all is_good_declaration scope ≡ true → (name : Name) (value : List ℕ) → AttributeInScope scope name value →
    IsNcname name.local × (holds_both_quotes name.uri ≡ false)
name_spellable scope good name value h = (
  part_is_name name.local (both (is_nil name.prefix || is_part name.prefix) (is_part name.local) h.named).1,
  attribute_quotes scope good name.prefix name.uri h.namespace,
)

abbrev name_or : Name → Option Name → Name
name_or d None = d
name_or d (Some name) = name

pub attributes_spellable : (T : Table) → InScope T → HasSpellableAttributes T
attributes_spellable T scoped a name is is_name = by (content_of T a) (scoped a) is is_name
  where
    by : (content : Option Content) → ContentInScope (scope_at T a) content → kind_at content ≡ Some kinds.Attribute → name_at content ≡ Some name →
        IsNcname name.local × (holds_both_quotes name.uri ≡ false)
    by None h k e = absurd (cc)
    by (Some root) h k e = absurd (cc)
    by (Some (element other decls)) h k e = absurd (cc)
    by (Some (attribute other value)) h k e =
        subst (λ (x : Name). IsNcname x.local × (holds_both_quotes x.uri ≡ false)) (ap (name_or name) e)
        (name_spellable (scope_at T a) (all_good T scoped (above T a)) other value h)
    by (Some (text characters)) h k e = absurd (cc)
    by (Some (comment characters)) h k e = absurd (cc)
    by (Some (instruction other body)) h k e = absurd (cc)
