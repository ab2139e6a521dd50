-- The names of an element and of its attributes, by the rules of names.
use Rattle.std.proofs.Common.{◌≡◌, ℕ, Bool, true, false, not, ◌&&◌, ◌||◌, List, [], ◌∷◌, Option, None, Some, refl, ap, ◌∙◌}
use Rattle.std.specs.Prelude.{codes}
use Rattle.std.specs.List.{list_any}
use Rattle.std.specs.Option.{is_none}
use Rattle.std.specs.Str.{bytes_eq}
use Rattle.std.proofs.lemmas.Bool.{and_parts}
use Rattle.sch_base.specs.Names.{is_colon}
use Rattle.pyx_core.specs.declared.event.Attr.{Attr}
use Rattle.doc_tree.specs.Scope.{Decl, namespace_in, xmlns_prefix}
use Rattle.name_scopes.specs.Declarations.{declarations, has_both_quotes, is_bad_declaration, plain_attrs}
use Rattle.name_scopes.specs.DocFaults.{has_pair, lacks_prefix, same_expanded, same_qname, tag_fault}
use Rattle.name_scopes.specs.QNames.{prefix_part, local_part}
use Rattle.sch_flat.specs.FlatDocument.{only_given}

-- whether the prefix `sch` is in scope
abbrev pub has_sch : List Decl → Bool
has_sch scope = not (is_none (namespace_in scope (codes "sch")))

-- whether a name has no colon, and is not `xmlns`
abbrev pub is_simple : List ℕ → Bool
is_simple name = not (list_any is_colon name) && not (bytes_eq name xmlns_prefix)

-- whether each name is simple, and no two are the same
abbrev pub are_simple : List (List ℕ × Option (List ℕ)) → Bool
are_simple [] = true
are_simple (a ∷ attributes) =
    is_simple a.0 && (not (list_any (λ (b : List ℕ × Option (List ℕ)). bytes_eq a.0 b.0) attributes) && are_simple attributes)

record First (a : List ℕ × Option (List ℕ)) (attributes : List (List ℕ × Option (List ℕ))) : Type 0 where
  pub colon : list_any is_colon a.0 ≡ false
  pub no_default : bytes_eq a.0 xmlns_prefix ≡ false
  pub once : list_any (λ (b : List ℕ × Option (List ℕ)). bytes_eq a.0 b.0) attributes ≡ false
  pub rest : are_simple attributes ≡ true

not-true : (b : Bool) → not b ≡ true → b ≡ false
not-true true h = absurd (cc)
not-true false h = refl

first-parts : (a : List ℕ × Option (List ℕ)) (attributes : List (List ℕ × Option (List ℕ))) → are_simple (a ∷ attributes) ≡ true → First a attributes
first-parts a attributes h =
    let parts = and_parts (is_simple a.0) (not (list_any (λ (b : List ℕ × Option (List ℕ)). bytes_eq a.0 b.0) attributes) && are_simple attributes) h in
    let name = and_parts (not (list_any is_colon a.0)) (not (bytes_eq a.0 xmlns_prefix)) parts.0 in
    let last = and_parts (not (list_any (λ (b : List ℕ × Option (List ℕ)). bytes_eq a.0 b.0) attributes)) (are_simple attributes) parts.1 in
    record {
      colon = not-true (list_any is_colon a.0) name.0;
      no_default = not-true (bytes_eq a.0 xmlns_prefix) name.1;
      once = not-true (list_any (λ (b : List ℕ × Option (List ℕ)). bytes_eq a.0 b.0) attributes) last.0;
      rest = last.1;
    }

or-parts : (a b : Bool) → (a || b) ≡ false → (a ≡ false) × (b ≡ false)
or-parts true b h = absurd (cc)
or-parts false b h = (refl, h)

-- a name that is not among these
pub other_qnames : (attr : Attr) (attributes : List (List ℕ × Option (List ℕ))) →
    list_any (λ (b : List ℕ × Option (List ℕ)). bytes_eq attr.name b.0) attributes ≡ false → list_any (same_qname attr) (only_given attributes) ≡ false
other_qnames attr [] none = refl
other_qnames attr ((name, None) ∷ rest) none =
    other_qnames attr rest (or-parts (bytes_eq attr.name name) (list_any (λ (b : List ℕ × Option (List ℕ)). bytes_eq attr.name b.0) rest) none).1
other_qnames attr ((name, Some value) ∷ rest) none =
    let parts = or-parts (bytes_eq attr.name name) (list_any (λ (b : List ℕ × Option (List ℕ)). bytes_eq attr.name b.0) rest) none in
    rw parts.0 (other_qnames attr rest parts.1)

local-all : (name : List ℕ) → list_any is_colon name ≡ false → local_part name ≡ name
local-all name none = rw none refl

other-names : (scope : List Decl) (attr : Attr) (attributes : List (List ℕ × Option (List ℕ))) → list_any is_colon attr.name ≡ false → are_simple attributes ≡ true →
    list_any (λ (b : List ℕ × Option (List ℕ)). bytes_eq attr.name b.0) attributes ≡ false → list_any (same_expanded scope attr) (only_given attributes) ≡ false
other-names scope attr [] colon are none = refl
other-names scope attr ((name, None) ∷ rest) colon are none =
    other-names scope attr rest colon (first-parts (name, None) rest are).rest
    (or-parts (bytes_eq attr.name name) (list_any (λ (b : List ℕ × Option (List ℕ)). bytes_eq attr.name b.0) rest) none).1
other-names scope attr ((name, Some value) ∷ rest) colon are none =
    let parts = or-parts (bytes_eq attr.name name) (list_any (λ (b : List ℕ × Option (List ℕ)). bytes_eq attr.name b.0) rest) none in
    let first = first-parts (name, Some value) rest are in
    rw (local-all attr.name colon, local-all name first.colon, parts.0) (other-names scope attr rest colon first.rest parts.1)

-- given attributes with such names
pub record Simple (attributes : List (List ℕ × Option (List ℕ))) : Type 0 where
  pub nothing_declared : declarations (only_given attributes) ≡ []
  pub all_plain : plain_attrs (only_given attributes) ≡ only_given attributes
  pub prefixes : (scope : List Decl) → list_any (lacks_prefix scope) (only_given attributes) ≡ false
  pub qnames : has_pair same_qname (only_given attributes) ≡ false
  pub names : (scope : List Decl) → has_pair (same_expanded scope) (only_given attributes) ≡ false

no-declaration : (name : List ℕ) → list_any is_colon name ≡ false → bytes_eq (prefix_part name) xmlns_prefix ≡ false
unfolding xmlns_prefix
no-declaration name none = rw none refl

no-prefix : (name : List ℕ) → list_any is_colon name ≡ false → prefix_part name ≡ []
no-prefix name none = rw none refl

pub simple : (attributes : List (List ℕ × Option (List ℕ))) → are_simple attributes ≡ true → Simple attributes
simple [] are = record { nothing_declared = refl; all_plain = refl; prefixes = λ scope. refl; qnames = refl; names = λ scope. refl }
simple ((name, None) ∷ attributes) are =
    let rest = simple attributes (first-parts (name, None) attributes are).rest in
    record { nothing_declared = rest.nothing_declared; all_plain = rest.all_plain; prefixes = rest.prefixes; qnames = rest.qnames; names = rest.names }
simple ((name, Some value) ∷ attributes) are =
    let first = first-parts (name, Some value) attributes are in
    let rest = simple attributes first.rest in
    let attr : Attr = record { name = name; value = value } in
    let declares = no-declaration name first.colon in
    record {
      nothing_declared = rw (first.no_default, declares) rest.nothing_declared;
      all_plain = rw (first.no_default, declares) (ap (λ l. attr ∷ l) rest.all_plain);
      prefixes = λ scope. rw (no-prefix name first.colon) (rest.prefixes scope);
      qnames = rw (other_qnames attr attributes first.once) rest.qnames;
      names = λ scope. rw (other-names scope attr attributes first.colon first.rest first.once) (rest.names scope);
    }

-- what the rules of names ask of a start tag
pub record TagFits (scope : List Decl) (name : List ℕ) (attrs : List Attr) : Type 0 where
  pub declared : is_none (namespace_in scope (prefix_part name)) ≡ false
  pub prefixes : list_any (lacks_prefix scope) (plain_attrs attrs) ≡ false
  pub qnames : has_pair same_qname attrs ≡ false
  pub names : has_pair (same_expanded scope) (plain_attrs attrs) ≡ false
  pub good : list_any is_bad_declaration (declarations attrs) ≡ false
  pub quoted : list_any has_both_quotes (declarations attrs) ≡ false

pub tag_free : (scope : List Decl) (name : List ℕ) (attrs : List Attr) → TagFits scope name attrs → tag_fault scope name attrs ≡ None
tag_free scope name attrs fits = rw (fits.declared, fits.prefixes, fits.qnames, fits.names, fits.good, fits.quoted) refl

pub tag_is_free : (scope : List Decl) (name : List ℕ) (attributes : List (List ℕ × Option (List ℕ))) → Simple attributes → has_sch scope ≡ true →
    prefix_part name ≡ codes "sch" → tag_fault scope name (only_given attributes) ≡ None
tag_is_free scope name attributes its declared prefixed =
    let attrs = only_given attributes in
    tag_free scope name attrs (record {
      declared = ap (λ p. is_none (namespace_in scope p)) prefixed ∙ not-true (is_none (namespace_in scope (codes "sch"))) declared;
      prefixes = ap (list_any (lacks_prefix scope)) its.all_plain ∙ its.prefixes scope;
      qnames = its.qnames;
      names = ap (has_pair (same_expanded scope)) its.all_plain ∙ its.names scope;
      good = ap (list_any is_bad_declaration) its.nothing_declared;
      quoted = ap (list_any has_both_quotes) its.nothing_declared;
    })
