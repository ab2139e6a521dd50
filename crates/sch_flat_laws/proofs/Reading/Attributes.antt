-- What an element's attributes say.
use Rattle.std.proofs.Common.{◌≡◌, ℕ, Bool, true, false, not, ◌&&◌, ◌||◌, cond, List, [], ◌∷◌, ◌++◌, map, Option, None, Some, find, refl, sym, ap, ◌∙◌, subst}
use Rattle.std.specs.List.{flat_map, list_all, list_any}
use Rattle.std.specs.Prelude.{option_map}
use Rattle.std.specs.Str.{bytes_eq}
use Rattle.std.proofs.lemmas.Bool.{and_parts}
use Rattle.std.proofs.lemmas.Slice.Eq.{bytes_eq-Decides}
use Rattle.doc_table.proofs.ListLemmas.{mem-head, mem-tail}
use Rattle.doc_tree.specs.kind.Kind.TheVariants as kind
use Rattle.doc_tree.specs.Lines.{first_lines, lines_at, opens}
use Rattle.doc_tree.specs.Lists.{mem}
use Rattle.doc_tree.specs.NameTests.{named}
use Rattle.doc_tree.specs.Scope.{scope_at, xmlns_prefix}
use Rattle.doc_tree.specs.Table.{Table, Name, Content, root, element, attribute, text, comment, instruction, content_of, kind_at, kind_of, name_at, value_at, value_of}
use Rattle.name_scopes.proofs.ItemNames.{local-all, prefix-none}
use Rattle.name_scopes.specs.Declarations.{declarations, plain_attrs}
use Rattle.name_scopes.specs.QNames.{as_written, prefix_part}
use Rattle.name_scopes.specs.ScopedTree.{attribute_line, unscoped, written}
use Rattle.name_scopes.specs.Scoping.{AttributeInScope, ContentInScope, InScope, attribute_namespace}
use Rattle.pyx_core.specs.declared.event.Attr.{Attr}
use Rattle.sch_base.specs.Names.{is_colon}
use Rattle.sch_flat.specs.FlatDocument.{only_given}
use Rattle.sch_rules.specs.Attributes.{is_called}

-- an attribute node that says what an attribute says
pub record Says (T : Table) (a : ℕ) (attr : Attr) : Type 0 where
  pub its : Name
  pub content : content_of T a ≡ Some (attribute its attr.value)
  pub named : as_written its ≡ written attr.name

abbrev pub SayAll : Table → List ℕ → List Attr → Type 0
SayAll T [] [] = Unit {0}
SayAll T [] (attr ∷ attrs) = ⊥
SayAll T (a ∷ nodes) [] = ⊥
SayAll T (a ∷ nodes) (attr ∷ attrs) = Says T a attr × SayAll T nodes attrs

say-first : (T : Table) (a : ℕ) (nodes : List ℕ) (content : Option Content) (attrs : List Attr) → content_of T a ≡ content → kind_at content ≡ Some kind.Attribute →
    map unscoped (lines_at first_lines content ++ flat_map (opens T) nodes) ≡ map attribute_line attrs →
    ((rest : List Attr) → map unscoped (flat_map (opens T) nodes) ≡ map attribute_line rest → SayAll T nodes rest) → SayAll T (a ∷ nodes) attrs
say-first T a nodes None attrs is k same rest = absurd (cc)
say-first T a nodes (Some root) attrs is k same rest = absurd (cc)
say-first T a nodes (Some (element its decls)) attrs is k same rest = absurd (cc)
say-first T a nodes (Some (text characters)) attrs is k same rest = absurd (cc)
say-first T a nodes (Some (comment characters)) attrs is k same rest = absurd (cc)
say-first T a nodes (Some (instruction its body)) attrs is k same rest = absurd (cc)
say-first T a nodes (Some (attribute its value)) [] is k same rest = absurd (cc)
say-first T a nodes (Some (attribute its value)) (attr ∷ attrs) is k same rest =
    let named : as_written its ≡ written attr.name = cc in
    let value_is : value ≡ attr.value = cc in
    let more : map unscoped (flat_map (opens T) nodes) ≡ map attribute_line attrs = cc in
    (record { its = its; content = is ∙ ap (λ v. Some (attribute its v)) value_is; named = named }, rest attrs more)

pub say_all : (T : Table) (nodes : List ℕ) → ((a : ℕ) → mem a nodes ≡ true → kind_of T a ≡ Some kind.Attribute) → (attrs : List Attr) →
    map unscoped (flat_map (opens T) nodes) ≡ map attribute_line attrs → SayAll T nodes attrs
say_all T [] kinds [] same = tt
say_all T [] kinds (attr ∷ attrs) same = absurd (cc)
say_all T (a ∷ nodes) kinds attrs same =
    say-first T a nodes (content_of T a) attrs refl (kinds a (mem-head a nodes)) same (say_all T nodes (λ b h. kinds b (mem-tail b a nodes h)))

no-prefix : (scope : List (List ℕ × List ℕ)) (its : Name) (value : List ℕ) → its.prefix ≡ [] → AttributeInScope scope its value → its.uri ≡ []
no-prefix scope its value none in_scope =
    let h : Some [] ≡ Some its.uri = ap (attribute_namespace scope) (sym none) ∙ in_scope.namespace in cc

-- an attribute without a colon in its name is called by it
pub called_is : (T : Table) (a : ℕ) (attr : Attr) → Says T a attr → InScope T → list_any is_colon attr.name ≡ false → (name : List ℕ) →
    is_called T name a ≡ bytes_eq attr.name name
called_is T a attr says in_scope plain name =
    let its = says.its in
    let local : its.local ≡ attr.name = ap (λ (n : Name). n.local) says.named ∙ local-all attr.name plain in
    let prefix : its.prefix ≡ [] = ap (λ (n : Name). n.prefix) says.named ∙ prefix-none attr.name plain in
    let here : AttributeInScope (scope_at T a) its attr.value = subst (ContentInScope (scope_at T a)) says.content (in_scope a) in
    let uri : its.uri ≡ [] = no-prefix (scope_at T a) its attr.value prefix here in
    ap (λ (c : Option Content). named (name_at c) (λ (n : Name). bytes_eq n.uri [] && bytes_eq n.local name)) says.content
    ∙ ap (λ u. bytes_eq u [] && bytes_eq its.local name) uri
    ∙ ap (λ l. bytes_eq l name) local

-- what attributes say under a name
abbrev pub said_in : List Attr → List ℕ → Option (List ℕ)
said_in [] name = None
said_in (attr ∷ attrs) name = cond (bytes_eq attr.name name) (Some attr.value) (said_in attrs name)

pub said_is : (T : Table) → InScope T → (nodes : List ℕ) (attrs : List Attr) → SayAll T nodes attrs → list_all (λ (attr : Attr). not (list_any is_colon attr.name)) attrs ≡ true →
    (name : List ℕ) → option_map (value_of T) (find (is_called T name) nodes) ≡ said_in attrs name
said_is T in_scope [] [] say plain name = refl
said_is T in_scope [] (attr ∷ attrs) say plain name = absurd (say)
said_is T in_scope (a ∷ nodes) [] say plain name = absurd (say)
said_is T in_scope (a ∷ nodes) (attr ∷ attrs) say plain name =
    let parts = and_parts (not (list_any is_colon attr.name)) (list_all (λ (attr : Attr). not (list_any is_colon attr.name)) attrs) plain in
    ap (λ b. option_map (value_of T) (cond b (Some a) (find (is_called T name) nodes))) (called_is T a attr say.0 in_scope (not-true (list_any is_colon attr.name) parts.0) name)
    ∙ by (bytes_eq attr.name name) (said_is T in_scope nodes attrs say.1 parts.1 name)
  where
    not-true : (b : Bool) → not b ≡ true → b ≡ false
    not-true true h = absurd (cc)
    not-true false h = refl

    by : (b : Bool) → option_map (value_of T) (find (is_called T name) nodes) ≡ said_in attrs name →
        option_map (value_of T) (cond b (Some a) (find (is_called T name) nodes)) ≡ cond b (Some attr.value) (said_in attrs name)
    by true h = ap (λ (c : Option Content). Some (value_at c)) say.0.content
    by false h = h

-- what is given under a name
abbrev pub given_in : List (List ℕ × Option (List ℕ)) → List ℕ → Option (List ℕ)
given_in [] name = None
given_in (a ∷ attributes) name = cond (bytes_eq a.0 name) a.1 (given_in attributes name)

-- whether each name is given once, has no colon, and declares nothing
abbrev pub is_plain_name : List ℕ → Bool
is_plain_name name = not (list_any is_colon name) && (not (bytes_eq name xmlns_prefix) && not (bytes_eq (prefix_part name) xmlns_prefix))

abbrev pub are_plain : List (List ℕ × Option (List ℕ)) → Bool
are_plain [] = true
are_plain (a ∷ attributes) = is_plain_name a.0 && (not (list_any (λ (b : List ℕ × Option (List ℕ)). bytes_eq b.0 a.0) attributes) && are_plain attributes)

pub record Plain (a : List ℕ × Option (List ℕ)) (attributes : List (List ℕ × Option (List ℕ))) : Type 0 where
  pub colon : list_any is_colon a.0 ≡ false
  pub no_default : bytes_eq a.0 xmlns_prefix ≡ false
  pub no_prefix : bytes_eq (prefix_part a.0) xmlns_prefix ≡ false
  pub once : list_any (λ (b : List ℕ × Option (List ℕ)). bytes_eq b.0 a.0) attributes ≡ false
  pub rest : are_plain attributes ≡ true

not-false : (b : Bool) → not b ≡ true → b ≡ false
not-false true h = absurd (cc)
not-false false h = refl

plain-parts : (a : List ℕ × Option (List ℕ)) (attributes : List (List ℕ × Option (List ℕ))) → are_plain (a ∷ attributes) ≡ true → Plain a attributes
plain-parts a attributes h =
    let first = and_parts (is_plain_name a.0) (not (list_any (λ (b : List ℕ × Option (List ℕ)). bytes_eq b.0 a.0) attributes) && are_plain attributes) h in
    let name = and_parts (not (list_any is_colon a.0)) (not (bytes_eq a.0 xmlns_prefix) && not (bytes_eq (prefix_part a.0) xmlns_prefix)) first.0 in
    let no = and_parts (not (bytes_eq a.0 xmlns_prefix)) (not (bytes_eq (prefix_part a.0) xmlns_prefix)) name.1 in
    let last = and_parts (not (list_any (λ (b : List ℕ × Option (List ℕ)). bytes_eq b.0 a.0) attributes)) (are_plain attributes) first.1 in
    record {
      colon = not-false (list_any is_colon a.0) name.0;
      no_default = not-false (bytes_eq a.0 xmlns_prefix) no.0;
      no_prefix = not-false (bytes_eq (prefix_part a.0) xmlns_prefix) no.1;
      once = not-false (list_any (λ (b : List ℕ × Option (List ℕ)). bytes_eq b.0 a.0) attributes) last.0;
      rest = last.1;
    }

none-given : (attributes : List (List ℕ × Option (List ℕ))) (name : List ℕ) → list_any (λ (b : List ℕ × Option (List ℕ)). bytes_eq b.0 name) attributes ≡ false →
    given_in attributes name ≡ None
none-given [] name h = refl
none-given (a ∷ attributes) name h = by (bytes_eq a.0 name) h (none-given attributes name)
  where
    by : (b : Bool) → (b || list_any (λ (b : List ℕ × Option (List ℕ)). bytes_eq b.0 name) attributes) ≡ false →
        (list_any (λ (b : List ℕ × Option (List ℕ)). bytes_eq b.0 name) attributes ≡ false → given_in attributes name ≡ None) →
        cond b a.1 (given_in attributes name) ≡ None
    by true h rest = absurd (cc)
    by false h rest = rest h

pub given_is : (attributes : List (List ℕ × Option (List ℕ))) → are_plain attributes ≡ true → (name : List ℕ) → said_in (only_given attributes) name ≡ given_in attributes name
given_is [] h name = refl
given_is ((n, None) ∷ attributes) h name =
    let plain = plain-parts (n, None) attributes h in
    given_is attributes plain.rest name ∙ by (bytes_eq n name) refl plain.once
  where
    by : (b : Bool) → bytes_eq n name ≡ b → list_any (λ (b : List ℕ × Option (List ℕ)). bytes_eq b.0 n) attributes ≡ false →
        given_in attributes name ≡ cond b None (given_in attributes name)
    by true e once =
        let same : n ≡ name = (bytes_eq-Decides n name).0 e in
        none-given attributes name (ap (λ x. list_any (λ (b : List ℕ × Option (List ℕ)). bytes_eq b.0 x) attributes) (sym same) ∙ once)
    by false e once = refl
given_is ((n, Some value) ∷ attributes) h name =
    let plain = plain-parts (n, Some value) attributes h in
    ap (λ (l : Option (List ℕ)). cond (bytes_eq n name) (Some value) l) (given_is attributes plain.rest name)

-- given attributes with such names
pub record AllPlain (attributes : List (List ℕ × Option (List ℕ))) : Type 0 where
  pub nothing_declared : declarations (only_given attributes) ≡ []
  pub all_kept : plain_attrs (only_given attributes) ≡ only_given attributes
  pub no_colons : list_all (λ (attr : Attr). not (list_any is_colon attr.name)) (only_given attributes) ≡ true

pub all_plain : (attributes : List (List ℕ × Option (List ℕ))) → are_plain attributes ≡ true → AllPlain attributes
all_plain [] h = record { nothing_declared = refl; all_kept = refl; no_colons = refl }
all_plain ((n, None) ∷ attributes) h =
    let rest = all_plain attributes (plain-parts (n, None) attributes h).rest in
    record { nothing_declared = rest.nothing_declared; all_kept = rest.all_kept; no_colons = rest.no_colons }
all_plain ((n, Some value) ∷ attributes) h =
    let plain = plain-parts (n, Some value) attributes h in
    let rest = all_plain attributes plain.rest in
    record {
      nothing_declared = rw (plain.no_default, plain.no_prefix) rest.nothing_declared;
      all_kept = rw (plain.no_default, plain.no_prefix) (ap (λ l. record { name = n; value = value } ∷ l) rest.all_kept);
      no_colons = rw plain.colon rest.no_colons;
    }
