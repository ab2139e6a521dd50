-- Elements of a schema's document, and where they stand.
use Rattle.std.proofs.Common.{◌≡◌, ℕ, Bool, true, false, not, ◌||◌, cond, List, [], ◌∷◌, ◌++◌, Option, None, Some, map, refl, sym, ap, ◌∙◌, subst}
use Rattle.std.specs.List.{flat_map, list_any}
use Rattle.std.specs.Prelude.{codes, option_and_then}
use Rattle.std.specs.Str.{bytes_eq}
use Rattle.doc_tree.specs.Kinds.{can_be_kid}
use Rattle.doc_tree.specs.Laws.{HasWaysUp, Walks, WellFormed}
use Rattle.doc_tree.specs.Scope.{Decl, HasScopes, namespace_in, scope_at, xml_prefix, xmlns_prefix}
use Rattle.doc_tree.specs.Table.{Table, Name, Content, attrs_of, content_of, decls_at, kids_of, kind_of, parent_of}
use Rattle.doc_tree.specs.Walks.{characters_in}
use Rattle.name_scopes.proofs.ItemNames.{local-at, prefix-at}
use Rattle.name_scopes.specs.ScopedTree.{attribute_line}
use Rattle.name_scopes.specs.Scoping.{ContentInScope, ElementInScope, InScope}
use Rattle.pyx_core.specs.declared.event.Attr.{Attr}
use Rattle.pyx_core.specs.declared.event.Event.{Event}
use Rattle.sch_base.specs.Names.{is_colon}
use Rattle.sch_flat.specs.FlatDocument.{element as sch_element, only_given}
use Rattle.sch_rules.specs.Attributes.{said as said_at}
use Rattle.sch_rules.specs.Elements.{element_name, is_foreign, is_ignored, is_other_name, local_in, word_at}
use Rattle.sch_rules.specs.Words.{schematron, word_of}
use Rattle.sch_flat_laws.proofs.Reading.Attributes.{SayAll, all_plain, are_plain, given_in, given_is, said_is, say_all}
use Rattle.sch_flat_laws.proofs.Reading.Elements.{IsElement, is_element}
use Rattle.sch_flat_laws.proofs.Reading.EventBlocks.{Holds, said}
use Rattle.sch_flat_laws.proofs.Reading.Kids.{Items}
use Rattle.sch_flat_laws.proofs.Reading.TreeBlocks.{told}

-- the one declaration of the document
abbrev pub sch_scope : List Decl
sch_scope = (codes "sch", schematron) ∷ []

-- an element of the schema, in which the prefix `sch` is declared
pub record Place (T : Table) (n : ℕ) : Type 0 where
  pub scope : scope_at T n ≡ sch_scope
  pub counts : is_ignored T n ≡ false
  pub own : is_foreign T n ≡ false

-- an element with this local name, these attributes, and kids that tell what it holds
pub record Read (T : Table) (n : ℕ) (local : List ℕ) (attributes : List (List ℕ × Option (List ℕ))) (held : List Event) : Type 0 where
  pub place : Place T n
  pub word : word_at T n ≡ word_of local
  pub own : SayAll T (attrs_of T n) (only_given attributes)
  pub plain : are_plain attributes ≡ true
  pub says : (name : List ℕ) → said_at T n name ≡ given_in attributes name
  pub kids : flat_map (told T) (kids_of T n) ≡ said held
  pub blank : characters_in (content_of T n) ≡ []

sch-namespace : namespace_in sch_scope (codes "sch") ≡ Some schematron
unfolding xmlns_prefix xml_prefix
sch-namespace = refl

sch-colonless : list_any is_colon (codes "sch") ≡ false
sch-colonless = refl

own-namespace : bytes_eq schematron schematron ≡ true
own-namespace = refl

-- the name of an element with the prefix
pub record Named (its : Name) (local : List ℕ) : Type 0 where
  pub prefix : its.prefix ≡ codes "sch"
  pub local_is : its.local ≡ local
  pub uri : its.uri ≡ schematron

module _ (T : Table) (formed : WellFormed T) (ways : HasWaysUp T) (walks : Walks T) (scopes : HasScopes T) (in_scope : InScope T) where
  pub named_element : (n : ℕ) (local : List ℕ) (attrs : List Attr) (held : List Event) (e : IsElement T n (codes "sch" ++ 58 ∷ local) attrs held) →
      scope_at T n ≡ sch_scope → Named e.its local
  named_element n local attrs held e scope =
      let prefix : e.its.prefix ≡ codes "sch" = ap (λ (x : Name). x.prefix) e.named ∙ prefix-at (codes "sch") local sch-colonless in
      let here : ElementInScope (scope_at T n) e.its e.decls = subst (ContentInScope (scope_at T n)) e.content (in_scope n) in
      let uri : Some e.its.uri ≡ Some schematron =
      sym here.namespace ∙ ap (λ s. namespace_in s e.its.prefix) scope ∙ ap (namespace_in sch_scope) prefix ∙ sch-namespace in
      record {
        prefix = prefix;
        local_is = ap (λ (x : Name). x.local) e.named ∙ local-at (codes "sch") local sch-colonless;
        uri = cc;
      }

  pub word_named : (n : ℕ) (local : List ℕ) (attrs : List Attr) (held : List Event) (e : IsElement T n (codes "sch" ++ 58 ∷ local) attrs held) → Named e.its local →
      (word_at T n ≡ word_of local) × (is_foreign T n ≡ false)
  word_named n local attrs held e names = (
    ap (λ (c : Option Content). option_and_then word_of (local_in (element_name c))) e.content
        ∙ ap (λ u. option_and_then word_of (cond (bytes_eq u schematron) (Some e.its.local) None)) names.uri
        ∙ ap (λ (b : Bool). option_and_then word_of (cond b (Some e.its.local) None)) own-namespace
        ∙ ap word_of names.local_is,
    ap (λ (c : Option Content). is_other_name (element_name c)) e.content
        ∙ ap (λ u. not (bytes_eq u schematron)) names.uri
        ∙ ap not own-namespace,
  )

  -- what an element's attributes say
  own-of : (n : ℕ) (name : List ℕ) (attributes : List (List ℕ × Option (List ℕ))) (held : List Event) → are_plain attributes ≡ true →
      IsElement T n name (only_given attributes) held → SayAll T (attrs_of T n) (only_given attributes)
  own-of n name attributes held plain e =
      say_all T (attrs_of T n) (formed.attribute_kind n) (only_given attributes)
      (e.attributes ∙ ap (map attribute_line) (all_plain attributes plain).all_kept)

  says-of : (n : ℕ) (attributes : List (List ℕ × Option (List ℕ))) → are_plain attributes ≡ true →
      SayAll T (attrs_of T n) (only_given attributes) → (wanted : List ℕ) → said_at T n wanted ≡ given_in attributes wanted
  says-of n attributes plain own wanted =
      said_is T in_scope (attrs_of T n) (only_given attributes) own (all_plain attributes plain).no_colons wanted ∙ given_is attributes plain wanted

  -- an element in another
  pub read_element : (p n : ℕ) (local : List ℕ) (attributes : List (List ℕ × Option (List ℕ))) (held : List Event) → Place T p → parent_of T n ≡ Some p →
      can_be_kid (kind_of T n) ≡ true → Items T (kids_of T n) → Holds held → are_plain attributes ≡ true →
      told T n ≡ said (sch_element (codes "sch" ++ 58 ∷ local) attributes held) → Read T n local attributes held
  read_element p n local attributes held place up kid items holds plain same =
      let e = is_element T formed ways walks n (codes "sch" ++ 58 ∷ local) (only_given attributes) held holds items kid same in
      let all = all_plain attributes plain in
      let decls : decls_at (content_of T n) ≡ [] = ap decls_at e.content ∙ e.declared ∙ all.nothing_declared in
      let scope : scope_at T n ≡ sch_scope = scopes.under n p up ∙ ap (λ (l : List Decl). l ++ scope_at T p) decls ∙ place.scope in
      let names = named_element n local (only_given attributes) held e scope in
      let word = word_named n local (only_given attributes) held e names in
      let own = own-of n (codes "sch" ++ 58 ∷ local) attributes held plain e in
      record {
        place = record {
          scope = scope;
          counts = ap (list_any (is_foreign T)) (ways.ancestors_at n p up) ∙ ap (λ b. b || is_ignored T p) place.own ∙ place.counts;
          own = word.1;
        };
        word = word.0;
        own = own;
        plain = plain;
        says = says-of n attributes plain own;
        kids = e.kids;
        blank = ap characters_in e.content;
      }
