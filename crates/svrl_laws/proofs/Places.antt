-- Elements of a report's document, and where they stand.
use Rattle.std.proofs.Common.{◌≡◌, ℕ, Bool, true, false, cond, List, [], ◌∷◌, ◌++◌, Option, None, Some, map, find, refl, sym, ap, ◌∙◌, subst, append-nil}
use Rattle.std.specs.List.{flat_map, list_any}
use Rattle.std.specs.Prelude.{codes, option_and_then, unwrap_or}
use Rattle.std.specs.Str.{bytes_eq}
use Rattle.doc_table.proofs.ListLemmas.{mem-head}
use Rattle.doc_tree.specs.Kinds.{can_be_kid, is_element}
use Rattle.doc_tree.specs.Laws.{HasWaysUp, Walks, WellFormed}
use Rattle.doc_tree.specs.Lines.{Line, first_lines, last_lines, lines_at, opens}
use Rattle.doc_tree.specs.Lists.{mem}
use Rattle.doc_tree.specs.Scope.{Decl, HasScopes, namespace_in, scope_at, xml_prefix, xmlns_prefix}
use Rattle.doc_tree.specs.Table.{Table, Name, Content, element, attrs_of, content_of, decls_at, decls_of, kids_of, kind_at, kind_of, parent_of}
use Rattle.name_scopes.proofs.ItemNames.{local-at, prefix-at}
use Rattle.name_scopes.specs.Declarations.{declarations, plain_attrs}
use Rattle.name_scopes.specs.ScopedTree.{Scoped, attribute_line, unscoped}
use Rattle.name_scopes.specs.Scoping.{ContentInScope, ElementInScope, InScope}
use Rattle.pyx_core.specs.declared.event.Attr.{Attr}
use Rattle.pyx_core.specs.declared.event.Event.{Event}
use Rattle.sch_base.specs.Names.{is_colon}
use Rattle.sch_flat.specs.FlatDocument.{element as event_element, only_given}
use Rattle.sch_flat_laws.proofs.Reading.Attributes.{SayAll, all_plain, are_plain, given_in, given_is, said_is, say_all}
use Rattle.sch_flat_laws.proofs.Reading.Document.{kid_items, no_attributes, root_is}
use Rattle.sch_flat_laws.proofs.Reading.Elements.{IsElement, is_element as is_event_element}
use Rattle.sch_flat_laws.proofs.Reading.EventBlocks.{Chunk, Holds, chunk_element, said as told_by}
use Rattle.sch_flat_laws.proofs.Reading.Kids.{Items, Pairs, Taken, none_left, take_pairs}
use Rattle.sch_flat_laws.proofs.Reading.TreeBlocks.{told, told_at}
use Rattle.svrl_read.specs.declared.value.SvrlReport.{SvrlReport}
use Rattle.svrl_read.specs.Places.{document_element, element_name, local_in, said, word_at}
use Rattle.svrl_read.specs.Words.{svrl, word_of}
use Rattle.svrl_laws.specs.ReportEvents.{held_of, report_events}

-- all kids are taken, in one run or in two
pub taken_whole : {A : Type 0} {T : Table} {f : A → List Event} {xs : List A} {ks : List ℕ} (t : Taken T f xs ks []) → ks ≡ t.front
taken_whole {T = T} t = t.parts ∙ ap (λ (l : List ℕ). t.front ++ l) (none_left T t.back t.items t.left) ∙ append-nil t.front

pub taken_both : {A B : Type 0} {T : Table} {f : A → List Event} {g : B → List Event} {xs : List A} {ys : List B} {ks : List ℕ} {rest : List Line}
    (t : Taken T f xs ks rest) (u : Taken T g ys t.back []) → ks ≡ t.front ++ u.front
taken_both t u = t.parts ∙ ap (λ (l : List ℕ). t.front ++ l) (taken_whole u)

-- the one declaration of the document
abbrev pub svrl_scope : List Decl
svrl_scope = (codes "svrl", svrl) ∷ []

-- an element with this local name, these attributes, and kids that tell what it holds
pub record Read (T : Table) (n : ℕ) (local : List ℕ) (given : List (List ℕ × Option (List ℕ))) (held : List Event) : Type 0 where
  pub scope : scope_at T n ≡ svrl_scope
  pub word : word_at T n ≡ word_of local
  pub says : (name : List ℕ) → said T n name ≡ given_in given name
  pub kids : flat_map (told T) (kids_of T n) ≡ told_by held
  pub its : Name
  pub decls : List Decl
  pub content : content_of T n ≡ Some (element its decls)

svrl-namespace : namespace_in svrl_scope (codes "svrl") ≡ Some svrl
unfolding xmlns_prefix xml_prefix
svrl-namespace = refl

svrl-colonless : list_any is_colon (codes "svrl") ≡ false
svrl-colonless = refl

own-namespace : bytes_eq svrl svrl ≡ true
own-namespace = refl

-- the name of an element with the prefix
pub record Named (its : Name) (local : List ℕ) : Type 0 where
  pub local_is : its.local ≡ local
  pub uri : its.uri ≡ svrl

abbrev svrl_attr : Attr
svrl_attr = record { name = codes "xmlns:svrl"; value = codes "http://purl.oclc.org/dsdl/svrl" }

abbrev pub plain_given : Option (List ℕ) → Option (List ℕ) → Option (List ℕ) → List (List ℕ × Option (List ℕ))
plain_given title phase version = (codes "title", title) ∷ (codes "phase", phase) ∷ (codes "schemaVersion", version) ∷ []

declared-there : (title phase version : Option (List ℕ)) → declarations (svrl_attr ∷ only_given (plain_given title phase version)) ≡ svrl_scope
unfolding xmlns_prefix
declared-there None None None = refl
declared-there None None (Some version) = refl
declared-there None (Some phase) None = refl
declared-there None (Some phase) (Some version) = refl
declared-there (Some title) None None = refl
declared-there (Some title) None (Some version) = refl
declared-there (Some title) (Some phase) None = refl
declared-there (Some title) (Some phase) (Some version) = refl

plain-there : (title phase version : Option (List ℕ)) →
    plain_attrs (svrl_attr ∷ only_given (plain_given title phase version)) ≡ only_given (plain_given title phase version)
unfolding xmlns_prefix
plain-there None None None = refl
plain-there None None (Some version) = refl
plain-there None (Some phase) None = refl
plain-there None (Some phase) (Some version) = refl
plain-there (Some title) None None = refl
plain-there (Some title) None (Some version) = refl
plain-there (Some title) (Some phase) None = refl
plain-there (Some title) (Some phase) (Some version) = refl

plain-names : (title phase version : Option (List ℕ)) → are_plain (plain_given title phase version) ≡ true
unfolding xmlns_prefix
plain-names title phase version = refl

abbrev pub given_of : SvrlReport → List (List ℕ × Option (List ℕ))
given_of report = plain_given report.title report.phase report.schema_version

-- the document element as it is found
pub record Found (T : Table) (report : SvrlReport) : Type 0 where
  pub node : ℕ
  pub is : document_element T ≡ node
  pub read : Read T node (codes "schematron-output") (given_of report) (held_of report)

module _ (T : Table) (formed : WellFormed T) (ways : HasWaysUp T) (walks : Walks T) (scopes : HasScopes T) (in_scope : InScope T) where
  named_element : (n : ℕ) (local : List ℕ) (attrs : List Attr) (held : List Event) (e : IsElement T n (codes "svrl" ++ 58 ∷ local) attrs held) →
      scope_at T n ≡ svrl_scope → Named e.its local
  named_element n local attrs held e scope =
      let prefix : e.its.prefix ≡ codes "svrl" = ap (λ (x : Name). x.prefix) e.named ∙ prefix-at (codes "svrl") local svrl-colonless in
      let here : ElementInScope (scope_at T n) e.its e.decls = subst (ContentInScope (scope_at T n)) e.content (in_scope n) in
      let uri : Some e.its.uri ≡ Some svrl =
      sym here.namespace ∙ ap (λ s. namespace_in s e.its.prefix) scope ∙ ap (namespace_in svrl_scope) prefix ∙ svrl-namespace in
      record {
        local_is = ap (λ (x : Name). x.local) e.named ∙ local-at (codes "svrl") local svrl-colonless;
        uri = cc;
      }

  word_named : (n : ℕ) (local : List ℕ) (attrs : List Attr) (held : List Event) (e : IsElement T n (codes "svrl" ++ 58 ∷ local) attrs held) →
      Named e.its local →
      word_at T n ≡ word_of local
  word_named n local attrs held e names =
      ap (λ (c : Option Content). option_and_then word_of (local_in (element_name c))) e.content
      ∙ ap (λ u. option_and_then word_of (cond (bytes_eq u svrl) (Some e.its.local) None)) names.uri
      ∙ ap (λ (b : Bool). option_and_then word_of (cond b (Some e.its.local) None)) own-namespace
      ∙ ap word_of names.local_is

  says-of : (n : ℕ) (given : List (List ℕ × Option (List ℕ))) → are_plain given ≡ true →
      SayAll T (attrs_of T n) (only_given given) → (wanted : List ℕ) → said T n wanted ≡ given_in given wanted
  says-of n given plain own wanted =
      said_is T in_scope (attrs_of T n) (only_given given) own (all_plain given plain).no_colons wanted ∙ given_is given plain wanted

  -- an element in another
  pub read_element : (p n : ℕ) (local : List ℕ) (given : List (List ℕ × Option (List ℕ))) (held : List Event) → scope_at T p ≡ svrl_scope →
      parent_of T n ≡ Some p →
      can_be_kid (kind_of T n) ≡ true → Items T (kids_of T n) → Holds held → are_plain given ≡ true →
      told T n ≡ told_by (event_element (codes "svrl" ++ 58 ∷ local) given held) → Read T n local given held
  read_element p n local given held place up kid items holds plain same =
      let e = is_event_element T formed ways walks n (codes "svrl" ++ 58 ∷ local) (only_given given) held holds items kid same in
      let all = all_plain given plain in
      let decls : decls_at (content_of T n) ≡ [] = ap decls_at e.content ∙ e.declared ∙ all.nothing_declared in
      let scope : scope_at T n ≡ svrl_scope = scopes.under n p up ∙ ap (λ (l : List Decl). l ++ scope_at T p) decls ∙ place in
      let own : SayAll T (attrs_of T n) (only_given given) =
      say_all T (attrs_of T n) (formed.attribute_kind n) (only_given given) (e.attributes ∙ ap (map attribute_line) all.all_kept) in
      record {
        scope = scope;
        word = word_named n local (only_given given) held e (named_element n local (only_given given) held e scope);
        says = says-of n given plain own;
        kids = e.kids;
        its = e.its;
        decls = e.decls;
        content = e.content;
      }

  root-told : told T 0 ≡ flat_map (told T) (kids_of T 0)
  root-told =
      let root = root_is T formed ways walks scopes in_scope in
      let none = no_attributes T formed ways walks scopes in_scope (attrs_of T 0) (λ a h. h) in
      told_at T formed ways walks 0
      ∙ ap (λ l. (map unscoped (opens T 0) ++ map unscoped (flat_map (opens T) l)) ++ (flat_map (told T) (kids_of T 0) ++ map unscoped (lines_at last_lines (content_of T 0)))) none
      ∙ ap (λ (c : Option Content). (map unscoped (lines_at first_lines c) ++ []) ++ (flat_map (told T) (kids_of T 0) ++ map unscoped (lines_at last_lines c))) root
      ∙ append-nil (flat_map (told T) (kids_of T 0))

  found-element : (report : SvrlReport) → Holds (held_of report) → (d : ℕ) → kids_of T 0 ≡ d ∷ [] → told T d ≡ told_by (report_events report) →
      Found T report
  found-element report holds d kids same =
      let member : mem d (kids_of T 0) ≡ true = ap (mem d) kids ∙ mem-head d [] in
      let up = formed.kid_parent 0 d member in
      let attrs : List Attr = svrl_attr ∷ only_given (given_of report) in
      let e = is_event_element T formed ways walks d (codes "svrl:schematron-output") attrs (held_of report) holds
      (kid_items T formed ways walks scopes in_scope d) (formed.kid_kind 0 d member) same in
      let decls : decls_of T d ≡ svrl_scope = ap decls_at e.content ∙ e.declared ∙ declared-there report.title report.phase report.schema_version in
      let above : scope_at T 0 ≡ [] = scopes.at_top 0 formed.root_parent ∙ ap decls_at (root_is T formed ways walks scopes in_scope) in
      let scope : scope_at T d ≡ svrl_scope = scopes.under d 0 up ∙ ap (λ (l : List Decl). decls_of T d ++ l) above
      ∙ append-nil (decls_of T d) ∙ decls in
      let own : SayAll T (attrs_of T d) (only_given (given_of report)) =
      say_all T (attrs_of T d) (formed.attribute_kind d) (only_given (given_of report))
      (e.attributes ∙ ap (map attribute_line) (plain-there report.title report.phase report.schema_version)) in
      record {
        node = d;
        is = ap (λ (l : List ℕ). unwrap_or (find (λ k. is_element (kind_of T k)) l) 0) kids
            ∙ ap (λ (b : Bool). unwrap_or (cond b (Some d) None) 0) (ap (λ (c : Option Content). is_element (kind_at c)) e.content);
        read = record {
          scope = scope;
          word = word_named d (codes "schematron-output") attrs (held_of report) e (named_element d (codes "schematron-output") attrs (held_of report) e scope);
          says = says-of d (given_of report) (plain-names report.title report.phase report.schema_version) own;
          kids = e.kids;
          its = e.its;
          decls = e.decls;
          content = e.content;
        };
      }

  pub found : ((r : SvrlReport) → Holds (held_of r)) → (report : SvrlReport) → Scoped (report_events report) T → Found T report
  found holds report scoped =
      let same : flat_map (told T) (kids_of T 0) ≡ told_by (flat_map report_events (report ∷ [])) ++ [] =
      sym root-told ∙ scoped.lines_are ∙ ap told_by (sym (append-nil (report_events report)))
      ∙ sym (append-nil (told_by (report_events report ++ []))) in
      by (take_pairs T report_events chunk (kids_of T 0) (kid_items T formed ways walks scopes in_scope 0) (report ∷ []) [] same)
    where
      chunk : (r : SvrlReport) → Chunk (report_events r)
      chunk r = chunk_element (codes "svrl:schematron-output") _ (held_of r) (holds r)

      pick : (front : List ℕ) → Pairs T report_events front (report ∷ []) → kids_of T 0 ≡ front → Found T report
      pick [] pairs kids = absurd pairs
      pick (d ∷ []) pairs kids = found-element report (holds report) d kids pairs.0
      pick (d ∷ e ∷ front) pairs kids = absurd pairs.1

      by : Taken T report_events (report ∷ []) (kids_of T 0) [] → Found T report
      by taken = pick taken.front taken.pairs (taken_whole taken)
