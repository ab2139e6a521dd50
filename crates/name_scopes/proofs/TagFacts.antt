-- What holds of a start tag whose names break no rule.
use Rattle.std.proofs.Common.{◌≡◌, ◌≢◌, ℕ, ◌+◌, ◌==◌, suc, Bool, true, false, not, ◌&&◌, ◌||◌, List, [], ◌∷◌, ◌++◌, length, take, drop, Option, None, Some, is_some, refl, sym, ap, ap₂, ◌∙◌, true≢false, arith}
use Rattle.std.proofs.lemmas.List.Folds.{list_any-append}
use Rattle.std.proofs.lemmas.Bool.{and_parts, or_parts, eqb-true}
use Rattle.std.specs.Prelude.{if◌then◌else◌, is_none, unwrap_or}
use Rattle.std.specs.List.{list_any, list_all, before_first, after_first, position_or_len}
use Rattle.std.specs.Option.{option_to_list}
use Rattle.std.specs.Str.{bytes_eq}
use Rattle.std.proofs.lemmas.Slice.Eq.{bytes_eq-Decides}
use Rattle.std.proofs.lemmas.Str.{chars-nil}
use Rattle.sch_base.specs.Lists.{is_nil}
use Rattle.sch_base.specs.Names.{is_colon, is_ncname, is_ncname_of, split_at_colon}
use Rattle.pyx_core.specs.declared.event.Attr.{Attr}
use Rattle.pyx_core.specs.LineTable.{is_qname}
use Rattle.pyx_core.specs.Nesting.{is_attr, is_name, of_chars}
use Rattle.doc_tree.specs.Scope.{Decl, first_declared, namespace_in, xmlns_prefix}
use Rattle.doc_write.specs.TreeText.{declaring_name}
use Rattle.name_scopes.specs.declared.fault.DocKind.TheVariants.{NoPrefix, SameAttribute, BadDeclaration, BothQuotes}
use Rattle.name_scopes.specs.QNames.{prefix_part, local_part}
use Rattle.name_scopes.specs.Declarations.{declaration_of, declarations, is_plain, plain_attrs, is_bad_declaration, has_both_quotes}
use Rattle.name_scopes.specs.Scoping.{attribute_namespace, is_part, declares_twice, is_good_declaration, ElementInScope, AttributeInScope}
use Rattle.name_scopes.specs.DocFaults.{tag_fault, lacks_prefix, has_pair, same_qname, same_expanded}
use Rattle.name_scopes.specs.inner.Build.{element_name, attribute_name}
use Rattle.doc_tree.proofs.RefusalLemmas.{none-of-five}
use Rattle.pyx_core.proofs.TextLemmas.{front_ascii, behind_front}

-- a start tag that breaks no rule of names
pub record TagIsGood (scope : List Decl) (name : List ℕ) (attrs : List Attr) : Type 0 where
  pub known : is_none (namespace_in scope (prefix_part name)) ≡ false
  pub all_known : list_any (lacks_prefix scope) (plain_attrs attrs) ≡ false
  pub qnames : has_pair same_qname attrs ≡ false
  pub expanded : has_pair (same_expanded scope) (plain_attrs attrs) ≡ false
  pub may_be : list_any is_bad_declaration (declarations attrs) ≡ false
  pub quoted : list_any has_both_quotes (declarations attrs) ≡ false

pub tag-good : (scope : List Decl) (name : List ℕ) (attrs : List Attr) → tag_fault scope name attrs ≡ None → TagIsGood scope name attrs
tag-good scope name attrs h =
    let parts = none-of-five
    (is_none (namespace_in scope (prefix_part name))) (list_any (lacks_prefix scope) (plain_attrs attrs)) (has_pair same_qname attrs || has_pair (same_expanded scope) (plain_attrs attrs))
    (list_any is_bad_declaration (declarations attrs)) (list_any has_both_quotes (declarations attrs)) NoPrefix NoPrefix SameAttribute BadDeclaration BothQuotes h in
    let pairs = or_parts (has_pair same_qname attrs) (has_pair (same_expanded scope) (plain_attrs attrs)) parts.2 in
    record { known = parts.0; all_known = parts.1; qnames = pairs.0; expanded = pairs.1; may_be = parts.3; quoted = parts.4 }

-- the parts of a QName

pub at-colon : (q : List ℕ) → list_any is_colon q ≡ true → q ≡ before_first is_colon q ++ 58 ∷ after_first is_colon q
at-colon [] h = absurd (true≢false (sym h))
at-colon (b ∷ q) h = by (b == 58) refl h (at-colon q)
  where
    by : (t : Bool) → (b == 58) ≡ t → (t || list_any is_colon q) ≡ true → (list_any is_colon q ≡ true → q ≡ before_first is_colon q ++ 58 ∷ after_first is_colon q)
        → b ∷ q ≡ take (if not t then 1 + position_or_len is_colon q else 0) (b ∷ q) ++ 58 ∷ drop ((if not t then 1 + position_or_len is_colon q else 0) + 1) (b ∷ q)
    by true e h rest = ap (λ (c : ℕ). c ∷ q) (eqb-true b 58 e)
    by false e h rest =
        let k : ℕ = position_or_len is_colon q in
        let front : suc k ≡ 1 + k = omega arith in
        let behind : suc (k + 1) ≡ 1 + k + 1 = omega arith in
        ap (λ (l : List ℕ). b ∷ l) (rest h) ∙ ap₂ (λ (m n : ℕ). take m (b ∷ q) ++ 58 ∷ drop n (b ∷ q)) front behind

pub record Parted (q : List ℕ) : Type 0 where
  pub qualified : ((is_nil (prefix_part q) || is_part (prefix_part q)) && is_part (local_part q)) ≡ true
  pub some_local : local_part q ≢ []
  pub without : prefix_part q ≡ [] → local_part q ≡ q
  pub with_prefix : prefix_part q ≢ [] → q ≡ prefix_part q ++ 58 ∷ local_part q

some-ncname : (text : List ℕ) → is_ncname text ≡ true → text ≢ []
some-ncname text h e = let none : is_ncname text ≡ false = ap is_ncname e ∙ ap is_ncname_of chars-nil in true≢false (sym h ∙ none)

or-right : (a : Bool) → (a || true) ≡ true
or-right true = refl
or-right false = refl

part : (name : List ℕ) → of_chars name ≡ true → is_ncname name ≡ true → is_part name ≡ true
part name made ncname = ap₂ (λ a b. a && b) made ncname

pub parted : (q : List ℕ) → is_name q ≡ true → Parted q
parted q name = by (list_any is_colon q) refl (and_parts (of_chars q) (is_qname q) name).1
  where
    made : of_chars q ≡ true
    made = (and_parts (of_chars q) (is_qname q) name).0

    by : (t : Bool) → list_any is_colon q ≡ t → is_some {T = ℕ × ℕ} (if t then split_at_colon (before_first is_colon q) (after_first is_colon q) else (if is_ncname q then Some (0, 0) else None)) ≡ true → Parted q
    by false e h =
        let ncname : is_ncname q ≡ true = inner (is_ncname q) h in
        let prefix : prefix_part q ≡ [] = ap (λ t. if t then before_first is_colon q else []) e in
        let local : local_part q ≡ q = ap (λ t. if t then after_first is_colon q else q) e in
        record {
          qualified = rw (prefix, local) (part q made ncname);
          some_local = λ none. some-ncname q ncname (sym local ∙ none);
          without = λ none. local;
          with_prefix = λ some. absurd (some prefix);
        }
      where
        inner : (u : Bool) → is_some {T = ℕ × ℕ} (if u then Some (0, 0) else None) ≡ true → u ≡ true
        inner true h = refl
        inner false h = absurd (true≢false (sym h))
    by true e h =
        let names = inner (is_ncname (before_first is_colon q)) (is_ncname (after_first is_colon q)) h in
        let prefix : prefix_part q ≡ before_first is_colon q = ap (λ t. if t then before_first is_colon q else []) e in
        let local : local_part q ≡ after_first is_colon q = ap (λ t. if t then after_first is_colon q else q) e in
        record {
          qualified =
              let cut : of_chars (before_first is_colon q ++ 58 ∷ after_first is_colon q) ≡ true = ap of_chars (sym (at-colon q e)) ∙ made in
              let front : is_part (before_first is_colon q) ≡ true = part (before_first is_colon q) (front_ascii 58 (before_first is_colon q) (after_first is_colon q) (omega arith) cut) names.0 in
              let back : is_part (after_first is_colon q) ≡ true = part (after_first is_colon q) (behind_front 58 (before_first is_colon q) (after_first is_colon q) (omega arith) cut) names.1 in
              rw (prefix, local) (ap₂ (λ a b. (is_nil (before_first is_colon q) || a) && b) front back ∙ ap (λ b. b && true) (or-right (is_nil (before_first is_colon q))));
          some_local = λ none. some-ncname (after_first is_colon q) names.1 (sym local ∙ none);
          without = λ none. absurd (some-ncname (before_first is_colon q) names.0 (sym prefix ∙ none));
          with_prefix = λ some. at-colon q e ∙ ap₂ (λ l r. l ++ 58 ∷ r) (sym prefix) (sym local);
        }
      where
        inner : (u v : Bool) → is_some {T = ℕ × ℕ} (if u && v then Some (length (before_first is_colon q), length (before_first is_colon q) + 1) else None) ≡ true → (u ≡ true) × (v ≡ true)
        inner true true h = (refl, refl)
        inner true false h = absurd (true≢false (sym h))
        inner false v h = absurd (true≢false (sym h))

-- declarations and their prefixes

pub some-xmlns : xmlns_prefix ≢ []
unfolding xmlns_prefix
some-xmlns e = absurd (cc)

named-local : (local : List ℕ) → local ≢ [] → xmlns_prefix ++ 58 ∷ local ≡ declaring_name local
named-local [] some = absurd (some refl)
named-local (b ∷ local) some = refl

-- what is declared by an attribute
pub record Declares (attr : Attr) (d : Decl) : Type 0 where
  pub name_is : attr.name ≡ declaring_name d.0
  pub prefix_is : (is_nil d.0 || is_part d.0) ≡ true
  pub uri_is : d.1 ≡ attr.value

pub declares : (attr : Attr) (d : Decl) → is_name attr.name ≡ true → declaration_of attr ≡ Some d → Declares attr d
declares attr d h e = by (bytes_eq attr.name xmlns_prefix) refl (bytes_eq (prefix_part attr.name) xmlns_prefix) refl e
  where
    by : (t : Bool) → bytes_eq attr.name xmlns_prefix ≡ t → (u : Bool) → bytes_eq (prefix_part attr.name) xmlns_prefix ≡ u
        → (if t then Some ([], attr.value) else if u then Some (local_part attr.name, attr.value) else None) ≡ Some d → Declares attr d
    by true et u eu e =
        let is : ([], attr.value) ≡ d = (cc) in
        let prefix : d.0 ≡ [] = sym (ap (λ (x : Decl). x.0) is) in
        record {
          name_is = (bytes_eq-Decides attr.name xmlns_prefix).0 et ∙ sym (ap declaring_name prefix);
          prefix_is = ap (λ p. is_nil p || is_part p) prefix;
          uri_is = sym (ap (λ (x : Decl). x.1) is);
        }
    by false et true eu e =
        let is : (local_part attr.name, attr.value) ≡ d = (cc) in
        let local : local_part attr.name ≡ d.0 = ap (λ (x : Decl). x.0) is in
        let p : Parted attr.name = parted attr.name h in
        let prefix : prefix_part attr.name ≡ xmlns_prefix = (bytes_eq-Decides (prefix_part attr.name) xmlns_prefix).0 eu in
        let ncname = and_parts (is_nil (prefix_part attr.name) || is_part (prefix_part attr.name)) (is_part (local_part attr.name)) p.qualified in
        record {
          name_is = p.with_prefix (λ none. some-xmlns (sym prefix ∙ none)) ∙ (ap₂ (λ (l r : List ℕ). l ++ 58 ∷ r) prefix local ∙ named-local d.0 (λ none. p.some_local (local ∙ none)));
          prefix_is = ap (λ b. is_nil d.0 || b) (ap is_part (sym local) ∙ ncname.1) ∙ or-right (is_nil d.0);
          uri_is = sym (ap (λ (x : Decl). x.1) is);
        }
    by false et false eu e = absurd (cc)

-- the attributes' names are QNames
abbrev pub AreAttrs : List Attr → Type 0
AreAttrs attrs = list_all is_attr attrs ≡ true

declares-again : (prefix : List ℕ) (attrs : List Attr) → AreAttrs attrs → list_any (λ (later : Decl). bytes_eq prefix later.0) (declarations attrs) ≡ true → list_any (λ (b : Attr). bytes_eq (declaring_name prefix) b.name) attrs ≡ true
declares-again prefix [] ok h = absurd (true≢false (sym h))
declares-again prefix (a ∷ attrs) ok h =
    let parts = and_parts (is_attr a) (list_all is_attr attrs) ok in
    let named = and_parts (is_name a.name) (of_chars a.value) parts.0 in
    by (declaration_of a) refl h named.0 (declares-again prefix attrs parts.1)
  where
    by : (o : Option Decl) → declaration_of a ≡ o → list_any (λ (later : Decl). bytes_eq prefix later.0) (option_to_list o ++ declarations attrs) ≡ true → is_name a.name ≡ true
        → (list_any (λ (later : Decl). bytes_eq prefix later.0) (declarations attrs) ≡ true → list_any (λ (b : Attr). bytes_eq (declaring_name prefix) b.name) attrs ≡ true)
        → (bytes_eq (declaring_name prefix) a.name || list_any (λ (b : Attr). bytes_eq (declaring_name prefix) b.name) attrs) ≡ true
    by None e h named rest = ap (λ b. bytes_eq (declaring_name prefix) a.name || b) (rest h) ∙ or-right (bytes_eq (declaring_name prefix) a.name)
    by (Some d) e h named rest = inner (bytes_eq prefix d.0) refl h
      where
        inner : (t : Bool) → bytes_eq prefix d.0 ≡ t → (t || list_any (λ (later : Decl). bytes_eq prefix later.0) (declarations attrs)) ≡ true
            → (bytes_eq (declaring_name prefix) a.name || list_any (λ (b : Attr). bytes_eq (declaring_name prefix) b.name) attrs) ≡ true
        inner true same h =
            let is : declaring_name prefix ≡ a.name = ap declaring_name ((bytes_eq-Decides prefix d.0).0 same) ∙ sym (declares a d named e).name_is in
            ap (λ b. b || list_any (λ (b : Attr). bytes_eq (declaring_name prefix) b.name) attrs) ((bytes_eq-Decides (declaring_name prefix) a.name).1 is)
        inner false same h = ap (λ b. bytes_eq (declaring_name prefix) a.name || b) (rest h) ∙ or-right (bytes_eq (declaring_name prefix) a.name)

-- attributes with different QNames declare different prefixes
pub declares-once : (attrs : List Attr) → AreAttrs attrs → has_pair same_qname attrs ≡ false → declares_twice (declarations attrs) ≡ false
declares-once [] ok h = refl
declares-once (a ∷ attrs) ok h =
    let parts = and_parts (is_attr a) (list_all is_attr attrs) ok in
    let named = and_parts (is_name a.name) (of_chars a.value) parts.0 in
    let apart = or_parts (list_any (same_qname a) attrs) (has_pair same_qname attrs) h in
    by (declaration_of a) refl named.0 apart.0 parts.1 (declares-once attrs parts.1 apart.1)
  where
    by : (o : Option Decl) → declaration_of a ≡ o → is_name a.name ≡ true → list_any (same_qname a) attrs ≡ false → AreAttrs attrs → declares_twice (declarations attrs) ≡ false
        → declares_twice (option_to_list o ++ declarations attrs) ≡ false
    by None e named apart ok rest = rest
    by (Some d) e named apart ok rest = ap₂ (λ x y. x || y) (inner (list_any (λ (later : Decl). bytes_eq d.0 later.0) (declarations attrs)) refl) rest
      where
        inner : (t : Bool) → list_any (λ (later : Decl). bytes_eq d.0 later.0) (declarations attrs) ≡ t → t ≡ false
        inner false h = refl
        inner true h =
            let again : list_any (λ (b : Attr). bytes_eq (declaring_name d.0) b.name) attrs ≡ true = declares-again d.0 attrs ok h in
            let same : list_any (same_qname a) attrs ≡ true = ap (λ (name : List ℕ). list_any (λ (b : Attr). bytes_eq name b.name) attrs) (declares a d named e).name_is ∙ again in
            absurd (true≢false (sym same ∙ apart))

-- a declaration after others that declare other prefixes
pub not-declared : (xs ys : List Decl) (d : Decl) → declares_twice (xs ++ d ∷ ys) ≡ false → first_declared xs d.0 ≡ None
not-declared [] ys d h = refl
not-declared (x ∷ xs) ys d h =
    let apart = or_parts (list_any (λ (later : Decl). bytes_eq x.0 later.0) (xs ++ d ∷ ys)) (declares_twice (xs ++ d ∷ ys)) h in
    let tests = or_parts (list_any (λ (later : Decl). bytes_eq x.0 later.0) xs) (bytes_eq x.0 d.0 || list_any (λ (later : Decl). bytes_eq x.0 later.0) ys)
    (sym (list_any-append (λ (later : Decl). bytes_eq x.0 later.0) xs (d ∷ ys)) ∙ apart.0) in
    let other : bytes_eq x.0 d.0 ≡ false = (or_parts (bytes_eq x.0 d.0) (list_any (λ (later : Decl). bytes_eq x.0 later.0) ys) tests.1).0 in
    ap (λ b. if b then Some x.1 else first_declared xs d.0) other ∙ not-declared xs ys d apart.1

-- each declaration may be

good-one : (a : Bool) (b c d : Bool) → a ≡ true → b ≡ true → c ≡ false → d ≡ false → (a && b && not c && not d) ≡ true
good-one a b c d ea eb ec ed = rw (ea, eb, ec, ed) refl

pub good-declarations : (attrs : List Attr) → AreAttrs attrs → list_any is_bad_declaration (declarations attrs) ≡ false → list_any has_both_quotes (declarations attrs) ≡ false →
    list_all is_good_declaration (declarations attrs) ≡ true
good-declarations [] ok may quoted = refl
good-declarations (a ∷ attrs) ok may quoted =
    let parts = and_parts (is_attr a) (list_all is_attr attrs) ok in
    let named = and_parts (is_name a.name) (of_chars a.value) parts.0 in
    by (declaration_of a) refl named.0 named.1 may quoted (good-declarations attrs parts.1)
  where
    by : (o : Option Decl) → declaration_of a ≡ o → is_name a.name ≡ true → of_chars a.value ≡ true → list_any is_bad_declaration (option_to_list o ++ declarations attrs) ≡ false
        → list_any has_both_quotes (option_to_list o ++ declarations attrs) ≡ false
        → (list_any is_bad_declaration (declarations attrs) ≡ false → list_any has_both_quotes (declarations attrs) ≡ false → list_all is_good_declaration (declarations attrs) ≡ true)
        → list_all is_good_declaration (option_to_list o ++ declarations attrs) ≡ true
    by None e named made may quoted rest = rest may quoted
    by (Some d) e named made may quoted rest =
        let m = or_parts (is_bad_declaration d) (list_any is_bad_declaration (declarations attrs)) may in
        let q = or_parts (has_both_quotes d) (list_any has_both_quotes (declarations attrs)) quoted in
        let s : Declares a d = declares a d named e in
        ap₂ (λ x y. x && y) (good-one (is_nil d.0 || is_part d.0) (of_chars d.1) (is_bad_declaration d) (has_both_quotes d) s.prefix_is (ap of_chars s.uri_is ∙ made) m.0 q.0) (rest m.1 q.1)

-- the names have their namespaces
some-namespace : (o : Option (List ℕ)) → is_none o ≡ false → o ≡ Some (unwrap_or o [])
some-namespace None h = absurd (true≢false h)
some-namespace (Some uri) h = refl

pub element-scoped : (scope : List Decl) (name : List ℕ) (attrs : List Attr) → is_name name ≡ true → AreAttrs attrs → TagIsGood scope name attrs → ElementInScope scope (element_name scope name) (declarations attrs)
element-scoped scope name attrs named ok good = record {
  named = (parted name named).qualified;
  namespace = some-namespace (namespace_in scope (prefix_part name)) good.known;
  declared = good-declarations attrs ok good.may_be good.quoted;
  once = declares-once attrs ok good.qnames;
}

pub attribute-scoped : (scope : List Decl) (attr : Attr) → is_attr attr ≡ true → is_plain attr ≡ true → lacks_prefix scope attr ≡ false → AttributeInScope scope (attribute_name scope attr.name) attr.value
attribute-scoped scope attr ok plain known =
    let parts = and_parts (is_name attr.name) (of_chars attr.value) ok in
    let p : Parted attr.name = parted attr.name parts.0 in
    record {
      named = p.qualified;
      namespace = some-namespace (attribute_namespace scope (prefix_part attr.name)) known;
      no_declaration = λ none is.
          let same : bytes_eq attr.name xmlns_prefix ≡ true = (bytes_eq-Decides attr.name xmlns_prefix).1 (sym (p.without none) ∙ is) in
          let declared : is_plain attr ≡ false = ap (λ t. is_none {T = Decl} (if t then Some ([], attr.value) else if bytes_eq (prefix_part attr.name) xmlns_prefix then Some (local_part attr.name, attr.value) else None)) same in
          true≢false (sym plain ∙ declared);
      made = parts.1;
    }
