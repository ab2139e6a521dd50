-- The names of items as they are written, read again.
use Rattle.std.proofs.Common.{◌≡◌, ℕ, zero, suc, ◌+◌, Bool, true, false, not, ◌&&◌, ◌||◌, List, [], ◌∷◌, ◌++◌, length, map, Option, None, Some, is_some, refl, sym, ap, ap₂, ◌∙◌, true≢false, arith, append-nil}
use Rattle.std.specs.Prelude.{if◌then◌else◌, nat_lt}
use Rattle.std.specs.List.{list_any, list_all, before_first, after_first}
use Rattle.std.specs.Option.{option_to_list}
use Rattle.std.specs.Str.{bytes_eq, IsAscii}
use borrow.Author.Tests.{ltb-true}
use Rattle.std.proofs.lemmas.Str.{IsUtf8-from_ascii, chars-IsAscii}
use Rattle.std.proofs.lemmas.Slice.Eq.{bytes_eq-Decides}
use Rattle.std.proofs.lemmas.Bool.{false_from_ne_true}
use Rattle.sch_base.specs.Characters.{is_name_char, is_name_start, is_xml_char}
use Rattle.sch_base.specs.Names.{is_colon, is_ncname, is_ncname_of, split_at_colon, QNamesSplit}
use Rattle.sch_base.proofs.NameLemmas.{after_colon, before_colon, has_colon}
use Rattle.pyx_core.specs.declared.event.Attr.{Attr}
use Rattle.pyx_core.specs.LineTable.{is_qname}
use Rattle.pyx_core.specs.Nesting.{is_attr, is_name, of_chars}
use Rattle.doc_tree.specs.Scope.{Decl, namespace_in, xmlns_prefix}
use Rattle.doc_tree.specs.Table.{Name}
use Rattle.doc_tree.specs.QNames.{qname_of, spelled_name}
use Rattle.doc_write.specs.TreeText.{declaring_name}
use Rattle.name_scopes.specs.QNames.{prefix_part, local_part}
use Rattle.name_scopes.specs.Declarations.{declaration_of, declarations, has_both_quotes, is_bad_declaration, plain_attrs}
use Rattle.name_scopes.specs.Scoping.{AttributeInScope, attribute_namespace, is_good_declaration, is_part, is_qualified}
use Rattle.std.proofs.lemmas.Bool.{and_parts, and_from}
use Rattle.sch_base.specs.Lists.{is_nil}
use Rattle.pyx_core.proofs.TextLemmas.{made_of, utf8_of, of_chars_append}
use Rattle.name_scopes.proofs.Items.{Pair, PairsFit, decl_attr, pair_attr, start_attrs}

-- two parts with a colon between them
pub prefix-at : (prefix local : List ℕ) → list_any is_colon prefix ≡ false → prefix_part (prefix ++ 58 ∷ local) ≡ prefix
prefix-at prefix local none = rw (has_colon prefix local) (before_colon prefix local none)

pub local-at : (prefix local : List ℕ) → list_any is_colon prefix ≡ false → local_part (prefix ++ 58 ∷ local) ≡ local
local-at prefix local none = rw (has_colon prefix local) (after_colon prefix local none)

-- one part
pub prefix-none : (local : List ℕ) → list_any is_colon local ≡ false → prefix_part local ≡ []
prefix-none local none = rw none refl

pub local-all : (local : List ℕ) → list_any is_colon local ≡ false → local_part local ≡ local
local-all local none = rw none refl

-- no part of a QName has a colon
pub without_colon : QNamesSplit → (name : List ℕ) → is_part name ≡ true → list_any is_colon name ≡ false
without_colon splits name h = by (list_any is_colon name) refl (splits.local name (utf8_of name parts.0) parts.1)
  where
    parts : (of_chars name ≡ true) × (is_ncname name ≡ true)
    parts = and_parts (of_chars name) (is_ncname name) h

    inner : (u : Bool) → if◌then◌else◌ {A = Option (ℕ × ℕ)} u (Some (length (before_first is_colon name), length (before_first is_colon name) + 1)) None ≡ Some (0, 0) → ⊥
    inner true h =
        let front : ℕ × ℕ = (length (before_first is_colon name), length (before_first is_colon name) + 1) in
        let zeros : ℕ × ℕ = (0, 0) in
        let is : front ≡ zeros = cc in
        let after : length (before_first is_colon name) + 1 ≡ 0 = ap (λ (p : ℕ × ℕ). p.1) is in
        omega arith
    inner false h = absurd (cc)

    by : (t : Bool) → list_any is_colon name ≡ t → if◌then◌else◌ {A = Option (ℕ × ℕ)} t (split_at_colon (before_first is_colon name) (after_first is_colon name)) (if◌then◌else◌ {A = Option (ℕ × ℕ)} (is_ncname name) (Some (0, 0)) None) ≡ Some (0, 0) → t ≡ false
    by false e h = refl
    by true e h = absurd (inner (is_ncname (before_first is_colon name) && is_ncname (after_first is_colon name)) h)

-- a name as it is written has its two parts
pub record Spelled (name : Name) : Type 0 where
  pub prefix : prefix_part (qname_of name) ≡ name.prefix
  pub local : local_part (qname_of name) ≡ name.local
  pub named : is_name (qname_of name) ≡ true

ascii : (bs : List ℕ) → list_all (λ b. nat_lt b 128) bs ≡ true → IsAscii bs
ascii [] h i = omega arith
ascii (b ∷ bs) h zero = let low : nat_lt b 128 ≡ true = (and_parts (nat_lt b 128) (list_all (λ b. nat_lt b 128) bs) h).0 in ltb-true b 128 low
ascii (b ∷ bs) h (suc i) = ascii bs (and_parts (nat_lt b 128) (list_all (λ b. nat_lt b 128) bs) h).1 i

ascii-made : (bs : List ℕ) → list_all (λ b. nat_lt b 128) bs ≡ true → list_all is_xml_char bs ≡ true → of_chars bs ≡ true
ascii-made bs low made = made_of bs (IsUtf8-from_ascii bs (ascii bs low)) (ap (list_all is_xml_char) (chars-IsAscii bs (ascii bs low)) ∙ made)

colon_made : of_chars (58 ∷ []) ≡ true
unfolding is_xml_char
colon_made = ascii-made (58 ∷ []) refl refl

pub spelled : QNamesSplit → (name : Name) → is_qualified name ≡ true → Spelled name
spelled splits name h = by name.prefix refl (and_parts (is_nil name.prefix || is_part name.prefix) (is_part name.local) h)
  where
    local : is_part name.local ≡ true → list_any is_colon name.local ≡ false
    local part = without_colon splits name.local part

    by : (prefix : List ℕ) → name.prefix ≡ prefix → ((is_nil prefix || is_part prefix) ≡ true) × (is_part name.local ≡ true) → Spelled name
    by [] e parts =
        let spells : qname_of name ≡ name.local = ap (λ p. spelled_name p name.local) e in
        let none = local parts.1 in
        let is = and_parts (of_chars name.local) (is_ncname name.local) parts.1 in
        record {
          prefix = ap prefix_part spells ∙ prefix-none name.local none ∙ sym e;
          local = ap local_part spells ∙ local-all name.local none;
          named = ap is_name spells ∙ and_from (of_chars name.local) (is_qname name.local) is.0 (ap is_some (splits.local name.local (utf8_of name.local is.0) is.1));
        }
    by (b ∷ prefix) e parts =
        let spells : qname_of name ≡ (b ∷ prefix) ++ 58 ∷ name.local = ap (λ p. spelled_name p name.local) e in
        let none = without_colon splits (b ∷ prefix) parts.0 in
        let is = and_parts (of_chars (b ∷ prefix)) (is_ncname (b ∷ prefix)) parts.0 in
        let own = and_parts (of_chars name.local) (is_ncname name.local) parts.1 in
        let made : of_chars ((b ∷ prefix) ++ 58 ∷ name.local) ≡ true = of_chars_append (b ∷ prefix) (58 ∷ name.local) is.0 (of_chars_append (58 ∷ []) name.local colon_made own.0) in
        record {
          prefix = ap prefix_part spells ∙ prefix-at (b ∷ prefix) name.local none ∙ sym e;
          local = ap local_part spells ∙ local-at (b ∷ prefix) name.local none;
          named = ap is_name spells ∙ and_from (of_chars ((b ∷ prefix) ++ 58 ∷ name.local)) (is_qname ((b ∷ prefix) ++ 58 ∷ name.local)) made
              (ap is_some (splits.prefixed (b ∷ prefix) name.local (utf8_of (b ∷ prefix) is.0) is.1 own.1));
        }

-- declarations

pub xmlns-colon : list_any is_colon xmlns_prefix ≡ false
unfolding xmlns_prefix
xmlns-colon = refl

xmlns-made : of_chars xmlns_prefix ≡ true
unfolding xmlns_prefix is_xml_char
xmlns-made = ascii-made xmlns_prefix refl refl

xmlns-named : is_ncname xmlns_prefix ≡ true
unfolding xmlns_prefix is_name_start is_name_char
xmlns-named = ap is_ncname_of (chars-IsAscii xmlns_prefix (ascii xmlns_prefix refl))

xmlns-part : is_part xmlns_prefix ≡ true
xmlns-part = and_from (of_chars xmlns_prefix) (is_ncname xmlns_prefix) xmlns-made xmlns-named

pub xmlns-same : bytes_eq xmlns_prefix xmlns_prefix ≡ true
xmlns-same = (bytes_eq-Decides xmlns_prefix xmlns_prefix).1 refl

-- a text with a colon is not `xmlns`
pub colon_apart : (prefix local : List ℕ) → bytes_eq (prefix ++ 58 ∷ local) xmlns_prefix ≡ false
colon_apart prefix local = false_from_ne_true (bytes_eq (prefix ++ 58 ∷ local) xmlns_prefix) (λ (same : bytes_eq (prefix ++ 58 ∷ local) xmlns_prefix ≡ true).
    true≢false (sym (has_colon prefix local) ∙ ap (list_any is_colon) ((bytes_eq-Decides (prefix ++ 58 ∷ local) xmlns_prefix).0 same) ∙ xmlns-colon))

-- what is declared is read again
pub declared : (prefix uri : List ℕ) → declaration_of (record { name = declaring_name prefix; value = uri }) ≡ Some (prefix, uri)
declared [] uri = rw xmlns-same refl
declared (b ∷ prefix) uri =
    rw (colon_apart xmlns_prefix (b ∷ prefix), prefix-at xmlns_prefix (b ∷ prefix) xmlns-colon, xmlns-same, local-at xmlns_prefix (b ∷ prefix) xmlns-colon) refl

pub declarations-again : (decls : List Decl) (attrs : List Attr) → declarations (map decl_attr decls ++ attrs) ≡ decls ++ declarations attrs
declarations-again [] attrs = refl
declarations-again (d ∷ decls) attrs = ap₂ (λ (o : Option Decl) (l : List Decl). option_to_list o ++ l) (declared d.0 d.1) (declarations-again decls attrs)

pub plain-none : (decls : List Decl) (attrs : List Attr) → plain_attrs (map decl_attr decls ++ attrs) ≡ plain_attrs attrs
plain-none [] attrs = refl
plain-none (d ∷ decls) attrs = rw (declared d.0 d.1) (plain-none decls attrs)

xmlns-some : bytes_eq [] xmlns_prefix ≡ false
unfolding xmlns_prefix
xmlns-some = refl

-- an attribute of a QName with these tests declares nothing
neither : (qname value : List ℕ) → bytes_eq qname xmlns_prefix ≡ false → bytes_eq (prefix_part qname) xmlns_prefix ≡ false →
    declaration_of (record { name = qname; value = value }) ≡ None
neither qname value one other = rw (one, other) refl

-- an attribute in scope declares nothing
pub no_declaration : QNamesSplit → (scope : List Decl) (a : Pair) → AttributeInScope scope a.0 a.1 → declaration_of (pair_attr a) ≡ None
no_declaration splits scope a fits = by a.0.prefix refl
  where
    parts : ((is_nil a.0.prefix || is_part a.0.prefix) ≡ true) × (is_part a.0.local ≡ true)
    parts = and_parts (is_nil a.0.prefix || is_part a.0.prefix) (is_part a.0.local) fits.named

    read : Spelled a.0
    read = spelled splits a.0 fits.named

    by : (prefix : List ℕ) → a.0.prefix ≡ prefix → declaration_of (pair_attr a) ≡ None
    by [] e =
        let spells : qname_of a.0 ≡ a.0.local = ap (λ p. spelled_name p a.0.local) e in
        neither (qname_of a.0) a.1
        (ap (λ q. bytes_eq q xmlns_prefix) spells ∙ false_from_ne_true (bytes_eq a.0.local xmlns_prefix) (λ (same : bytes_eq a.0.local xmlns_prefix ≡ true).
        fits.no_declaration e ((bytes_eq-Decides a.0.local xmlns_prefix).0 same)))
        (ap (λ p. bytes_eq p xmlns_prefix) (read.prefix ∙ e) ∙ xmlns-some)
    by (b ∷ prefix) e =
        let spells : qname_of a.0 ≡ (b ∷ prefix) ++ 58 ∷ a.0.local = ap (λ p. spelled_name p a.0.local) e in
        let known : namespace_in scope (b ∷ prefix) ≡ Some a.0.uri = ap (attribute_namespace scope) (sym e) ∙ fits.namespace in
        neither (qname_of a.0) a.1
        (ap (λ q. bytes_eq q xmlns_prefix) spells ∙ colon_apart (b ∷ prefix) a.0.local)
        (ap (λ p. bytes_eq p xmlns_prefix) (read.prefix ∙ e) ∙ false_from_ne_true (bytes_eq (b ∷ prefix) xmlns_prefix) (λ (same : bytes_eq (b ∷ prefix) xmlns_prefix ≡ true).
        let unknown : namespace_in scope (b ∷ prefix) ≡ None = rw same refl in
        absurd (let clash : Some a.0.uri ≡ None = sym known ∙ unknown in cc)))

pub no_declarations : QNamesSplit → (scope : List Decl) (attrs : List Pair) → PairsFit scope attrs → declarations (map pair_attr attrs) ≡ []
no_declarations splits scope [] fit = refl
no_declarations splits scope (a ∷ attrs) fit = ap₂ (λ (o : Option Decl) (l : List Decl). option_to_list o ++ l) (no_declaration splits scope a fit.0) (no_declarations splits scope attrs fit.1)

pub all_plain : QNamesSplit → (scope : List Decl) (attrs : List Pair) → PairsFit scope attrs → plain_attrs (map pair_attr attrs) ≡ map pair_attr attrs
all_plain splits scope [] fit = refl
all_plain splits scope (a ∷ attrs) fit = rw (no_declaration splits scope a fit.0) (ap (λ l. pair_attr a ∷ l) (all_plain splits scope attrs fit.1))

-- a start tag's declarations and attributes
pub tag-declarations : QNamesSplit → (scope decls : List Decl) (attrs : List Pair) → PairsFit scope attrs → declarations (start_attrs decls attrs) ≡ decls
tag-declarations splits scope decls attrs fit =
    declarations-again decls (map pair_attr attrs) ∙ ap (λ l. decls ++ l) (no_declarations splits scope attrs fit) ∙ append-nil decls

pub tag-attributes : QNamesSplit → (scope decls : List Decl) (attrs : List Pair) → PairsFit scope attrs → plain_attrs (start_attrs decls attrs) ≡ map pair_attr attrs
tag-attributes splits scope decls attrs fit = plain-none decls (map pair_attr attrs) ∙ all_plain splits scope attrs fit

-- the names of the attributes that declare, and of the others, are QNames
declaring-named : QNamesSplit → (prefix : List ℕ) → (is_nil prefix || is_part prefix) ≡ true → is_name (declaring_name prefix) ≡ true
declaring-named splits [] h =
    let is = and_parts (of_chars xmlns_prefix) (is_ncname xmlns_prefix) xmlns-part in
    and_from (of_chars xmlns_prefix) (is_qname xmlns_prefix) is.0 (ap is_some (splits.local xmlns_prefix (utf8_of xmlns_prefix is.0) is.1))
declaring-named splits (b ∷ prefix) h =
    let is = and_parts (of_chars xmlns_prefix) (is_ncname xmlns_prefix) xmlns-part in
    let own = and_parts (of_chars (b ∷ prefix)) (is_ncname (b ∷ prefix)) h in
    and_from (of_chars (xmlns_prefix ++ 58 ∷ b ∷ prefix)) (is_qname (xmlns_prefix ++ 58 ∷ b ∷ prefix))
    (of_chars_append xmlns_prefix (58 ∷ b ∷ prefix) is.0 (of_chars_append (58 ∷ []) (b ∷ prefix) colon_made own.0))
    (ap is_some (splits.prefixed xmlns_prefix (b ∷ prefix) (utf8_of xmlns_prefix is.0) is.1 own.1))

good-parts : (a b c d : Bool) → (a && b && c && d) ≡ true → (a ≡ true) × (b ≡ true) × (c ≡ true) × (d ≡ true)
good-parts true true true true h = (refl, refl, refl, refl)
good-parts true true true false h = absurd (cc)
good-parts true true false d h = absurd (cc)
good-parts true false c d h = absurd (cc)
good-parts false b c d h = absurd (cc)

-- what a good declaration is
pub record GoodDecl (decl : Decl) : Type 0 where
  pub prefix : (is_nil decl.0 || is_part decl.0) ≡ true
  pub made : of_chars decl.1 ≡ true
  pub may_be : is_bad_declaration decl ≡ false
  pub quoted : has_both_quotes decl ≡ false

not-true : (a : Bool) → not a ≡ true → a ≡ false
not-true true h = absurd (cc)
not-true false h = refl

pub good_decl : (decl : Decl) → is_good_declaration decl ≡ true → GoodDecl decl
good_decl decl h =
    let parts = good-parts (is_nil decl.0 || is_part decl.0) (of_chars decl.1) (not (is_bad_declaration decl)) (not (has_both_quotes decl)) h in
    record {
      prefix = parts.0;
      made = parts.1;
      may_be = not-true (is_bad_declaration decl) parts.2;
      quoted = not-true (has_both_quotes decl) parts.3;
    }

pairs-named : QNamesSplit → (scope : List Decl) (attrs : List Pair) → PairsFit scope attrs → list_all is_attr (map pair_attr attrs) ≡ true
pairs-named splits scope [] fit = refl
pairs-named splits scope (a ∷ attrs) fit =
    and_from (is_attr (pair_attr a)) (list_all is_attr (map pair_attr attrs))
    (and_from (is_name (qname_of a.0)) (of_chars a.1) (spelled splits a.0 fit.0.named).named fit.0.made) (pairs-named splits scope attrs fit.1)

pub tag-named : QNamesSplit → (scope decls : List Decl) (attrs : List Pair) → list_all is_good_declaration decls ≡ true → PairsFit scope attrs → list_all is_attr (start_attrs decls attrs) ≡ true
tag-named splits scope [] attrs good fit = pairs-named splits scope attrs fit
tag-named splits scope (d ∷ decls) attrs good fit =
    let parts = and_parts (is_good_declaration d) (list_all is_good_declaration decls) good in
    let g : GoodDecl d = good_decl d parts.0 in
    and_from (is_attr (decl_attr d)) (list_all is_attr (start_attrs decls attrs))
    (and_from (is_name (declaring_name d.0)) (of_chars d.1) (declaring-named splits d.0 g.prefix) g.made) (tag-named splits scope decls attrs parts.1 fit)
