-- What the tests of fragments say of items in scope: no name breaks a rule, and no element stands too deep.
use Rattle.std.proofs.Common.{◌≡◌, ℕ, ◌+◌, ◌≤◌, suc, Bool, true, false, ◌||◌, List, [], ◌∷◌, ◌++◌, length, Option, None, Some, is_some, refl, sym, ap, ap₂, ◌∙◌, subst, true≢false, arith, append-nil, append_assoc}
use Rattle.std.specs.Prelude.{if◌then◌else◌, is_none, nat_lt}
use Rattle.std.specs.List.{list_any}
use Rattle.std.specs.Option.{option_or}
use Rattle.std.proofs.lemmas.Bool.{ltb-true}
use Rattle.sch_base.specs.Names.{QNamesSplit}
use Rattle.pyx_core.specs.declared.event.Attr.{Attr}
use Rattle.pyx_core.specs.declared.event.Event.{Event}
use Rattle.pyx_core.specs.declared.event.Event.TheVariants as event
use Rattle.doc_tree.specs.limits.TheConstants.{MAX_DEPTH, MAX_LIVE_NODES}
use Rattle.doc_tree.specs.Scope.{Decl, namespace_in}
use Rattle.doc_tree.specs.Table.{Name}
use Rattle.doc_tree.specs.QNames.{qname_of}
use Rattle.doc_tree.proofs.RefusalLemmas.{or-false, or-none}
use Rattle.name_scopes.specs.declared.fault.DocKind.{DocKind}
use Rattle.name_scopes.specs.declared.fault.DocKind.TheVariants as kind
use Rattle.name_scopes.specs.Declarations.{declarations, plain_attrs}
use Rattle.name_scopes.specs.DocFaults.{declaring_fault, has_pair, in_scope, lacks_prefix, limit_fault, same_expanded, same_qname, tag_fault, tag_nodes}
use Rattle.name_scopes.specs.Fragments.{is_too_deep, names_fault, own_tag_fault, some_tag, tag_doubles, tag_lacks_prefix}
use Rattle.name_scopes.specs.QNames.{prefix_part}
use Rattle.name_scopes.proofs.ItemFaults.{NoFault, items-none, standing_at}
use Rattle.name_scopes.proofs.ItemNames.{tag-declarations}
use Rattle.name_scopes.proofs.Items.{Items, nothing, an_element, a_text, a_comment, an_instruction, Fit, Pair, TagFits, item_events, item_nodes, start_attrs}

first-of : {A : Type 0} (a : Bool) (r : A) (rest : Option A) → (if a then Some r else rest) ≡ None → (a ≡ false) × (rest ≡ None)
first-of true r rest h = absurd (true≢false (ap is_some h))
first-of false r rest h = (refl, h)

-- a start tag in scope breaks no rule of names
pub record IsFree (scope : List Decl) (name : List ℕ) (attrs : List Attr) : Type 0 where
  pub known : tag_lacks_prefix scope name attrs ≡ false
  pub apart : tag_doubles scope name attrs ≡ false
  pub own : own_tag_fault attrs ≡ None

is-free : (scope : List Decl) (name : List ℕ) (attrs : List Attr) → tag_fault scope name attrs ≡ None → IsFree scope name attrs
is-free scope name attrs none =
    let one = first-of (is_none (namespace_in scope (prefix_part name))) kind.NoPrefix
    (if list_any (lacks_prefix scope) (plain_attrs attrs) then Some kind.NoPrefix
    else if has_pair same_qname attrs || has_pair (same_expanded scope) (plain_attrs attrs) then Some kind.SameAttribute
    else declaring_fault attrs) none in
    let two = first-of (list_any (lacks_prefix scope) (plain_attrs attrs)) kind.NoPrefix
    (if has_pair same_qname attrs || has_pair (same_expanded scope) (plain_attrs attrs) then Some kind.SameAttribute else declaring_fault attrs) one.1 in
    let three = first-of (has_pair same_qname attrs || has_pair (same_expanded scope) (plain_attrs attrs)) kind.SameAttribute (declaring_fault attrs) two.1 in
    let pairs = or-false (has_pair same_qname attrs) (has_pair (same_expanded scope) (plain_attrs attrs)) three.0 in
    record {
      known = rw (one.0, two.0) refl;
      apart = pairs.1;
      own = rw (pairs.0) three.1;
    }

tag-free : QNamesSplit → (scope : List Decl) (name : Name) (decls : List Decl) (attrs : List Pair) → TagFits (decls ++ scope) name decls attrs → suc (length attrs) ≤ MAX_LIVE_NODES →
    IsFree (declarations (start_attrs decls attrs) ++ scope) (qname_of name) (start_attrs decls attrs)
tag-free splits scope name decls attrs fits few =
    let around : in_scope (scope ∷ []) ≡ scope = append-nil scope in
    let here : TagFits (decls ++ in_scope (scope ∷ [])) name decls attrs = subst (λ (s : List Decl). TagFits (decls ++ s) name decls attrs) (sym around) fits in
    let fit : Fit (in_scope (scope ∷ [])) 1 false (an_element name decls attrs nothing nothing) = (here, omega arith, tt, tt) in
    let none : NoFault (standing_at (scope ∷ []) 0) (item_events (an_element name decls attrs nothing nothing)) =
    items-none splits (an_element name decls attrs nothing nothing) false (scope ∷ []) 0 fit (omega (arith, few)) in
    let fault : tag_fault (declarations (start_attrs decls attrs) ++ in_scope (scope ∷ [])) (qname_of name) (start_attrs decls attrs) ≡ None =
    (or-none (tag_fault (in_scope (declarations (start_attrs decls attrs) ∷ scope ∷ [])) (qname_of name) (start_attrs decls attrs))
    (limit_fault (0 + tag_nodes (start_attrs decls attrs)) 2) none.0).0 in
    is-free (declarations (start_attrs decls attrs) ++ scope) (qname_of name) (start_attrs decls attrs)
    (subst (λ (s : List Decl). tag_fault (declarations (start_attrs decls attrs) ++ s) (qname_of name) (start_attrs decls attrs) ≡ None) around fault)

-- a test that no start tag in scope passes
module _ (test : List Decl → List ℕ → List Attr → Bool) (splits : QNamesSplit)
    (fails : (scope : List Decl) (name : List ℕ) (attrs : List Attr) → IsFree scope name attrs → test scope name attrs ≡ false) where
  pub tags-pass : (items : Items) (depth : ℕ) (behind : Bool) (scopes : List (List Decl)) (more : List Event) → Fit (in_scope scopes) depth behind items → item_nodes items ≤ MAX_LIVE_NODES →
      some_tag test scopes (item_events items ++ more) ≡ some_tag test scopes more
  tags-pass nothing depth behind scopes more fit few = refl
  tags-pass (an_element name decls attrs kids rest) depth behind scopes more fit few =
      let sa : List Attr = start_attrs decls attrs in
      let later : List Event = event.End (qname_of name) ∷ (item_events rest ++ more) in
      let free : IsFree (declarations sa ++ in_scope scopes) (qname_of name) sa = tag-free splits (in_scope scopes) name decls attrs fit.0 (omega (arith, few)) in
      ap₂ (λ (b : Bool) (l : List Event). b || some_tag test (declarations sa ∷ scopes) l) (fails (declarations sa ++ in_scope scopes) (qname_of name) sa free)
      (append_assoc (item_events kids) (event.End (qname_of name) ∷ item_events rest) more)
      ∙ (ap (λ (ds : List Decl). some_tag test (ds ∷ scopes) (item_events kids ++ later)) (tag-declarations splits (decls ++ in_scope scopes) decls attrs fit.0.attributes)
      ∙ (tags-pass kids (suc depth) false (decls ∷ scopes) later fit.2 (omega (arith, few)) ∙ tags-pass rest depth false scopes more fit.3 (omega (arith, few))))
  tags-pass (a_text characters rest) depth behind scopes more fit few = tags-pass rest depth true scopes more fit.3 (omega (arith, few))
  tags-pass (a_comment characters rest) depth behind scopes more fit few = tags-pass rest depth false scopes more fit.1 (omega (arith, few))
  tags-pass (an_instruction name body rest) depth behind scopes more fit few = tags-pass rest depth false scopes more fit.1 (omega (arith, few))

pub names-pass : QNamesSplit → (items : Items) (scope : List Decl) (depth : ℕ) (behind : Bool) (more : List Event) → Fit scope depth behind items → item_nodes items ≤ MAX_LIVE_NODES →
    names_fault (item_events items ++ more) ≡ names_fault more
names-pass splits nothing scope depth behind more fit few = refl
names-pass splits (an_element name decls attrs kids rest) scope depth behind more fit few =
    let sa : List Attr = start_attrs decls attrs in
    let later : List Event = event.End (qname_of name) ∷ (item_events rest ++ more) in
    ap₂ (λ (o : Option DocKind) (l : List Event). option_or o (names_fault l)) (tag-free splits scope name decls attrs fit.0 (omega (arith, few))).own
    (append_assoc (item_events kids) (event.End (qname_of name) ∷ item_events rest) more)
    ∙ (names-pass splits kids (decls ++ scope) (suc depth) false later fit.2 (omega (arith, few)) ∙ names-pass splits rest scope depth false more fit.3 (omega (arith, few)))
names-pass splits (a_text characters rest) scope depth behind more fit few = names-pass splits rest scope depth true more fit.3 (omega (arith, few))
names-pass splits (a_comment characters rest) scope depth behind more fit few = names-pass splits rest scope depth false more fit.1 (omega (arith, few))
names-pass splits (an_instruction name body rest) scope depth behind more fit few = names-pass splits rest scope depth false more fit.1 (omega (arith, few))

not-deep : (depth : ℕ) → suc depth ≤ MAX_DEPTH → nat_lt MAX_DEPTH (suc depth) ≡ false
not-deep depth h = by (nat_lt MAX_DEPTH (suc depth)) refl
  where
    by : (b : Bool) → nat_lt MAX_DEPTH (suc depth) ≡ b → b ≡ false
    by false e = refl
    by true e = absurd (omega (arith, ltb-true MAX_DEPTH (suc depth) e, h))

-- the root stands above, and counts
pub depths-pass : (items : Items) (scope : List Decl) (depth : ℕ) (behind : Bool) (more : List Event) → Fit scope depth behind items →
    is_too_deep (suc depth) (item_events items ++ more) ≡ is_too_deep (suc depth) more
depths-pass nothing scope depth behind more fit = refl
depths-pass (an_element name decls attrs kids rest) scope depth behind more fit =
    let later : List Event = event.End (qname_of name) ∷ (item_events rest ++ more) in
    ap₂ (λ (b : Bool) (l : List Event). b || is_too_deep (suc (suc depth)) l) (not-deep depth fit.1)
    (append_assoc (item_events kids) (event.End (qname_of name) ∷ item_events rest) more)
    ∙ (depths-pass kids (decls ++ scope) (suc depth) false later fit.2 ∙ depths-pass rest scope depth false more fit.3)
depths-pass (a_text characters rest) scope depth behind more fit = depths-pass rest scope depth true more fit.3
depths-pass (a_comment characters rest) scope depth behind more fit = depths-pass rest scope depth false more fit.1
depths-pass (an_instruction name body rest) scope depth behind more fit = depths-pass rest scope depth false more fit.1

pub known-pass : QNamesSplit → (items : Items) (depth : ℕ) (behind : Bool) (scopes : List (List Decl)) (more : List Event) → Fit (in_scope scopes) depth behind items → item_nodes items ≤ MAX_LIVE_NODES →
    some_tag tag_lacks_prefix scopes (item_events items ++ more) ≡ some_tag tag_lacks_prefix scopes more
known-pass splits = tags-pass tag_lacks_prefix splits (λ scope name attrs free. free.known)

pub apart-pass : QNamesSplit → (items : Items) (depth : ℕ) (behind : Bool) (scopes : List (List Decl)) (more : List Event) → Fit (in_scope scopes) depth behind items → item_nodes items ≤ MAX_LIVE_NODES →
    some_tag tag_doubles scopes (item_events items ++ more) ≡ some_tag tag_doubles scopes more
apart-pass splits = tags-pass tag_doubles splits (λ scope name attrs free. free.apart)
