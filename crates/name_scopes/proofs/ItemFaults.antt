-- No event of items breaks a rule of names or passes a limit.
use Rattle.std.proofs.Common.{◌≡◌, ◌≢◌, ℕ, suc, ◌+◌, ◌≤◌, Bool, true, false, ◌||◌, List, [], ◌∷◌, ◌++◌, length, map, Option, None, Some, refl, sym, ap, ap₂, ◌∙◌, subst, true≢false, arith}
use Rattle.std.proofs.lemmas.List.Folds.{list_any-append}
use Rattle.std.specs.Prelude.{if◌then◌else◌, is_none, unwrap_or, nat_lt}
use Rattle.std.specs.List.{list_any, list_all}
use Rattle.std.specs.Option.{option_or}
use Rattle.std.specs.Str.{bytes_eq}
use Rattle.std.proofs.lemmas.Slice.Eq.{bytes_eq-Decides}
use Rattle.std.proofs.lemmas.Bool.{false_from_ne_true, or_parts}
use Rattle.std.proofs.lemmas.Bool.Decides.{nat_tests}
use Rattle.sch_base.specs.Names.{QNamesSplit}
use Rattle.pyx_core.specs.declared.event.Attr.{Attr}
use Rattle.pyx_core.specs.declared.event.Event.{Event}
use Rattle.pyx_core.specs.declared.event.Event.TheVariants as event
use Rattle.pyx_core.specs.declared.event.Located.{Located}
use Rattle.pyx_core.specs.Nesting.{bare}
use Rattle.doc_tree.specs.limits.TheConstants.{MAX_DEPTH, MAX_LIVE_NODES}
use Rattle.doc_tree.specs.Scope.{Decl, namespace_in}
use Rattle.doc_tree.specs.Table.{Name, expanded}
use Rattle.doc_tree.specs.QNames.{qname_of}
use Rattle.doc_write.specs.TreeText.{declaring_name}
use Rattle.name_scopes.specs.declared.fault.DocKind.{DocKind}
use Rattle.name_scopes.specs.declared.fault.DocKind.TheVariants.{TooManyNodes}
use Rattle.name_scopes.specs.QNames.{prefix_part, local_part}
use Rattle.name_scopes.specs.Declarations.{declaration_of, declarations, is_bad_declaration, has_both_quotes}
use Rattle.name_scopes.specs.Scoping.{AttributeInScope, attribute_namespace, declares_twice, is_good_declaration}
use Rattle.name_scopes.specs.DocFaults.{Standing, in_scope, lacks_prefix, has_pair, same_qname, same_expanded, expanded_attr, tag_fault, tag_nodes, limit_fault, start_fault, event_fault, moved, first_fault}
use Rattle.name_scopes.proofs.TagLemmas.{qname-sound, expanded-sound}
use Rattle.name_scopes.proofs.TagFacts.{TagIsGood}
use Rattle.std.proofs.lemmas.Bool.{and_parts}
use Rattle.name_scopes.proofs.Items.{Items, nothing, an_element, a_text, a_comment, an_instruction, Pair, PairsFit, Differs, AllDiffer, TagFits, Fit, decl_attr, pair_attr, start_attrs, item_events, item_nodes}
use Rattle.name_scopes.proofs.ItemNames.{Spelled, spelled, declared, no_declaration, tag-attributes, tag-declarations, GoodDecl, good_decl}

neither : (a b : Bool) → a ≡ false → b ≡ false → (a || b) ≡ false
neither a b one other = rw (one, other) refl

-- the attributes of a start tag, one against another

-- the QNames of declarations are those of their prefixes
declaring-apart : (p q : List ℕ) → declaring_name p ≡ declaring_name q → p ≡ q
declaring-apart p q same =
    let is : Some (p, []) ≡ Some (q, []) = sym (declared p []) ∙ ap (λ (n : List ℕ). declaration_of (record { name = n; value = [] })) same ∙ declared q [] in
    let pair : (p, []) ≡ (q, []) = cc in
    ap (λ (d : Decl). d.0) pair

decls-apart : (d : Decl) (decls : List Decl) → list_any (λ (later : Decl). bytes_eq d.0 later.0) decls ≡ false → list_any (same_qname (decl_attr d)) (map decl_attr decls) ≡ false
decls-apart d [] once = refl
decls-apart d (e ∷ decls) once =
    let parts = or_parts (bytes_eq d.0 e.0) (list_any (λ (later : Decl). bytes_eq d.0 later.0) decls) once in
    neither (same_qname (decl_attr d) (decl_attr e)) (list_any (same_qname (decl_attr d)) (map decl_attr decls))
    (false_from_ne_true (same_qname (decl_attr d) (decl_attr e)) (λ (same : same_qname (decl_attr d) (decl_attr e) ≡ true).
    true≢false (sym ((bytes_eq-Decides d.0 e.0).1 (declaring-apart d.0 e.0 (qname-sound (decl_attr d) (decl_attr e) same))) ∙ parts.0)))
    (decls-apart d decls parts.1)

-- no attribute in scope has the QName of a declaration
pair-apart : QNamesSplit → (scope : List Decl) (d : Decl) (a : Pair) → AttributeInScope scope a.0 a.1 → same_qname (decl_attr d) (pair_attr a) ≡ false
pair-apart splits scope d a fits = false_from_ne_true (same_qname (decl_attr d) (pair_attr a)) (λ (same : same_qname (decl_attr d) (pair_attr a) ≡ true).
    let name : declaring_name d.0 ≡ qname_of a.0 = qname-sound (decl_attr d) (pair_attr a) same in
    let is : Some (d.0, a.1) ≡ None = sym (declared d.0 a.1) ∙ ap (λ (n : List ℕ). declaration_of (record { name = n; value = a.1 })) name ∙ no_declaration splits scope a fits in
    absurd (cc))

pairs-apart : QNamesSplit → (scope : List Decl) (d : Decl) (attrs : List Pair) → PairsFit scope attrs → list_any (same_qname (decl_attr d)) (map pair_attr attrs) ≡ false
pairs-apart splits scope d [] fit = refl
pairs-apart splits scope d (a ∷ attrs) fit =
    neither (same_qname (decl_attr d) (pair_attr a)) (list_any (same_qname (decl_attr d)) (map pair_attr attrs)) (pair-apart splits scope d a fit.0) (pairs-apart splits scope d attrs fit.1)

-- the expanded name of an attribute as it is read
expands : QNamesSplit → (scope : List Decl) (a : Pair) → AttributeInScope scope a.0 a.1 → (local_part (qname_of a.0) ≡ a.0.local) × (unwrap_or (attribute_namespace scope (prefix_part (qname_of a.0))) [] ≡ a.0.uri)
expands splits scope a fits =
    let s : Spelled a.0 = spelled splits a.0 fits.named in
    (s.local, ap (λ (o : Option (List ℕ)). unwrap_or o []) (ap (attribute_namespace scope) s.prefix ∙ fits.namespace))

-- attributes with different expanded names are not the same, by QName and by expanded name
expanded-apart : QNamesSplit → (scope : List Decl) (a b : Pair) → AttributeInScope scope a.0 a.1 → AttributeInScope scope b.0 b.1 → expanded a.0 ≢ expanded b.0 → same_expanded scope (pair_attr a) (pair_attr b) ≡ false
expanded-apart splits scope a b one other apart = false_from_ne_true (same_expanded scope (pair_attr a) (pair_attr b)) (λ (same : same_expanded scope (pair_attr a) (pair_attr b) ≡ true).
    let is : expanded_attr scope (pair_attr a) ≡ expanded_attr scope (pair_attr b) = expanded-sound scope (pair_attr a) (pair_attr b) same in
    let x = expands splits scope a one in
    let y = expands splits scope b other in
    absurd (apart (ap₂ (λ (uri local : List ℕ). (uri, local))
    (sym x.1 ∙ ap (λ (n : Name). n.uri) is ∙ y.1) (sym x.0 ∙ ap (λ (n : Name). n.local) is ∙ y.0))))

qname-apart : QNamesSplit → (scope : List Decl) (a b : Pair) → AttributeInScope scope a.0 a.1 → AttributeInScope scope b.0 b.1 → expanded a.0 ≢ expanded b.0 → same_qname (pair_attr a) (pair_attr b) ≡ false
qname-apart splits scope a b one other apart = false_from_ne_true (same_qname (pair_attr a) (pair_attr b)) (λ (same : same_qname (pair_attr a) (pair_attr b) ≡ true).
    let is : qname_of a.0 ≡ qname_of b.0 = qname-sound (pair_attr a) (pair_attr b) same in
    let x = expands splits scope a one in
    let y = expands splits scope b other in
    absurd (apart (ap₂ (λ (uri local : List ℕ). (uri, local))
    (sym x.1 ∙ ap (λ (q : List ℕ). unwrap_or (attribute_namespace scope (prefix_part q)) []) is ∙ y.1) (sym x.0 ∙ ap local_part is ∙ y.0))))

module _ (same : Attr → Attr → Bool) (scope : List Decl)
    (apart : (a b : Pair) → AttributeInScope scope a.0 a.1 → AttributeInScope scope b.0 b.1 → expanded a.0 ≢ expanded b.0 → same (pair_attr a) (pair_attr b) ≡ false) where
  one-apart : (a : Pair) (attrs : List Pair) → AttributeInScope scope a.0 a.1 → PairsFit scope attrs → Differs a.0 attrs → list_any (same (pair_attr a)) (map pair_attr attrs) ≡ false
  one-apart a [] fits fit differs = refl
  one-apart a (b ∷ attrs) fits fit differs =
      neither (same (pair_attr a) (pair_attr b)) (list_any (same (pair_attr a)) (map pair_attr attrs)) (apart a b fits fit.0 differs.0) (one-apart a attrs fits fit.1 differs.1)

  all-apart : (attrs : List Pair) → PairsFit scope attrs → AllDiffer attrs → has_pair same (map pair_attr attrs) ≡ false
  all-apart [] fit differ = refl
  all-apart (a ∷ attrs) fit differ =
      neither (list_any (same (pair_attr a)) (map pair_attr attrs)) (has_pair same (map pair_attr attrs)) (one-apart a attrs fit.0 fit.1 differ.0) (all-apart attrs fit.1 differ.1)

qnames-apart : QNamesSplit → (scope decls : List Decl) (attrs : List Pair) → declares_twice decls ≡ false → PairsFit scope attrs → AllDiffer attrs → has_pair same_qname (start_attrs decls attrs) ≡ false
qnames-apart splits scope [] attrs once fit differ = all-apart same_qname scope (qname-apart splits scope) attrs fit differ
qnames-apart splits scope (d ∷ decls) attrs once fit differ =
    let parts = or_parts (list_any (λ (later : Decl). bytes_eq d.0 later.0) decls) (declares_twice decls) once in
    neither (list_any (same_qname (decl_attr d)) (start_attrs decls attrs)) (has_pair same_qname (start_attrs decls attrs))
    (list_any-append (same_qname (decl_attr d)) (map decl_attr decls) (map pair_attr attrs)
    ∙ neither (list_any (same_qname (decl_attr d)) (map decl_attr decls)) (list_any (same_qname (decl_attr d)) (map pair_attr attrs)) (decls-apart d decls parts.0) (pairs-apart splits scope d attrs fit))
    (qnames-apart splits scope decls attrs parts.1 fit differ)

-- the prefixes of attributes are in scope
pairs-known : QNamesSplit → (scope : List Decl) (attrs : List Pair) → PairsFit scope attrs → list_any (lacks_prefix scope) (map pair_attr attrs) ≡ false
pairs-known splits scope [] fit = refl
pairs-known splits scope (a ∷ attrs) fit =
    neither (lacks_prefix scope (pair_attr a)) (list_any (lacks_prefix scope) (map pair_attr attrs))
    (ap is_none (ap (attribute_namespace scope) (spelled splits a.0 fit.0.named).prefix ∙ fit.0.namespace)) (pairs-known splits scope attrs fit.1)

-- good declarations may be
decls-may-be : (decls : List Decl) → list_all is_good_declaration decls ≡ true → (list_any is_bad_declaration decls ≡ false) × (list_any has_both_quotes decls ≡ false)
decls-may-be [] good = (refl, refl)
decls-may-be (d ∷ decls) good =
    let parts = and_parts (is_good_declaration d) (list_all is_good_declaration decls) good in
    let g : GoodDecl d = good_decl d parts.0 in
    let later = decls-may-be decls parts.1 in
    (neither (is_bad_declaration d) (list_any is_bad_declaration decls) g.may_be later.0, neither (has_both_quotes d) (list_any has_both_quotes decls) g.quoted later.1)

tag-is-good : QNamesSplit → (scope : List Decl) (name : Name) (decls : List Decl) (attrs : List Pair) → TagFits scope name decls attrs → TagIsGood scope (qname_of name) (start_attrs decls attrs)
tag-is-good splits scope name decls attrs fits =
    let plain = tag-attributes splits scope decls attrs fits.attributes in
    let own = tag-declarations splits scope decls attrs fits.attributes in
    let may = decls-may-be decls fits.element.declared in
    record {
      known = ap is_none (ap (namespace_in scope) (spelled splits name fits.element.named).prefix ∙ fits.element.namespace);
      all_known = ap (list_any (lacks_prefix scope)) plain ∙ pairs-known splits scope attrs fits.attributes;
      qnames = qnames-apart splits scope decls attrs fits.element.once fits.attributes fits.differ;
      expanded = ap (has_pair (same_expanded scope)) plain ∙ all-apart (same_expanded scope) scope (expanded-apart splits scope) attrs fits.attributes fits.differ;
      may_be = ap (list_any is_bad_declaration) own ∙ may.0;
      quoted = ap (list_any has_both_quotes) own ∙ may.1;
    }

tag-none : (scope : List Decl) (name : List ℕ) (attrs : List Attr) → TagIsGood scope name attrs → tag_fault scope name attrs ≡ None
tag-none scope name attrs good = rw (good.known, good.all_known, good.qnames, good.expanded, good.may_be, good.quoted) refl

limits-none : (nodes depth : ℕ) → nodes ≤ MAX_LIVE_NODES → depth ≤ MAX_DEPTH → limit_fault nodes depth ≡ None
limits-none nodes depth few shallow =
    let a : nat_lt MAX_LIVE_NODES nodes ≡ false = grind (arith, nat_tests) in
    let b : nat_lt MAX_DEPTH depth ≡ false = grind (arith, nat_tests) in
    rw (a, b) refl

map-length : {A B : Type 0} (f : A → B) (xs : List A) → length (map f xs) ≡ length xs
map-length f [] = refl
map-length f (x ∷ xs) = ap suc (map-length f xs)

tag-counts : QNamesSplit → (scope decls : List Decl) (attrs : List Pair) → PairsFit scope attrs → tag_nodes (start_attrs decls attrs) ≡ suc (length attrs)
tag-counts splits scope decls attrs fit = ap suc (ap length (tag-attributes splits scope decls attrs fit) ∙ map-length pair_attr attrs)

-- events without fault
abbrev pub NoFault : Standing → List Event → Type 0
NoFault standing [] = Unit {0}
NoFault standing (e ∷ events) = (event_fault standing e ≡ None) × NoFault (moved standing e) events

abbrev pub moved_by : Standing → List Event → Standing
moved_by standing [] = standing
moved_by standing (e ∷ events) = moved_by (moved standing e) events

none-append : (standing : Standing) (front back : List Event) → NoFault standing front → NoFault (moved_by standing front) back → NoFault standing (front ++ back)
none-append standing [] back one other = other
none-append standing (e ∷ front) back one other = (one.0, none-append (moved standing e) front back one.1 other)

moved-append : (standing : Standing) (front back : List Event) → moved_by standing (front ++ back) ≡ moved_by (moved_by standing front) back
moved-append standing [] back = refl
moved-append standing (e ∷ front) back = moved-append (moved standing e) front back

abbrev pub standing_at : List (List Decl) → ℕ → Standing
standing_at scopes nodes = record { scopes = scopes; nodes = nodes }

-- how things stand after a start tag
start-moves : QNamesSplit → (scope : List Decl) (name : Name) (decls : List Decl) (attrs : List Pair) (scopes : List (List Decl)) (nodes : ℕ) → PairsFit scope attrs →
    moved (standing_at scopes nodes) (event.Start (qname_of name) (start_attrs decls attrs)) ≡ standing_at (decls ∷ scopes) (nodes + suc (length attrs))
start-moves splits scope name decls attrs scopes nodes fit =
    ap₂ (λ (ds : List Decl) (n : ℕ). standing_at (ds ∷ scopes) (nodes + n)) (tag-declarations splits scope decls attrs fit) (tag-counts splits scope decls attrs fit)

pub items-move : QNamesSplit → (scope : List Decl) (depth : ℕ) (behind : Bool) (items : Items) (scopes : List (List Decl)) (nodes : ℕ) → Fit scope depth behind items →
    moved_by (standing_at scopes nodes) (item_events items) ≡ standing_at scopes (nodes + item_nodes items)
items-move splits scope depth behind nothing scopes nodes fit = ap (standing_at scopes) (omega arith)
items-move splits scope depth behind (an_element name decls attrs kids rest) scopes nodes fit =
    ap (λ (s : Standing). moved_by s (item_events kids ++ event.End (qname_of name) ∷ item_events rest)) (start-moves splits (decls ++ scope) name decls attrs scopes nodes fit.0.attributes)
    ∙ moved-append (standing_at (decls ∷ scopes) (nodes + suc (length attrs))) (item_events kids) (event.End (qname_of name) ∷ item_events rest)
    ∙ ap (λ (s : Standing). moved_by s (event.End (qname_of name) ∷ item_events rest)) (items-move splits (decls ++ scope) (suc depth) false kids (decls ∷ scopes) (nodes + suc (length attrs)) fit.2)
    ∙ items-move splits scope depth false rest scopes ((nodes + suc (length attrs)) + item_nodes kids) fit.3
    ∙ ap (standing_at scopes) (omega arith)
items-move splits scope depth behind (a_text characters rest) scopes nodes fit = items-move splits scope depth true rest scopes (suc nodes) fit.3 ∙ ap (standing_at scopes) (omega arith)
items-move splits scope depth behind (a_comment characters rest) scopes nodes fit = items-move splits scope depth false rest scopes (suc nodes) fit.1 ∙ ap (standing_at scopes) (omega arith)
items-move splits scope depth behind (an_instruction name body rest) scopes nodes fit = items-move splits scope depth false rest scopes (suc nodes) fit.1 ∙ ap (standing_at scopes) (omega arith)

node-none : (scopes : List (List Decl)) (nodes more : ℕ) → nodes + suc more ≤ MAX_LIVE_NODES → (if nat_lt MAX_LIVE_NODES (suc nodes) then Some TooManyNodes else None) ≡ None
node-none scopes nodes more few = let a : nat_lt MAX_LIVE_NODES (suc nodes) ≡ false = grind (arith, nat_tests) in rw a refl

-- a start tag breaks no rule and passes no limit
start-none : QNamesSplit → (name : Name) (decls : List Decl) (attrs : List Pair) (scopes : List (List Decl)) (nodes : ℕ) → TagFits (decls ++ in_scope scopes) name decls attrs →
    nodes + suc (length attrs) ≤ MAX_LIVE_NODES → suc (length scopes) ≤ MAX_DEPTH → start_fault (standing_at scopes nodes) (qname_of name) (start_attrs decls attrs) ≡ None
start-none splits name decls attrs scopes nodes fits few shallow =
    let scope : List Decl = decls ++ in_scope scopes in
    let own : declarations (start_attrs decls attrs) ++ in_scope scopes ≡ scope = ap (λ (ds : List Decl). ds ++ in_scope scopes) (tag-declarations splits scope decls attrs fits.attributes) in
    let names : tag_fault (declarations (start_attrs decls attrs) ++ in_scope scopes) (qname_of name) (start_attrs decls attrs) ≡ None =
    ap (λ (s : List Decl). tag_fault s (qname_of name) (start_attrs decls attrs)) own ∙ tag-none scope (qname_of name) (start_attrs decls attrs) (tag-is-good splits scope name decls attrs fits) in
    let limits : limit_fault (nodes + tag_nodes (start_attrs decls attrs)) (suc (length scopes)) ≡ None =
    ap (λ (n : ℕ). limit_fault (nodes + n) (suc (length scopes))) (tag-counts splits scope decls attrs fits.attributes) ∙ limits-none (nodes + suc (length attrs)) (suc (length scopes)) few shallow in
    ap₂ (λ (a b : Option DocKind). option_or a b) names limits

pub items-none : QNamesSplit → (items : Items) (behind : Bool) (scopes : List (List Decl)) (nodes : ℕ) → Fit (in_scope scopes) (length scopes) behind items → nodes + item_nodes items ≤ MAX_LIVE_NODES →
    NoFault (standing_at scopes nodes) (item_events items)
items-none splits nothing behind scopes nodes fit few = tt
items-none splits (an_element name decls attrs kids rest) behind scopes nodes fit few =
    let inner : List (List Decl) = decls ∷ scopes in
    let more : ℕ = nodes + suc (length attrs) in
    let within : NoFault (standing_at inner more) (item_events kids) = items-none splits kids false inner more fit.2 (omega arith) in
    let later : NoFault (standing_at scopes (more + item_nodes kids)) (item_events rest) = items-none splits rest false scopes (more + item_nodes kids) fit.3 (omega arith) in
    let place : moved_by (standing_at inner more) (item_events kids) ≡ standing_at inner (more + item_nodes kids) = items-move splits (decls ++ in_scope scopes) (suc (length scopes)) false kids inner more fit.2 in
    let ended : NoFault (standing_at inner (more + item_nodes kids)) (event.End (qname_of name) ∷ item_events rest) = (refl, later) in
    let P : Standing → Type 0 = λ s. NoFault s (event.End (qname_of name) ∷ item_events rest) in
    let Q : Standing → Type 0 = λ s. NoFault s (item_events kids ++ event.End (qname_of name) ∷ item_events rest) in (
      start-none splits name decls attrs scopes nodes fit.0 (omega arith) fit.1,
      subst Q (sym (start-moves splits (decls ++ in_scope scopes) name decls attrs scopes nodes fit.0.attributes))
          (none-append (standing_at inner more) (item_events kids) (event.End (qname_of name) ∷ item_events rest) within (subst P (sym place) ended)),
    )
items-none splits (a_text characters rest) behind scopes nodes fit few = (node-none scopes nodes (item_nodes rest) few, items-none splits rest true scopes (suc nodes) fit.3 (omega arith))
items-none splits (a_comment characters rest) behind scopes nodes fit few = (node-none scopes nodes (item_nodes rest) few, items-none splits rest false scopes (suc nodes) fit.1 (omega arith))
items-none splits (an_instruction name body rest) behind scopes nodes fit few = (node-none scopes nodes (item_nodes rest) few, items-none splits rest false scopes (suc nodes) fit.1 (omega arith))

-- events in their lines
pub first-none : (standing : Standing) (events : List Located) → NoFault standing (bare events) → first_fault standing events ≡ None
first-none standing [] none = refl
first-none standing (found ∷ events) none = rw (none.0) (first-none (moved standing found.event) events none.1)
