-- The events below a node are those of its items, and bring as many nodes and as much text as stand there.
use Rattle.std.proofs.Common.{◌≡◌, ◌≢◌, ℕ, ◌+◌, zero, suc, Bool, true, false, List, [], ◌∷◌, ◌++◌, length, map, Option, None, Some, refl, sym, ap, ap₂, ◌∙◌, arith, append-nil, append_assoc}
use Rattle.std.specs.Prelude.{sum_by}
use Rattle.std.specs.List.{flat_map}
use Rattle.std.proofs.lemmas.List.{map-append}
use Rattle.std.proofs.lemmas.List.Sums.{sum_by-append, sum_by-cons}
use Rattle.sch_base.specs.Names.{QNamesSplit}
use Rattle.pyx_core.specs.declared.event.Attr.{Attr}
use Rattle.pyx_core.specs.declared.event.Event.{Event}
use Rattle.pyx_core.specs.declared.event.Event.TheVariants as event
use Rattle.doc_tree.specs.kind.Kind.TheVariants.{Element, Attribute}
use Rattle.doc_tree.specs.Kinds.{can_be_kid, holds_kids}
use Rattle.doc_tree.specs.Laws.{WellFormed}
use Rattle.doc_tree.specs.QNames.{qname_of}
use Rattle.doc_tree.specs.Scope.{Decl}
use Rattle.doc_tree.specs.Table.{Table, Content, root, element, attribute, text, comment, instruction, attrs_of, content_of, kids_of, kind_at, value_at, value_of}
use Rattle.doc_tree.specs.Walks.{walk}
use Rattle.name_scopes.specs.Fragments.{event_nodes, plain_text}
use Rattle.name_scopes.proofs.ItemNames.{tag-attributes}
use Rattle.name_scopes.proofs.Items.{Items, nothing, an_element, a_text, a_comment, an_instruction, Pair, Fit, item_events, item_nodes, pair_attr, start_attrs}
use Rattle.name_scopes.proofs.ItemTables.{AreAttributes, AreKids, attributes-are, item, items_at, kids-are, no_attributes, no_kids, pairs_in, pairs_of}
use Rattle.subtree_events.specs.Events.{attr_in, begin_events, end_events, tag_attrs}

-- the attributes of a start tag
pair-attrs : (c : Option Content) → map pair_attr (pairs_in c) ≡ attr_in c
pair-attrs None = refl
pair-attrs (Some root) = refl
pair-attrs (Some (element name decls)) = refl
pair-attrs (Some (attribute name value)) = refl
pair-attrs (Some (text characters)) = refl
pair-attrs (Some (comment characters)) = refl
pair-attrs (Some (instruction name body)) = refl

pairs-attrs : (T : Table) (ns : List ℕ) → map pair_attr (pairs_of T ns) ≡ flat_map (λ a. attr_in (content_of T a)) ns
pairs-attrs T [] = refl
pairs-attrs T (a ∷ ns) =
    map-append pair_attr (pairs_in (content_of T a)) (pairs_of T ns)
    ∙ ap₂ (λ (x y : List Attr). x ++ y) (pair-attrs (content_of T a)) (pairs-attrs T ns)

tag-same : (T : Table) (n : ℕ) (decls : List Decl) → tag_attrs T n decls ≡ start_attrs decls (pairs_of T (attrs_of T n))
tag-same T n decls = sym (ap₂ (λ (x y : List Attr). x ++ y) refl (pairs-attrs T (attrs_of T n)))

-- attributes have no events of their own
silent : (T : Table) (a : ℕ) (c : Option Content) → kind_at c ≡ Some Attribute → begin_events T a c ≡ []
silent T a None kind = refl
silent T a (Some root) kind = refl
silent T a (Some (element name decls)) kind = absurd (cc)
silent T a (Some (attribute name value)) kind = refl
silent T a (Some (text characters)) kind = absurd (cc)
silent T a (Some (comment characters)) kind = absurd (cc)
silent T a (Some (instruction name body)) kind = absurd (cc)

abbrev pub begins : Table → ℕ → List Event
begins T m = begin_events T m (content_of T m)

abbrev pub finishes : Table → ℕ → List Event
finishes T m = end_events (content_of T m)

silent-all : (T : Table) (p : ℕ) (ns : List ℕ) → AreAttributes T p ns → flat_map (begins T) ns ≡ []
silent-all T p [] are = refl
silent-all T p (a ∷ ns) are = ap₂ (λ (x y : List Event). x ++ y) (silent T a (content_of T a) are.0) (silent-all T p ns are.2)

-- a node of a content with what is after it
kid-events : (T : Table) (kids : List ℕ → Items) (n : ℕ) (c : Option Content) (rest : Items) (A K R : List Event) → can_be_kid (kind_at c) ≡ true →
    (holds_kids (kind_at c) ≡ false → K ≡ []) → A ≡ [] → K ≡ item_events (kids (kids_of T n)) → R ≡ item_events rest →
    ((begin_events T n c ++ A) ++ (K ++ end_events c)) ++ R ≡ item_events (item T kids n c rest)
kid-events T kids n None rest A K R can no_k a k r = absurd (cc)
kid-events T kids n (Some root) rest A K R can no_k a k r = absurd (cc)
kid-events T kids n (Some (element name decls)) rest A K R can no_k a k r =
    ap (λ (x : List Event). ((event.Start (qname_of name) (tag_attrs T n decls) ∷ x) ++ (K ++ event.End (qname_of name) ∷ [])) ++ R) a
    ∙ (ap (λ (attrs : List Attr). event.Start (qname_of name) attrs ∷ ((K ++ event.End (qname_of name) ∷ []) ++ R)) (tag-same T n decls)
    ∙ ap (λ (l : List Event). event.Start (qname_of name) (start_attrs decls (pairs_of T (attrs_of T n))) ∷ l)
    (append_assoc K (event.End (qname_of name) ∷ []) R ∙ ap₂ (λ (x y : List Event). x ++ (event.End (qname_of name) ∷ y)) k r))
kid-events T kids n (Some (attribute name value)) rest A K R can no_k a k r = absurd (cc)
kid-events T kids n (Some (text characters)) rest A K R can no_k a k r =
    ap₂ (λ (x y : List Event). ((event.Chars characters ∷ x) ++ (y ++ [])) ++ R) a (no_k refl) ∙ ap (λ (l : List Event). event.Chars characters ∷ l) r
kid-events T kids n (Some (comment characters)) rest A K R can no_k a k r =
    ap₂ (λ (x y : List Event). ((event.Comment characters ∷ x) ++ (y ++ [])) ++ R) a (no_k refl) ∙ ap (λ (l : List Event). event.Comment characters ∷ l) r
kid-events T kids n (Some (instruction name body)) rest A K R can no_k a k r =
    ap₂ (λ (x y : List Event). ((event.Pi name.local body ∷ x) ++ (y ++ [])) ++ R) a (no_k refl) ∙ ap (λ (l : List Event). event.Pi name.local body ∷ l) r

none-flat : (ns : List ℕ) → flat_map {X = ℕ} {A = Event} (λ n. []) ns ≡ []
none-flat [] = refl
none-flat (n ∷ ns) = none-flat ns

abbrev events_to : Table → ℕ → ℕ → List Event
events_to T levels n = walk T (begins T) (finishes T) levels n

along-events : (T : Table) → WellFormed T → (levels : ℕ) → ((q : ℕ) (ms : List ℕ) → AreKids T q ms → flat_map (events_to T levels) ms ≡ item_events (items_at T levels ms)) →
    (p : ℕ) (ns : List ℕ) → AreKids T p ns → flat_map (events_to T (suc levels)) ns ≡ item_events (items_at T (suc levels) ns)
along-events T formed levels below p [] are = refl
along-events T formed levels below p (n ∷ ns) are =
    kid-events T (λ ms. items_at T levels ms) n (content_of T n) (items_at T (suc levels) ns) (flat_map (begins T) (attrs_of T n)) (flat_map (events_to T levels) (kids_of T n)) (flat_map (events_to T (suc levels)) ns)
    are.0
    (λ none. ap (flat_map (events_to T levels)) (no_kids T formed n none))
    (silent-all T n (attrs_of T n) (attributes-are T formed n))
    (below n (kids_of T n) (kids-are T formed n))
    (along-events T formed levels below p ns are.2)

pub item-events-are : (T : Table) → WellFormed T → (levels p : ℕ) (ns : List ℕ) → AreKids T p ns → flat_map (events_to T levels) ns ≡ item_events (items_at T levels ns)
item-events-are T formed zero p ns are = none-flat ns
item-events-are T formed (suc levels) p ns are = along-events T formed levels (λ q ms h. item-events-are T formed levels q ms h) p ns are

-- the bytes of text of items
abbrev pub pairs_text : List Pair → ℕ
pairs_text [] = 0
pairs_text (a ∷ attrs) = length a.1 + pairs_text attrs

abbrev pub item_bytes : Items → ℕ
item_bytes nothing = 0
item_bytes (an_element name decls attrs kids rest) = pairs_text attrs + (item_bytes kids + item_bytes rest)
item_bytes (a_text characters rest) = length characters + item_bytes rest
item_bytes (a_comment characters rest) = length characters + item_bytes rest
item_bytes (an_instruction name body rest) = length body + item_bytes rest

pairs-summed : (attrs : List Pair) → sum_by (λ attr. length attr.value) (map pair_attr attrs) ≡ pairs_text attrs
pairs-summed [] = refl
pairs-summed (a ∷ attrs) = sum_by-cons (λ attr. length attr.value) (pair_attr a) (map pair_attr attrs) ∙ ap (λ k. length a.1 + k) (pairs-summed attrs)

map-length : {A B : Type 0} (f : A → B) (xs : List A) → length (map f xs) ≡ length xs
map-length f [] = refl
map-length f (x ∷ xs) = ap suc (map-length f xs)

-- a weight of events, summed over an element's
element-sum : (w : Event → ℕ) (first last : Event) (kids rest more : List Event) → w last ≡ 0 →
    sum_by w ((first ∷ (kids ++ last ∷ rest)) ++ more) ≡ w first + (sum_by w kids + (sum_by w rest + sum_by w more))
element-sum w first last kids rest more none =
    sum_by-cons w first ((kids ++ last ∷ rest) ++ more)
    ∙ omega (arith, sum_by-append w (kids ++ last ∷ rest) more, sum_by-append w kids (last ∷ rest), sum_by-cons w last rest, none)

pub events-nodes : QNamesSplit → (scope : List Decl) (depth : ℕ) (behind : Bool) (items : Items) → Fit scope depth behind items → sum_by event_nodes (item_events items) ≡ item_nodes items
events-nodes splits scope depth behind nothing fit = refl
events-nodes splits scope depth behind (an_element name decls attrs kids rest) fit =
    let tag : event_nodes (event.Start (qname_of name) (start_attrs decls attrs)) ≡ suc (length attrs) =
    ap (λ (l : List Attr). suc (length l)) (tag-attributes splits (decls ++ scope) decls attrs fit.0.attributes) ∙ ap suc (map-length pair_attr attrs) in
    ap (sum_by event_nodes) (sym (append-nil (item_events (an_element name decls attrs kids rest))))
    ∙ element-sum event_nodes (event.Start (qname_of name) (start_attrs decls attrs)) (event.End (qname_of name)) (item_events kids) (item_events rest) [] refl
    ∙ omega (arith, tag, events-nodes splits (decls ++ scope) (suc depth) false kids fit.2, events-nodes splits scope depth false rest fit.3)
events-nodes splits scope depth behind (a_text characters rest) fit =
    sum_by-cons event_nodes (event.Chars characters) (item_events rest) ∙ omega (arith, events-nodes splits scope depth true rest fit.3)
events-nodes splits scope depth behind (a_comment characters rest) fit =
    sum_by-cons event_nodes (event.Comment characters) (item_events rest) ∙ omega (arith, events-nodes splits scope depth false rest fit.1)
events-nodes splits scope depth behind (an_instruction name body rest) fit =
    sum_by-cons event_nodes (event.Pi name.local body) (item_events rest) ∙ omega (arith, events-nodes splits scope depth false rest fit.1)

pub events-bytes : QNamesSplit → (scope : List Decl) (depth : ℕ) (behind : Bool) (items : Items) → Fit scope depth behind items → sum_by plain_text (item_events items) ≡ item_bytes items
events-bytes splits scope depth behind nothing fit = refl
events-bytes splits scope depth behind (an_element name decls attrs kids rest) fit =
    let tag : plain_text (event.Start (qname_of name) (start_attrs decls attrs)) ≡ pairs_text attrs =
    ap (sum_by (λ (attr : Attr). length attr.value)) (tag-attributes splits (decls ++ scope) decls attrs fit.0.attributes) ∙ pairs-summed attrs in
    ap (sum_by plain_text) (sym (append-nil (item_events (an_element name decls attrs kids rest))))
    ∙ element-sum plain_text (event.Start (qname_of name) (start_attrs decls attrs)) (event.End (qname_of name)) (item_events kids) (item_events rest) [] refl
    ∙ omega (arith, tag, events-bytes splits (decls ++ scope) (suc depth) false kids fit.2, events-bytes splits scope depth false rest fit.3)
events-bytes splits scope depth behind (a_text characters rest) fit =
    sum_by-cons plain_text (event.Chars characters) (item_events rest) ∙ omega (arith, events-bytes splits scope depth true rest fit.3)
events-bytes splits scope depth behind (a_comment characters rest) fit =
    sum_by-cons plain_text (event.Comment characters) (item_events rest) ∙ omega (arith, events-bytes splits scope depth false rest fit.1)
events-bytes splits scope depth behind (an_instruction name body rest) fit =
    sum_by-cons plain_text (event.Pi name.local body) (item_events rest) ∙ omega (arith, events-bytes splits scope depth false rest fit.1)

-- and so much stands at the nodes
abbrev numbers_to : Table → ℕ → ℕ → List ℕ
numbers_to T levels n = walk T (λ m. m ∷ []) (λ _. []) levels n

abbrev bytes_at : Table → ℕ → ℕ
bytes_at T m = length (value_of T m)

pair-bytes : (c : Option Content) → kind_at c ≡ Some Attribute → pairs_text (pairs_in c) ≡ length (value_at c)
pair-bytes None kind = absurd (cc)
pair-bytes (Some root) kind = absurd (cc)
pair-bytes (Some (element name decls)) kind = absurd (cc)
pair-bytes (Some (attribute name value)) kind = omega arith
pair-bytes (Some (text characters)) kind = absurd (cc)
pair-bytes (Some (comment characters)) kind = absurd (cc)
pair-bytes (Some (instruction name body)) kind = absurd (cc)

pairs-text-append : (xs ys : List Pair) → pairs_text (xs ++ ys) ≡ pairs_text xs + pairs_text ys
pairs-text-append [] ys = omega arith
pairs-text-append (x ∷ xs) ys = omega (arith, pairs-text-append xs ys)

pairs-bytes : (T : Table) (p : ℕ) (ns : List ℕ) → AreAttributes T p ns → pairs_text (pairs_of T ns) ≡ sum_by (bytes_at T) ns
pairs-bytes T p [] are = refl
pairs-bytes T p (a ∷ ns) are =
    pairs-text-append (pairs_in (content_of T a)) (pairs_of T ns)
    ∙ (ap₂ (λ (x y : ℕ). x + y) (pair-bytes (content_of T a) are.0) (pairs-bytes T p ns are.2) ∙ sym (sum_by-cons (bytes_at T) a ns))

singles : (ns : List ℕ) → flat_map (λ (m : ℕ). m ∷ []) ns ≡ ns
singles [] = refl
singles (n ∷ ns) = ap (λ l. n ∷ l) (singles ns)

kid-bytes : (T : Table) (kids : List ℕ → Items) (n : ℕ) (c : Option Content) (rest : Items) (own within : ℕ) → can_be_kid (kind_at c) ≡ true →
    (kind_at c ≢ Some Element → own ≡ 0) → (holds_kids (kind_at c) ≡ false → within ≡ 0) → pairs_text (pairs_of T (attrs_of T n)) ≡ own → item_bytes (kids (kids_of T n)) ≡ within →
    item_bytes (item T kids n c rest) ≡ length (value_at c) + (own + (within + item_bytes rest))
kid-bytes T kids n None rest own within can no_a no_k a k = absurd (cc)
kid-bytes T kids n (Some root) rest own within can no_a no_k a k = absurd (cc)
kid-bytes T kids n (Some (element name decls)) rest own within can no_a no_k a k = omega (arith, a, k)
kid-bytes T kids n (Some (attribute name value)) rest own within can no_a no_k a k = absurd (cc)
kid-bytes T kids n (Some (text characters)) rest own within can no_a no_k a k = omega (arith, no_a (λ h. absurd (cc)), no_k refl)
kid-bytes T kids n (Some (comment characters)) rest own within can no_a no_k a k = omega (arith, no_a (λ h. absurd (cc)), no_k refl)
kid-bytes T kids n (Some (instruction name body)) rest own within can no_a no_k a k = omega (arith, no_a (λ h. absurd (cc)), no_k refl)

numbers-bytes : (T : Table) (levels n : ℕ) →
    sum_by (bytes_at T) (numbers_to T (suc levels) n) ≡ bytes_at T n + (sum_by (bytes_at T) (attrs_of T n) + sum_by (bytes_at T) (flat_map (numbers_to T levels) (kids_of T n)))
numbers-bytes T levels n =
    ap (sum_by (bytes_at T)) (ap₂ (λ (x y : List ℕ). (n ∷ x) ++ y) (singles (attrs_of T n)) (append-nil (flat_map (numbers_to T levels) (kids_of T n))))
    ∙ (sum_by-append (bytes_at T) (n ∷ attrs_of T n) (flat_map (numbers_to T levels) (kids_of T n)) ∙ omega (arith, sum_by-cons (bytes_at T) n (attrs_of T n)))

along-bytes : (T : Table) → WellFormed T → (levels : ℕ) → ((q : ℕ) (ms : List ℕ) → AreKids T q ms → item_bytes (items_at T levels ms) ≡ sum_by (bytes_at T) (flat_map (numbers_to T levels) ms)) →
    (p : ℕ) (ns : List ℕ) → AreKids T p ns → item_bytes (items_at T (suc levels) ns) ≡ sum_by (bytes_at T) (flat_map (numbers_to T (suc levels)) ns)
along-bytes T formed levels below p [] are = refl
along-bytes T formed levels below p (n ∷ ns) are =
    let own : ℕ = sum_by (bytes_at T) (attrs_of T n) in
    let within : ℕ = sum_by (bytes_at T) (flat_map (numbers_to T levels) (kids_of T n)) in
    let here : item_bytes (items_at T (suc levels) (n ∷ ns)) ≡ bytes_at T n + (own + (within + item_bytes (items_at T (suc levels) ns))) =
    kid-bytes T (λ ms. items_at T levels ms) n (content_of T n) (items_at T (suc levels) ns) own within are.0
    (λ other. ap (sum_by (bytes_at T)) (no_attributes T formed n other))
    (λ none. ap (λ (ms : List ℕ). sum_by (bytes_at T) (flat_map (numbers_to T levels) ms)) (no_kids T formed n none))
    (pairs-bytes T n (attrs_of T n) (attributes-are T formed n)) (below n (kids_of T n) (kids-are T formed n)) in
    here
    ∙ omega (
      arith,
      along-bytes T formed levels below p ns are.2,
      numbers-bytes T levels n,
      sum_by-append (bytes_at T) (numbers_to T (suc levels) n) (flat_map (numbers_to T (suc levels)) ns),
    )

pub item-bytes-are : (T : Table) → WellFormed T → (levels p : ℕ) (ns : List ℕ) → AreKids T p ns → item_bytes (items_at T levels ns) ≡ sum_by (bytes_at T) (flat_map (numbers_to T levels) ns)
item-bytes-are T formed zero p ns are = sym (ap (sum_by (bytes_at T)) (none-numbers ns))
  where
    none-numbers : (ms : List ℕ) → flat_map {X = ℕ} {A = ℕ} (λ n. []) ms ≡ []
    none-numbers [] = refl
    none-numbers (m ∷ ms) = none-numbers ms
item-bytes-are T formed (suc levels) p ns are = along-bytes T formed levels (λ q ms h. item-bytes-are T formed levels q ms h) p ns are
