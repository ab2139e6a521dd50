-- The items of a tree.
use Rattle.std.proofs.Common.{◌≡◌, ◌≢◌, ℕ, zero, suc, ◌+◌, ◌==◌, Bool, true, false, List, [], ◌∷◌, ◌++◌, length, map, Option, None, Some, refl, sym, ap, ap₂, ◌∙◌, arith, append-nil, append_assoc, length-append}
use Rattle.std.proofs.Math.Bool.{or-true}
use Rattle.std.specs.Prelude.{count_by, if◌then◌else◌}
use Rattle.std.specs.List.{flat_map}
use Rattle.std.proofs.lemmas.Bool.{eq-eqb}
use Rattle.std.proofs.lemmas.List.{map-append}
use Rattle.std.proofs.lemmas.List.Sums.{sum_by-cons}
use Rattle.doc_tree.specs.kind.Kind.TheVariants.{Element, Attribute}
use Rattle.doc_tree.specs.Kinds.{can_be_kid, holds_kids, is_element, is_text}
use Rattle.doc_tree.specs.Laws.{HasWaysUp, Ordered, Walks, WellFormed}
use Rattle.doc_tree.specs.Lines.{Line, starts, declares, ends, has_text, has_comment, has_instruction, first_lines, last_lines, lines_at, opens, closes}
use Rattle.doc_tree.specs.Lists.{mem}
use Rattle.doc_tree.specs.Scope.{Decl, HasScopes}
use Rattle.doc_tree.specs.Table.{Table, Name, Content, root, element, attribute, text, comment, instruction, content_of, kind_of, kind_at, kids_of, attrs_of, parent_of}
use Rattle.doc_tree.specs.Walks.{below, walk}
use Rattle.name_scopes.proofs.Items.{Items, nothing, an_element, a_text, a_comment, an_instruction, Pair, pair_line, item_lines, item_nodes, top_elements, top_texts}

-- the attributes that nodes are
abbrev pub pairs_in : Option Content → List Pair
pairs_in None = []
pairs_in (Some root) = []
pairs_in (Some (element name decls)) = []
pairs_in (Some (attribute name value)) = (name, value) ∷ []
pairs_in (Some (text characters)) = []
pairs_in (Some (comment characters)) = []
pairs_in (Some (instruction name body)) = []

abbrev pub pairs_of : Table → List ℕ → List Pair
pairs_of T ns = flat_map (λ a. pairs_in (content_of T a)) ns

-- a node of a content with what is after it; its kids by the items of a list
abbrev pub item : Table → (List ℕ → Items) → ℕ → Option Content → Items → Items
item T kids n None rest = rest
item T kids n (Some root) rest = rest
item T kids n (Some (element name decls)) rest = an_element name decls (pairs_of T (attrs_of T n)) (kids (kids_of T n)) rest
item T kids n (Some (attribute name value)) rest = rest
item T kids n (Some (text characters)) rest = a_text characters rest
item T kids n (Some (comment characters)) rest = a_comment characters rest
item T kids n (Some (instruction name body)) rest = an_instruction name body rest

abbrev pub along : Table → (List ℕ → Items) → List ℕ → Items
along T kids [] = nothing
along T kids (n ∷ ns) = item T kids n (content_of T n) (along T kids ns)

-- nodes and all below them, so many levels deep
abbrev pub items_at : Table → ℕ → List ℕ → Items
items_at T zero ns = nothing
items_at T (suc levels) ns = along T (λ ms. items_at T levels ms) ns

-- what holds of a tree
pub record IsTree (T : Table) : Type 0 where
  pub formed : WellFormed T
  pub ordered : Ordered T
  pub ways : HasWaysUp T
  pub walks : Walks T
  pub scopes : HasScopes T

-- numbers of nodes that can be kids, of one parent
abbrev pub AreKids : Table → ℕ → List ℕ → Type 0
AreKids T p [] = Unit {0}
AreKids T p (n ∷ ns) = (can_be_kid (kind_of T n) ≡ true) × (parent_of T n ≡ Some p) × AreKids T p ns

-- numbers of attributes of one element
abbrev pub AreAttributes : Table → ℕ → List ℕ → Type 0
AreAttributes T p [] = Unit {0}
AreAttributes T p (a ∷ ns) = (kind_of T a ≡ Some Attribute) × (parent_of T a ≡ Some p) × AreAttributes T p ns

pub same_number : (n : ℕ) → (n == n) ≡ true
same_number n = eq-eqb n n refl

pub mem_first : (n : ℕ) (ns : List ℕ) → mem n (n ∷ ns) ≡ true
mem_first n ns = rw (same_number n) refl

pub mem_later : (n m : ℕ) (ns : List ℕ) → mem n ns ≡ true → mem n (m ∷ ns) ≡ true
mem_later n m ns h = rw h (or-true (n == m))

module _ (T : Table) (formed : WellFormed T) (p : ℕ) where
  kids-among : (ns : List ℕ) → ((k : ℕ) → mem k ns ≡ true → mem k (kids_of T p) ≡ true) → AreKids T p ns
  kids-among [] among = tt
  kids-among (n ∷ ns) among =
      let here : mem n (kids_of T p) ≡ true = among n (mem_first n ns) in
      (formed.kid_kind p n here, formed.kid_parent p n here, kids-among ns (λ k h. among k (mem_later k n ns h)))

  attributes-among : (ns : List ℕ) → ((a : ℕ) → mem a ns ≡ true → mem a (attrs_of T p) ≡ true) → AreAttributes T p ns
  attributes-among [] among = tt
  attributes-among (n ∷ ns) among =
      let here : mem n (attrs_of T p) ≡ true = among n (mem_first n ns) in
      (formed.attribute_kind p n here, formed.attribute_parent p n here, attributes-among ns (λ a h. among a (mem_later a n ns h)))

pub kids-are : (T : Table) → WellFormed T → (p : ℕ) → AreKids T p (kids_of T p)
kids-are T formed p = kids-among T formed p (kids_of T p) (λ k h. h)

pub attributes-are : (T : Table) → WellFormed T → (p : ℕ) → AreAttributes T p (attrs_of T p)
attributes-are T formed p = attributes-among T formed p (attrs_of T p) (λ a h. h)

-- a list without members is empty
no_members : (ns : List ℕ) → ((n : ℕ) → mem n ns ≡ true → ⊥) → ns ≡ []
no_members [] none = refl
no_members (n ∷ ns) none = absurd (none n (mem_first n ns))

-- only the root and elements have kids, and only elements attributes
pub no_kids : (T : Table) → WellFormed T → (n : ℕ) → holds_kids (kind_of T n) ≡ false → kids_of T n ≡ []
no_kids T formed n none = no_members (kids_of T n) (λ k h. let holds : holds_kids (kind_of T n) ≡ true = formed.holder_kind n k h in absurd (let clash : true ≡ false = sym holds ∙ none in cc))

pub no_attributes : (T : Table) → WellFormed T → (n : ℕ) → kind_of T n ≢ Some Element → attrs_of T n ≡ []
no_attributes T formed n other = no_members (attrs_of T n) (λ a h. other (formed.owner_kind n a h))

-- the lines of attributes
pair-opens : (c : Option Content) → kind_at c ≡ Some Attribute → lines_at first_lines c ≡ map pair_line (pairs_in c)
pair-opens None kind = absurd (cc)
pair-opens (Some root) kind = absurd (cc)
pair-opens (Some (element name decls)) kind = absurd (cc)
pair-opens (Some (attribute name value)) kind = refl
pair-opens (Some (text characters)) kind = absurd (cc)
pair-opens (Some (comment characters)) kind = absurd (cc)
pair-opens (Some (instruction name body)) kind = absurd (cc)

pairs-open : (T : Table) (p : ℕ) (ns : List ℕ) → AreAttributes T p ns → flat_map (opens T) ns ≡ map pair_line (pairs_of T ns)
pairs-open T p [] are = refl
pairs-open T p (a ∷ ns) are =
    ap₂ (λ (x y : List Line). x ++ y) (pair-opens (content_of T a) are.0) (pairs-open T p ns are.2)
    ∙ sym (map-append pair_line (pairs_in (content_of T a)) (pairs_of T ns))

-- the lines of a node of a content with what is after it
element-lines : (name : Name) (decls : List Decl) (attrs : List Pair) (kids rest : Items) (A K R : List Line) → A ≡ map pair_line attrs → K ≡ item_lines kids → R ≡ item_lines rest →
    (((starts name ∷ map declares decls) ++ A) ++ (K ++ ends name ∷ [])) ++ R ≡ item_lines (an_element name decls attrs kids rest)
element-lines name decls attrs kids rest A K R a k r =
    ap (λ l. starts name ∷ l) (
    append_assoc (map declares decls ++ A) (K ++ ends name ∷ []) R
    ∙ append_assoc (map declares decls) A ((K ++ ends name ∷ []) ++ R)
    ∙ ap (λ l. map declares decls ++ (A ++ l)) (append_assoc K (ends name ∷ []) R)
    ∙ ap (λ l. map declares decls ++ l) (ap₂ (λ (x y : List Line). x ++ y) a (ap₂ (λ (x y : List Line). x ++ (ends name ∷ y)) k r)))

kid-lines : (T : Table) (kids : List ℕ → Items) (n : ℕ) (c : Option Content) (rest : Items) (A K R : List Line) → can_be_kid (kind_at c) ≡ true →
    (kind_at c ≢ Some Element → A ≡ []) → (holds_kids (kind_at c) ≡ false → K ≡ []) →
    A ≡ map pair_line (pairs_of T (attrs_of T n)) → K ≡ item_lines (kids (kids_of T n)) → R ≡ item_lines rest →
    ((lines_at first_lines c ++ A) ++ (K ++ lines_at last_lines c)) ++ R ≡ item_lines (item T kids n c rest)
kid-lines T kids n None rest A K R can no_a no_k a k r = absurd (cc)
kid-lines T kids n (Some root) rest A K R can no_a no_k a k r = absurd (cc)
kid-lines T kids n (Some (element name decls)) rest A K R can no_a no_k a k r = element-lines name decls (pairs_of T (attrs_of T n)) (kids (kids_of T n)) rest A K R a k r
kid-lines T kids n (Some (attribute name value)) rest A K R can no_a no_k a k r = absurd (cc)
kid-lines T kids n (Some (text characters)) rest A K R can no_a no_k a k r =
    ap₂ (λ (x y : List Line). ((has_text characters ∷ x) ++ (y ++ [])) ++ R) (no_a (λ h. absurd (cc))) (no_k refl) ∙ ap (λ l. has_text characters ∷ l) r
kid-lines T kids n (Some (comment characters)) rest A K R can no_a no_k a k r =
    ap₂ (λ (x y : List Line). ((has_comment characters ∷ x) ++ (y ++ [])) ++ R) (no_a (λ h. absurd (cc))) (no_k refl) ∙ ap (λ l. has_comment characters ∷ l) r
kid-lines T kids n (Some (instruction name body)) rest A K R can no_a no_k a k r =
    ap₂ (λ (x y : List Line). ((has_instruction name body ∷ x) ++ (y ++ [])) ++ R) (no_a (λ h. absurd (cc))) (no_k refl) ∙ ap (λ l. has_instruction name body ∷ l) r

flat_map-none : {A : Type 0} (ns : List ℕ) → flat_map {X = ℕ} {A = A} (λ n. []) ns ≡ []
flat_map-none [] = refl
flat_map-none (n ∷ ns) = flat_map-none ns

-- the lines of nodes, so many levels deep
abbrev lines_to : Table → ℕ → ℕ → List Line
lines_to T levels n = walk T (opens T) (closes T) levels n

along-lines : (T : Table) → WellFormed T → (levels : ℕ) → ((q : ℕ) (ms : List ℕ) → AreKids T q ms → flat_map (lines_to T levels) ms ≡ item_lines (items_at T levels ms)) →
    (p : ℕ) (ns : List ℕ) → AreKids T p ns → flat_map (lines_to T (suc levels)) ns ≡ item_lines (items_at T (suc levels) ns)
along-lines T formed levels below p [] are = refl
along-lines T formed levels below p (n ∷ ns) are =
    kid-lines T (λ ms. items_at T levels ms) n (content_of T n) (items_at T (suc levels) ns) (flat_map (opens T) (attrs_of T n)) (flat_map (lines_to T levels) (kids_of T n)) (flat_map (lines_to T (suc levels)) ns)
    are.0
    (λ other. ap (flat_map (opens T)) (no_attributes T formed n other))
    (λ none. ap (flat_map (lines_to T levels)) (no_kids T formed n none))
    (pairs-open T n (attrs_of T n) (attributes-are T formed n))
    (below n (kids_of T n) (kids-are T formed n))
    (along-lines T formed levels below p ns are.2)

pub item-lines-are : (T : Table) → WellFormed T → (levels p : ℕ) (ns : List ℕ) → AreKids T p ns → flat_map (lines_to T levels) ns ≡ item_lines (items_at T levels ns)
item-lines-are T formed zero p ns are = flat_map-none ns
item-lines-are T formed (suc levels) p ns are = along-lines T formed levels (λ q ms h. item-lines-are T formed levels q ms h) p ns are

-- how many nodes there are
pair-counts : (c : Option Content) → kind_at c ≡ Some Attribute → length (pairs_in c) ≡ 1
pair-counts None kind = absurd (cc)
pair-counts (Some root) kind = absurd (cc)
pair-counts (Some (element name decls)) kind = absurd (cc)
pair-counts (Some (attribute name value)) kind = refl
pair-counts (Some (text characters)) kind = absurd (cc)
pair-counts (Some (comment characters)) kind = absurd (cc)
pair-counts (Some (instruction name body)) kind = absurd (cc)

pairs-count : (T : Table) (p : ℕ) (ns : List ℕ) → AreAttributes T p ns → length (pairs_of T ns) ≡ length ns
pairs-count T p [] are = refl
pairs-count T p (a ∷ ns) are = omega (arith, length-append (pairs_in (content_of T a)) (pairs_of T ns), pair-counts (content_of T a) are.0, pairs-count T p ns are.2)

singles : (ns : List ℕ) → flat_map (λ (m : ℕ). m ∷ []) ns ≡ ns
singles [] = refl
singles (n ∷ ns) = ap (λ l. n ∷ l) (singles ns)

kid-nodes : (T : Table) (kids : List ℕ → Items) (n : ℕ) (c : Option Content) (rest : Items) → can_be_kid (kind_at c) ≡ true →
    (kind_at c ≢ Some Element → attrs_of T n ≡ []) → length (pairs_of T (attrs_of T n)) ≡ length (attrs_of T n) → (within : ℕ) → (holds_kids (kind_at c) ≡ false → within ≡ 0) → item_nodes (kids (kids_of T n)) ≡ within →
    item_nodes (item T kids n c rest) ≡ suc (length (attrs_of T n)) + (within + item_nodes rest)
kid-nodes T kids n None rest can no_a pairs within no_k k = absurd (cc)
kid-nodes T kids n (Some root) rest can no_a pairs within no_k k = absurd (cc)
kid-nodes T kids n (Some (element name decls)) rest can no_a pairs within no_k k = omega (arith, pairs, k)
kid-nodes T kids n (Some (attribute name value)) rest can no_a pairs within no_k k = absurd (cc)
kid-nodes T kids n (Some (text characters)) rest can no_a pairs within no_k k = omega (arith, ap length (no_a (λ h. absurd (cc))), no_k refl)
kid-nodes T kids n (Some (comment characters)) rest can no_a pairs within no_k k = omega (arith, ap length (no_a (λ h. absurd (cc))), no_k refl)
kid-nodes T kids n (Some (instruction name body)) rest can no_a pairs within no_k k = omega (arith, ap length (no_a (λ h. absurd (cc))), no_k refl)

-- the numbers of nodes, so many levels deep
abbrev numbers_to : Table → ℕ → ℕ → List ℕ
numbers_to T levels n = walk T (λ m. m ∷ []) (λ _. []) levels n

numbers-length : (T : Table) (levels n : ℕ) → length (numbers_to T (suc levels) n) ≡ suc (length (attrs_of T n)) + length (flat_map (numbers_to T levels) (kids_of T n))
numbers-length T levels n =
    ap length (ap₂ (λ (x y : List ℕ). (n ∷ x) ++ y) (singles (attrs_of T n)) (append-nil (flat_map (numbers_to T levels) (kids_of T n))))
    ∙ length-append (n ∷ attrs_of T n) (flat_map (numbers_to T levels) (kids_of T n))

along-nodes : (T : Table) → WellFormed T → (levels : ℕ) → ((q : ℕ) (ms : List ℕ) → AreKids T q ms → item_nodes (items_at T levels ms) ≡ length (flat_map (numbers_to T levels) ms)) →
    (p : ℕ) (ns : List ℕ) → AreKids T p ns → item_nodes (items_at T (suc levels) ns) ≡ length (flat_map (numbers_to T (suc levels)) ns)
along-nodes T formed levels below p [] are = refl
along-nodes T formed levels below p (n ∷ ns) are =
    let within : ℕ = length (flat_map (numbers_to T levels) (kids_of T n)) in
    let here : item_nodes (items_at T (suc levels) (n ∷ ns)) ≡ suc (length (attrs_of T n)) + (within + item_nodes (items_at T (suc levels) ns)) =
    kid-nodes T (λ ms. items_at T levels ms) n (content_of T n) (items_at T (suc levels) ns) are.0 (λ other. no_attributes T formed n other)
    (pairs-count T n (attrs_of T n) (attributes-are T formed n)) within (λ none. ap (λ (ms : List ℕ). length (flat_map (numbers_to T levels) ms)) (no_kids T formed n none)) (below n (kids_of T n) (kids-are T formed n)) in
    let later : item_nodes (items_at T (suc levels) ns) ≡ length (flat_map (numbers_to T (suc levels)) ns) = along-nodes T formed levels below p ns are.2 in
    here ∙ omega (arith, later, numbers-length T levels n, length-append (numbers_to T (suc levels) n) (flat_map (numbers_to T (suc levels)) ns))

pub item-nodes-are : (T : Table) → WellFormed T → (levels p : ℕ) (ns : List ℕ) → AreKids T p ns → item_nodes (items_at T levels ns) ≡ length (flat_map (numbers_to T levels) ns)
item-nodes-are T formed zero p ns are = ap length (sym (flat_map-none ns))
item-nodes-are T formed (suc levels) p ns are = along-nodes T formed levels (λ q ms h. item-nodes-are T formed levels q ms h) p ns are

-- the elements and texts at the top
abbrev one_if : Bool → ℕ
one_if b = if b then 1 else 0

kid-tops : (T : Table) (kids : List ℕ → Items) (n : ℕ) (c : Option Content) (rest : Items) → can_be_kid (kind_at c) ≡ true →
    (top_elements (item T kids n c rest) ≡ one_if (is_element (kind_at c)) + top_elements rest) × (top_texts (item T kids n c rest) ≡ one_if (is_text (kind_at c)) + top_texts rest)
kid-tops T kids n None rest can = absurd (cc)
kid-tops T kids n (Some root) rest can = absurd (cc)
kid-tops T kids n (Some (element name decls)) rest can = (omega arith, omega arith)
kid-tops T kids n (Some (attribute name value)) rest can = absurd (cc)
kid-tops T kids n (Some (text characters)) rest can = (omega arith, omega arith)
kid-tops T kids n (Some (comment characters)) rest can = (omega arith, omega arith)
kid-tops T kids n (Some (instruction name body)) rest can = (omega arith, omega arith)

counted : (f : ℕ → Bool) (n : ℕ) (ns : List ℕ) → count_by f (n ∷ ns) ≡ one_if (f n) + count_by f ns
counted f n ns = sum_by-cons (λ x. one_if (f x)) n ns

pub item-tops-are : (T : Table) (levels p : ℕ) (ns : List ℕ) → AreKids T p ns →
    (top_elements (items_at T (suc levels) ns) ≡ count_by (λ k. is_element (kind_of T k)) ns) × (top_texts (items_at T (suc levels) ns) ≡ count_by (λ k. is_text (kind_of T k)) ns)
item-tops-are T levels p [] are = (refl, refl)
item-tops-are T levels p (n ∷ ns) are =
    let here = kid-tops T (λ ms. items_at T levels ms) n (content_of T n) (items_at T (suc levels) ns) are.0 in
    let later = item-tops-are T levels p ns are.2 in (
      here.0 ∙ ap (λ (m : ℕ). one_if (is_element (kind_of T n)) + m) later.0 ∙ sym (counted (λ k. is_element (kind_of T k)) n ns),
      here.1 ∙ ap (λ (m : ℕ). one_if (is_text (kind_of T n)) + m) later.1 ∙ sym (counted (λ k. is_text (kind_of T k)) n ns),
    )
