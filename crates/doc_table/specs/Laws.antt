-- What holds of every tree: it is well formed, and its order, its ways up and its walks hang together.
use Rattle.std.specs.Prelude.{◌≡◌, ◌≢◌, ℕ, ◌+◌, ◌<◌, ◌≤◌, true, false, ◌&&◌, List, [], ◌∷◌, ◌++◌, length, None, Some}
use Rattle.std.specs.List.{flat_map}
use Rattle.doc_table.specs.declared.kind.Kind.TheVariants.{Root, Element, Attribute, Text}
use Rattle.doc_table.specs.declared.limits.TheConstants.{MAX_DEPTH, MAX_LIVE_NODES, MAX_LIVE_TEXT_BYTES, MAX_NODE_NUMBERS}
use Rattle.doc_table.specs.Lists.{mem, Distinct}
use Rattle.doc_table.specs.Table.{Table, parent_of, kids_of, attrs_of, content_of, kind_of, value_of, expanded_of, is_live}
use Rattle.doc_table.specs.Walks.{order, below, above, ancestors, joined_text, characters_in, text_bytes, is_open}
use Rattle.doc_table.specs.Lines.{lines_below, opens, closes}
use Rattle.doc_table.specs.Kinds.{holds_kids, can_be_kid, is_text}
use Rattle.doc_table.specs.Scope.{HasScopes}

-- no two texts stand side by side
abbrev pub TextsApart : Table → List ℕ → Type 0
TextsApart T [] = Unit {0}
TextsApart T (n ∷ []) = Unit {0}
TextsApart T (n ∷ m ∷ ms) = ((is_text (kind_of T n) && is_text (kind_of T m)) ≡ false) × TextsApart T (m ∷ ms)

-- a well-formed tree table (XPath 1.0, section 5)
pub record WellFormed (T : Table) : Type 0 where
  -- one root, number 0
  pub root_kind : kind_of T 0 ≡ Some Root
  pub root_parent : parent_of T 0 ≡ None
  pub one_root : (n : ℕ) → kind_of T n ≡ Some Root → n ≡ 0
  -- parents and lists agree
  pub kid_parent : (n k : ℕ) → mem k (kids_of T n) ≡ true → parent_of T k ≡ Some n
  pub attribute_parent : (n a : ℕ) → mem a (attrs_of T n) ≡ true → parent_of T a ≡ Some n
  pub is_listed : (n p : ℕ) → parent_of T n ≡ Some p → mem n (attrs_of T p ++ kids_of T p) ≡ true
  pub kids_once : (n : ℕ) → Distinct (kids_of T n)
  pub attributes_once : (n : ℕ) → Distinct (attrs_of T n)
  -- kinds stand where they may
  pub kid_kind : (n k : ℕ) → mem k (kids_of T n) ≡ true → can_be_kid (kind_of T k) ≡ true
  pub attribute_kind : (n a : ℕ) → mem a (attrs_of T n) ≡ true → kind_of T a ≡ Some Attribute
  pub holder_kind : (n k : ℕ) → mem k (kids_of T n) ≡ true → holds_kids (kind_of T n) ≡ true
  pub owner_kind : (n a : ℕ) → mem a (attrs_of T n) ≡ true → kind_of T n ≡ Some Element
  -- all hang below the root
  pub is_rooted : (n : ℕ) → is_live T n ≡ true → mem 0 (above T n) ≡ true
  -- the attributes of an element have different expanded names
  pub names_differ : (n a b : ℕ) → mem a (attrs_of T n) ≡ true → mem b (attrs_of T n) ≡ true → expanded_of T a ≡ expanded_of T b → a ≡ b
  -- no text is empty or follows a text
  pub some_text : (n : ℕ) → kind_of T n ≡ Some Text → value_of T n ≢ []
  pub texts_apart : (n : ℕ) → TextsApart T (kids_of T n)
  -- the limits
  pub few_nodes : length (order T) ≤ MAX_LIVE_NODES
  pub few_numbers : length T ≤ MAX_NODE_NUMBERS
  pub not_deep : (n : ℕ) → kind_of T n ≡ Some Element → length (ancestors T n) ≤ MAX_DEPTH
  pub little_text : text_bytes T ≤ MAX_LIVE_TEXT_BYTES

-- document order is a list of the live nodes, each once, the root first
pub record Ordered (T : Table) : Type 0 where
  pub live_in_order : (n : ℕ) → is_live T n ≡ mem n (order T)
  pub once : Distinct (order T)
  pub root_first : (rest : List ℕ) × (order T ≡ 0 ∷ rest)
  pub made : (n : ℕ) → mem n (order T) ≡ true → n < length T
  -- from a node downwards: the node, its attributes, then its kids
  pub below_at : (n : ℕ) → below T n ≡ n ∷ (attrs_of T n ++ flat_map (below T) (kids_of T n))
  pub below_attribute : (n a : ℕ) → mem a (attrs_of T n) ≡ true → below T a ≡ a ∷ []
  pub below_in_order : (n : ℕ) → is_live T n ≡ true → (front back : List ℕ) × (order T ≡ front ++ (below T n ++ back))

-- the ways up to the root
pub record HasWaysUp (T : Table) : Type 0 where
  pub parent_live : (n p : ℕ) → parent_of T n ≡ Some p → is_live T p ≡ true
  pub parent_holds : (n p : ℕ) → parent_of T n ≡ Some p → holds_kids (kind_of T p) ≡ true
  pub kid_live : (n k : ℕ) → mem k (kids_of T n) ≡ true → is_live T k ≡ true
  pub attribute_live : (n a : ℕ) → mem a (attrs_of T n) ≡ true → is_live T a ≡ true
  pub has_parent : (n : ℕ) → is_live T n ≡ true → n ≢ 0 → (p : ℕ) × (parent_of T n ≡ Some p)
  pub ancestors_at : (n p : ℕ) → parent_of T n ≡ Some p → ancestors T n ≡ p ∷ ancestors T p
  pub no_ancestors : (n : ℕ) → parent_of T n ≡ None → ancestors T n ≡ []
  pub ancestors_bound : (n : ℕ) → length (ancestors T n) ≤ MAX_DEPTH + 1
  pub open_upwards : (n p : ℕ) → is_open T n ≡ true → parent_of T n ≡ Some p → is_open T p ≡ true

-- walks that tell more than numbers, from a node downwards
pub record Walks (T : Table) : Type 0 where
  pub lines_at : (n : ℕ) →
      lines_below T n ≡ (opens T n ++ flat_map (opens T) (attrs_of T n)) ++ (flat_map (lines_below T) (kids_of T n) ++ closes T n)
  -- what is told along document order
  pub told_at : (f : ℕ → List ℕ) (n : ℕ) →
      flat_map f (below T n) ≡ f n ++ (flat_map f (attrs_of T n) ++ flat_map (λ k. flat_map f (below T k)) (kids_of T n))
  pub text_at : (n : ℕ) → joined_text T n ≡ characters_in (content_of T n) ++ flat_map (joined_text T) (kids_of T n)

-- a well-formed table (XPath 1.0, section 5) has all laws of a tree's
abbrev pub WellFormedIsEnough : Type 0
WellFormedIsEnough = (T : Table) → WellFormed T → Ordered T × HasWaysUp T × Walks T × HasScopes T
