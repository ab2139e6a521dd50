-- What a change asks of a tree.
use Rattle.std.specs.Prelude.{◌≡◌, ◌≢◌, ℕ, ◌+◌, ◌≤◌, true, false, List, [], ◌∷◌, ◌++◌, length, take, drop, Some}
use Rattle.std.specs.List.{list_any}
use Rattle.doc_table.specs.declared.kind.Kind.TheVariants.{Element, Text}
use Rattle.doc_table.specs.declared.limits.TheConstants.{MAX_DEPTH, MAX_LIVE_NODES, MAX_LIVE_TEXT_BYTES, MAX_NODE_NUMBERS}
use Rattle.doc_table.specs.Growth.{ends_in_text}
use Rattle.doc_table.specs.Kinds.{has_own_name, holds_kids, is_text}
use Rattle.doc_table.specs.Laws.{TextsApart}
use Rattle.doc_table.specs.Lists.{mem}
use Rattle.doc_table.specs.Table.{Name, Table, attrs_of, expanded, expanded_of, is_live, kids_of, kind_of, value_of}
use Rattle.doc_table.specs.Walks.{above, ancestors, order, text_bytes}
use Rattle.doc_edits.specs.Changes.{nodes_in}

-- a node may say another text: it has one, a text node's isn't empty, and the tree has no more than it may have
pub record MaySay (T : Table) (n : ℕ) (new : List ℕ) : Type 0 where
  pub lives : is_live T n ≡ true
  pub has_text : holds_kids (kind_of T n) ≡ false
  pub some : kind_of T n ≡ Some Text → new ≢ []
  pub little : text_bytes T + length new ≤ MAX_LIVE_TEXT_BYTES + length (value_of T n)

-- an element or an attribute may get another name: one that no other attribute of the same element has
pub record MayRename (T : Table) (n : ℕ) (name : Name) : Type 0 where
  pub named : has_own_name (kind_of T n) ≡ true
  pub is_new : (p a : ℕ) → mem n (attrs_of T p) ≡ true → mem a (attrs_of T p) ≡ true → expanded_of T a ≡ Some (expanded name) → a ≡ n

-- a node, or an attribute, may be removed: it is not the root, and no two texts meet then
pub record MayGo (T : Table) (n : ℕ) : Type 0 where
  pub lives : is_live T n ≡ true
  pub below_root : n ≢ 0
  pub apart : (before behind : List ℕ) (p : ℕ) → kids_of T p ≡ before ++ (n ∷ behind) → TextsApart T (before ++ behind)

-- an element may have one attribute more
pub record MayGain (T : Table) (n : ℕ) (name : Name) (value : List ℕ) : Type 0 where
  pub under : kind_of T n ≡ Some Element
  pub is_new : (a : ℕ) → mem a (attrs_of T n) ≡ true → expanded_of T a ≢ Some (expanded name)
  pub few_nodes : length (order T) + 1 ≤ MAX_LIVE_NODES
  pub few_numbers : length T + 1 ≤ MAX_NODE_NUMBERS
  pub little : text_bytes T + length value ≤ MAX_LIVE_TEXT_BYTES

-- a piece may come under a node, behind so many of its kids
pub record MayTake (T : Table) (p before : ℕ) (P : Table) : Type 0 where
  pub under : holds_kids (kind_of T p) ≡ true
  pub among : before ≤ length (kids_of T p)
  pub top : ℕ
  pub one : kids_of P 0 ≡ top ∷ []
  pub apart : is_text (kind_of P top) ≡ true → list_any (λ k. is_text (kind_of T k)) (take 1 (drop before (kids_of T p))) ≡ false
  pub apart_left : is_text (kind_of P top) ≡ true → ends_in_text T (take before (kids_of T p)) ≡ false
  pub shallow : (m : ℕ) → kind_of P m ≡ Some Element → length (above T p) + length (ancestors P m) ≤ MAX_DEPTH + 1
  pub few_nodes : length (order T) + length (nodes_in P) ≤ MAX_LIVE_NODES
  pub few_numbers : length T + length (nodes_in P) ≤ MAX_NODE_NUMBERS
  pub little : text_bytes T + text_bytes P ≤ MAX_LIVE_TEXT_BYTES
