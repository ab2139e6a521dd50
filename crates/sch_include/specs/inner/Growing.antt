-- How a tree grows by copies of nodes of other trees.
use Rattle.std.specs.Prelude.{◌≡◌, ◌≢◌, ℕ, suc, ◌+◌, ◌≤◌, true, false, List, [], ◌∷◌, ◌++◌, length, Some, sum_by}
use Rattle.std.specs.List.{flat_map}
use Rattle.doc_tree.specs.limits.TheConstants.{MAX_DEPTH, MAX_LIVE_NODES, MAX_LIVE_TEXT_BYTES}
use Rattle.doc_tree.specs.Growth.{ends_in_text}
use Rattle.doc_tree.specs.InOrder.{IsInOrder}
use Rattle.doc_tree.specs.Kinds.{can_be_kid, holds_kids, is_element, is_text}
use Rattle.doc_tree.specs.Lines.{Line, closing, last_lines, lines, opens}
use Rattle.doc_tree.specs.Table.{AllLive, Content, Table, attrs_of, content_of, is_live, kids_of, kind_of, parent_of, value_of}
use Rattle.doc_tree.specs.Walks.{above, is_open, order, text_bytes}

-- a node that lived keeps all but its kids and attributes
pub record Keeps (G U : Table) (m : ℕ) : Type 0 where
  pub lives : is_live U m ≡ true
  pub content : content_of U m ≡ content_of G m
  pub parent : parent_of U m ≡ parent_of G m
  pub above : above U m ≡ above G m
  pub closing : closing U m ≡ closing G m

-- U is G with these lines more: p was open, and now q is
pub record Adds (G U : Table) (p q : ℕ) (told : List Line) : Type 0 where
  pub all_live : AllLive U
  pub numbered : IsInOrder G → IsInOrder U
  pub stays_open : is_open U q ≡ true
  pub read_on : (before : List Line) → lines G ≡ before ++ closing G p → lines U ≡ (before ++ told) ++ closing U q
  pub keeps : (m : ℕ) → is_live G m ≡ true → Keeps G U m
  pub same_kids : (m : ℕ) → is_live G m ≡ true → m ≢ p → kids_of U m ≡ kids_of G m

-- U is G with the node k, the last kid of p, of this content, and after it nothing but its attributes
pub record Starts (G U : Table) (p k : ℕ) (content : Content) (told : List Line) (nodes text : ℕ) : Type 0 where
  pub adds : Adds G U p k told
  pub under : is_live G p ≡ true
  pub new : is_live G k ≡ false
  pub kid : kids_of U p ≡ kids_of G p ++ k ∷ []
  pub content_is : content_of U k ≡ Some content
  pub parent : parent_of U k ≡ Some p
  pub above : above U k ≡ k ∷ above G p
  pub closing : closing U k ≡ last_lines content ++ closing G p
  pub no_kid : kids_of U k ≡ []
  pub counted : length (order U) ≡ length (order G) + nodes
  pub bytes : text_bytes U ≡ text_bytes G + text

-- the bytes of text of a node and its attributes
abbrev pub own_text : Table → ℕ → ℕ
own_text T n = sum_by (λ m. length (value_of T m)) (n ∷ attrs_of T n)

-- a node may come under p
pub record Receives (G : Table) (p : ℕ) : Type 0 where
  pub holder : holds_kids (kind_of G p) ≡ true
  pub last : is_open G p ≡ true
  pub all_live : AllLive G

-- a copy of a node of T without its kids may come under p
pub record TakesCopy (G : Table) (p : ℕ) (T : Table) (n : ℕ) : Type 0 where
  pub receives : Receives G p
  pub kid : can_be_kid (kind_of T n) ≡ true
  pub apart : is_text (kind_of T n) ≡ true → ends_in_text G (kids_of G p) ≡ false
  pub shallow : is_element (kind_of T n) ≡ true → length (above G p) ≤ MAX_DEPTH
  pub room : length (order G) + suc (length (attrs_of T n)) ≤ MAX_LIVE_NODES
  pub little : text_bytes G + own_text T n ≤ MAX_LIVE_TEXT_BYTES

-- U is G with a copy k of a node of T, without its kids, under p
pub record Copied (G U : Table) (p k : ℕ) (T : Table) (n : ℕ) : Type 0 where
  pub content : Content
  pub content_is : content_of T n ≡ Some content
  pub starts : Starts G U p k content (flat_map (opens T) (n ∷ attrs_of T n)) (suc (length (attrs_of T n))) (own_text T n)
