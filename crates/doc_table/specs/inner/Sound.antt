-- What holds of every tree as it is kept.
use Rattle.std.specs.Prelude.{◌≡◌, ◌≢◌, ℕ, ◌+◌, ◌*◌, ◌≤◌, true, List, [], ◌∷◌, length, Option, None, Some, slice_index_or}
use Rattle.doc_table.specs.declared.limits.TheConstants.{MAX_DEPTH, MAX_LIVE_NODES, MAX_LIVE_TEXT_BYTES, MAX_NODE_NUMBERS}
use Rattle.doc_table.specs.declared.kind.Kind.TheVariants.{Root, Element, Attribute, Text}
use Rattle.doc_table.specs.declared.node.Node.{Node}
use Rattle.doc_table.specs.declared.ranks.TheConstants.{RANK_STEP}
use Rattle.doc_table.specs.inner.Kept.{depth_at, ranks_of, NamesAreBelow}
use Rattle.doc_table.specs.Lists.{mem, Rise}
use Rattle.doc_table.specs.Table.{Table, Facts, Name, value_in, is_live, kids_of, attrs_of, kind_of, value_of, expanded_of}
use Rattle.doc_table.specs.Walks.{ancestors, order}
use Rattle.doc_table.specs.Kinds.{holds_kids, can_be_kid}
use Rattle.doc_table.specs.Laws.{TextsApart}
use Rattle.doc_table.specs.inner.Forest.{Forest, Whole}
use Rattle.doc_table.specs.inner.Views.{table_seen}

-- what holds of each number by itself: what may hang from its node, and how its text and depth are
pub record Fits (T : Table) (n : ℕ) : Type 0 where
  pub one_root : kind_of T n ≡ Some Root → n ≡ 0
  pub kid_kind : (k : ℕ) → mem k (kids_of T n) ≡ true → can_be_kid (kind_of T k) ≡ true
  pub attribute_kind : (a : ℕ) → mem a (attrs_of T n) ≡ true → kind_of T a ≡ Some Attribute
  pub holder_kind : (k : ℕ) → mem k (kids_of T n) ≡ true → holds_kids (kind_of T n) ≡ true
  pub owner_kind : (a : ℕ) → mem a (attrs_of T n) ≡ true → kind_of T n ≡ Some Element
  pub names_differ : (a b : ℕ) → mem a (attrs_of T n) ≡ true → mem b (attrs_of T n) ≡ true → expanded_of T a ≡ expanded_of T b → a ≡ b
  pub some_text : kind_of T n ≡ Some Text → value_of T n ≢ []
  pub texts_apart : TextsApart T (kids_of T n)
  pub not_deep : kind_of T n ≡ Some Element → length (ancestors T n) ≤ MAX_DEPTH

-- the sum over the nodes of a table
abbrev pub table_sum : (Facts → ℕ) → Table → ℕ
table_sum f [] = 0
table_sum f (None ∷ T) = table_sum f T
table_sum f (Some node ∷ T) = f node + table_sum f T

-- how many nodes live
abbrev pub count_live : Table → ℕ
count_live T = table_sum (λ _. 1) T

-- the bytes of live text
abbrev pub text_in : Facts → ℕ
text_in node = length (value_in node.content)

abbrev pub text_held : Table → ℕ
text_held T = table_sum text_in T

-- the table of a tree: it shows a forest, each number fits, and the limits hold
pub record Formed (T : Table) : Type 0 where
  pub forest : Forest
  pub whole : Whole T forest
  pub root_kind : kind_of T 0 ≡ Some Root
  pub fits : (n : ℕ) → Fits T n
  pub few_nodes : count_live T ≤ MAX_LIVE_NODES
  pub few_numbers : length T ≤ MAX_NODE_NUMBERS
  pub little_text : text_held T ≤ MAX_LIVE_TEXT_BYTES

-- the kept nodes show such a table, what is kept beside them is as the table says, and ranks rise along document order
pub record Sound (nodes : List (Option Node)) (names : List Name) (live bytes : ℕ) : Type 0 where
  pub formed : Formed (table_seen names nodes)
  pub known : NamesAreBelow (length names) nodes
  pub depths : (n : ℕ) → is_live (table_seen names nodes) n ≡ true →
      depth_at (slice_index_or nodes n None) ≡ length (ancestors (table_seen names nodes) n)
  pub ranks : Rise 0 (ranks_of nodes (order (table_seen names nodes))) (RANK_STEP * length nodes)
  pub live_is : live ≡ count_live (table_seen names nodes)
  pub bytes_is : bytes ≡ text_held (table_seen names nodes)
