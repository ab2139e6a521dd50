-- Which items are in the chain of a key.
use Rattle.std.specs.Prelude.{◌≡◌, ℕ, ◌+◌, ◌⊎◌, [], ◌∷◌, ◌++◌, Option, Some, length, slice_index_or, slice_set}
use Rattle.cell_index.specs.declared.chains.Chains.{Chains}
use Rattle.cell_index.specs.inner.Links.{IsLinked, item_of, link_at}

-- the number of the newest link of a key, 0 where it has none
abbrev pub newest : Chains → ℕ → ℕ
newest chains key = slice_index_or chains.heads.items key 0

-- the item that came last to the chain of a key
abbrev pub newest_item : Chains → ℕ → Option ℕ
newest_item chains key = item_of (link_at chains.links.items (newest chains key))

-- how many items were added, those that were dropped since counted too
abbrev pub items_added : Chains → ℕ
items_added chains = length chains.links.items

-- an item is in the chain of a key
pub record InChain (chains : Chains) (key item : ℕ) : Type 0 where
  pub linked : IsLinked chains.links.items item (newest chains key)

-- each item stays in its chain
abbrev pub Keeps : Chains → Chains → Type 0
Keeps old new = (key item : ℕ) → InChain old key item → InChain new key item

-- each item stays in its chain, but for the newest of a key
abbrev pub Drops : Chains → Chains → ℕ → Type 0
Drops old new key = (k item : ℕ) → InChain old k item → InChain new k item ⊎ ((k ≡ key) × (newest_item old key ≡ Some item))

-- to the chain of a key an item was linked before the others
pub record PutsFirst (old new : Chains) (key item : ℕ) : Type 0 where
  pub links : new.links.items ≡ old.links.items ++ record { item = item; next = slice_index_or old.heads.items key 0 } ∷ []
  pub heads : new.heads.items ≡ slice_set old.heads.items key (length old.links.items + 1)
