-- Links, numbered from 1 on, each of which leads to an earlier one.
use Rattle.std.specs.Prelude.{◌≡◌, ℕ, zero, suc, List, Option, None, Some, nat_lt, slice_get, if◌then◌else◌}
use Rattle.cell_index.specs.declared.links.Link.{Link}

-- the link with a number; none has the number 0
abbrev pub link_at : List Link → ℕ → Option Link
link_at links zero = None
link_at links (suc place) = slice_get links place

-- the number of the link before the one with a number
abbrev pub earlier : Link → ℕ → ℕ
earlier link number = if nat_lt link.next number then link.next else 0

-- the item of a link, where there is one
abbrev pub item_of : Option Link → Option ℕ
item_of (Some link) = Some link.item
item_of None = None

-- an item stands at the link with a number or at one that it leads to
pub data IsLinked (links : List Link) (item : ℕ) : ℕ → Type 0 where
  here : (number : ℕ) (link : Link) → link_at links number ≡ Some link → link.item ≡ item → IsLinked links item number
  before : (number : ℕ) (link : Link) → link_at links number ≡ Some link → IsLinked links item (earlier link number) → IsLinked links item number
