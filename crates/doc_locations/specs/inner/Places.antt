-- The places of kids among the siblings of their kind, kept by node number.
use Rattle.std.specs.Prelude.{◌≡◌, ℕ, ◌+◌, ◌<◌, Bool, true, length, List, [], ◌∷◌, Some, slice_index_or, if◌then◌else◌}
use Rattle.doc_tree.specs.Lists.{mem}
use Rattle.doc_tree.specs.kind.Kind.{Kind}
use Rattle.doc_tree.specs.kind.Kind.TheVariants.{Root, Element, Attribute, Text, Comment, Pi}
use Rattle.doc_tree.specs.Table.{Table, kids_of, kind_of, is_live}
use Rattle.doc_locations.specs.declared.places.Counts.{Counts}
use Rattle.doc_tree.specs.Kinds.{can_be_kid}
use Rattle.doc_locations.specs.Locations.{has_kind, place_among, place_of}

-- how many of the nodes pass
abbrev pub count_of : (ℕ → Bool) → List ℕ → ℕ
count_of passes [] = 0
count_of passes (m ∷ ms) = (if passes m then 1 else 0) + count_of passes ms

-- the number of a kind, by which it is counted
abbrev pub number_of : Kind → ℕ
number_of Root = 0
number_of Element = 1
number_of Attribute = 2
number_of Text = 3
number_of Comment = 4
number_of Pi = 5

-- how many kids of the kind were counted
abbrev pub count_for : Counts → Kind → ℕ
count_for counts kind = slice_index_or counts.by_kind (number_of kind) 0

-- the table holds the place of each of the kids that is in the list
abbrev pub ArePlaced : Table → List ℕ → List ℕ → List ℕ → Type 0
ArePlaced T kids places some = (kid : ℕ) (kind : Kind) → mem kid some ≡ true → kind_of T kid ≡ Some kind →
    slice_index_or places kid 0 ≡ place_among (has_kind T kind) kid kids

-- the numbers of the nodes are below a number
abbrev pub AreBelow : List ℕ → ℕ → Type 0
AreBelow nodes count = (n : ℕ) → mem n nodes ≡ true → n < count

-- the nodes live
abbrev pub AreLive : Table → List ℕ → Type 0
AreLive T nodes = (n : ℕ) → mem n nodes ≡ true → is_live T n ≡ true

-- the table holds the places of some kids, and 0 for the others
abbrev pub HoldsSome : Table → List ℕ → Type 0
HoldsSome T places = (parent kid : ℕ) (kind : Kind) → mem kid (kids_of T parent) ≡ true → kind_of T kid ≡ Some kind →
    0 < slice_index_or places kid 0 → slice_index_or places kid 0 ≡ place_among (has_kind T kind) kid (kids_of T parent)

-- the number is a node's place among its siblings of its kind, where its kind is one that kids may have
abbrev pub HasPlace : Table → ℕ → ℕ → Type 0
HasPlace T n place = (kind : Kind) → kind_of T n ≡ Some kind → can_be_kid (Some kind) ≡ true → place ≡ place_of T kind n
