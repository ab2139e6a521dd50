-- What holds of locations: a location tells its node from all others of the tree.
use Rattle.std.specs.Prelude.{◌≡◌, ℕ, ◌==◌, ◌||◌, false, true, Option, None, Some}
use Rattle.std.specs.List.{list_any}
use Rattle.doc_tree.specs.Laws.{WellFormed, Ordered, HasWaysUp}
use Rattle.doc_tree.specs.Table.{Table, Name, is_live, kind_of, name_of}
use Rattle.doc_tree.specs.kind.Kind.TheVariants.{Attribute}
use Rattle.doc_locations.specs.Locations.{location_of}

-- a name's local part holds neither a quote (39) nor a star (42); no NCName does (Namespaces in XML 1.0, section 3)
abbrev pub IsPlain : Option Name → Type 0
IsPlain None = Unit {0}
IsPlain (Some name) = list_any (λ c. (c == 39) || (c == 42)) name.local ≡ false

-- the attributes of a tree have such names
abbrev pub HasPlainAttributes : Table → Type 0
HasPlainAttributes T = (n : ℕ) → kind_of T n ≡ Some Attribute → IsPlain (name_of T n)

-- live nodes with the same location are the same
abbrev pub LocationsAreToldApart : Type 0
LocationsAreToldApart = (T : Table) → WellFormed T → Ordered T → HasWaysUp T → HasPlainAttributes T →
    (n m : ℕ) → is_live T n ≡ true → is_live T m ≡ true → location_of T n ≡ location_of T m → n ≡ m
