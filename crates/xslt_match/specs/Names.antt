-- The names that matching looks at (XSLT 1.0, section 5.2): of the nodes at which a pattern's steps can stand in chains to a node.
use Rattle.std.specs.Prelude.{◌≡◌, ◌<◌, ℕ, zero, suc, Bool, true, List, [], ◌∷◌, ◌++◌, Option, None, Some, length, map, flat_map, option_and_then, if◌then◌else◌, IfSome}
use Rattle.std.specs.List.{list_any}
use Rattle.doc_tree.specs.declared.axes.Axis.{Axis}
use Rattle.doc_tree.specs.declared.axes.NodeTest.{NodeTest}
use Rattle.doc_tree.specs.cell.Cell.TheVariants.{Name}
use Rattle.doc_tree.specs.Kinds.{is_element}
use Rattle.doc_tree.specs.Table.{Table, kind_of, parent_of}
use Rattle.doc_tree.specs.Walks.{above}
use Rattle.xp_typed_tree.specs.TypedTree.{TypedPatternStepTree, TypedPathTree}
use Rattle.xp_outcome.specs.Cells.{names_on}
use Rattle.xp_outcome.specs.Evaluation.{Read, cell}
use Rattle.xp_outcome.specs.Recorded.{Recorded, has_read}
use Rattle.xp_meaning.specs.Reads.{is_by_name}
use Rattle.xslt_ways.specs.Ways.{is_anywhere}

-- the node that stands so many levels above n
abbrev pub ancestor_at : Table → ℕ → ℕ → Option ℕ
ancestor_at T zero n = Some n
ancestor_at T (suc k) n = option_and_then (parent_of T) (ancestor_at T k n)

-- the one that stands as many levels above n as there are steps
abbrev pub ancestor_over : Table → List TypedPatternStepTree → ℕ → Option ℕ
ancestor_over T ss n = ancestor_at T (length ss) n

-- whether some step stands after `//`
abbrev pub some_anywhere : List TypedPatternStepTree → Bool
some_anywhere ss = list_any (λ s. is_anywhere s.join) ss

-- a node that may be missing, alone or with all that stand above it
abbrev pub places_from : Table → Bool → Option ℕ → List ℕ
places_from T higher None = []
places_from T higher (Some m) = if higher then above T m else m ∷ []

-- where a step can stand in a chain to n, by the steps behind it: as many levels above n as there are of them, or, where one of
-- them stands after `//`, at least so many
abbrev pub standing_places : Table → List TypedPatternStepTree → ℕ → List ℕ
standing_places T ss n = places_from T (some_anywhere ss) (ancestor_over T ss n)

-- the names of some nodes that a test looks at
abbrev pub place_names : Table → Axis → NodeTest → List ℕ → List Read
place_names T axis node_test ns = if is_by_name node_test then map cell (names_on T axis ns) else []

-- the names that the tests of steps look at, those of the last step first
abbrev pub step_names : Table → ℕ → List TypedPatternStepTree → List Read
step_names T n [] = []
step_names T n (s ∷ ss) = step_names T n ss ++ place_names T s.axis s.test (standing_places T ss n)

-- and those of all path patterns, whether or not there is a chain
abbrev pub pattern_names : Table → ℕ → List TypedPathTree → List Read
pattern_names T n ps = flat_map (λ p. step_names T n p.steps) ps

-- of so many nodes from n upwards the names are held, where they are elements
abbrev pub HoldsNames : Table → ℕ → ℕ → Recorded → Type 0
HoldsNames T n levels held =
    (k : ℕ) → k < levels → IfSome (ancestor_at T k n) (λ m. is_element (kind_of T m) ≡ true → has_read held (cell (Name m)) ≡ true)
