-- Matching and node-sets (XSLT 1.0, section 5.2).
use Rattle.std.specs.Prelude.{◌≡◌, ℕ, Bool, true, List, Ok}
use Rattle.std.specs.List.{list_any}
use Rattle.doc_tree.specs.Lists.{mem}
use Rattle.doc_tree.specs.Table.{Table, is_live}
use Rattle.doc_tree.specs.Walks.{above}
use Rattle.xp_typed_tree.specs.TypedTree.{TypedPathTree}
use Rattle.xp_typed_tree.specs.WellTyped.{PathsTyped}
use Rattle.xp_typed_tree.specs.Slots.{slots_in_paths}
use Rattle.xp_values.specs.declared.values.Value.TheVariants.{NodeSet}
use Rattle.xp_meaning.specs.Paths.{placed}
use Rattle.xp_meaning.specs.Evaluation.{Lets, meaning}
use Rattle.xp_meaning_laws.specs.Slots.{SlotsFit}
use Rattle.xslt_match.specs.Matching.{matching}
use Rattle.xslt_match_laws.specs.Reading.{as_expression}

-- where the slots that a pattern names are set with values of the types that it takes them for, or with faults, and the
-- pattern read as an expression has no fault at the node or at an ancestor as context, and no test has one, the node
-- matches exactly where it is in the node-set of one of these evaluations
abbrev pub MatchesAreSelected : Table → Type 0
MatchesAreSelected T =
    (L : Lets) (ps : List TypedPathTree) (n : ℕ) (sets : ℕ → List ℕ) (b : Bool) →
    is_live T n ≡ true → PathsTyped ps → SlotsFit L (slots_in_paths ps) →
    ((m : ℕ) → mem m (above T n) ≡ true →
    (meaning T L (as_expression ps) (placed n 1 1 m)).answer ≡ Ok (NodeSet (sets m))) →
    (matching T L ps n).answer ≡ Ok b → b ≡ list_any (λ m. mem n (sets m)) (above T n)
