-- The way down to a node: the steps that spell its location, and where they lead (XPath 1.0, section 2).
use Rattle.std.specs.Prelude.{◌≡◌, ℕ, true, false, List, [], ◌∷◌, Some, Ok}
use Rattle.doc_tree.specs.kind.Kind.TheVariants as kinds
use Rattle.doc_tree.specs.Table.{Table, Name, is_live, kind_of, name_of}
use Rattle.doc_tree.specs.Walks.{above}
use Rattle.doc_locations.specs.Locations.{steps_of}
use Rattle.xp_lexicon.specs.Lexicon.{IsNcname}
use Rattle.xp_meaning.specs.Paths.{path}
use Rattle.xp_meaning.specs.Evaluation.{Lets, steps_meant}
use Rattle.location_texts.specs.LocationSteps.{LocationStep, AllSpellable, steps_text, holds_both_quotes}
use Rattle.location_texts.specs.StepTypes.{typed_steps}

pub record WayDown (T : Table) (n : ℕ) : Type 0 where
  pub steps : List LocationStep
  pub spellable : AllSpellable steps
  -- they spell the node's location
  pub spelled : steps_of T (above T n) ≡ steps_text steps
  -- from the root they lead to the node alone, whatever the lets and the node of the rule
  pub leads : (L : Lets) (current : ℕ) → (path T (steps_meant T L (typed_steps steps)) current (0 ∷ [])).answer ≡ Ok (n ∷ [])

-- an attribute's local part is an NCName, and its namespace can stand in quotes
abbrev pub HasSpellableAttributes : Table → Type 0
HasSpellableAttributes T =
    (a : ℕ) (name : Name) → kind_of T a ≡ Some kinds.Attribute → name_of T a ≡ Some name → IsNcname name.local × (holds_both_quotes name.uri ≡ false)

abbrev pub EachHasAWayDown : Table → Type 0
EachHasAWayDown T = HasSpellableAttributes T → (n : ℕ) → is_live T n ≡ true → WayDown T n
