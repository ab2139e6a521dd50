-- The steps of locations, and how each is written (XPath 1.0, section 2): what stands between a tree and the text of a location.
use Rattle.std.specs.Prelude.{◌≡◌, ℕ, ◌≤◌, ◌==◌, Bool, false, ◌&&◌, List, [], ◌∷◌, codes}
use Rattle.std.specs.List.{flat_map, list_any}
use Rattle.xp_tree.specs.declared.numbers.TheConstants.{MAX_WHOLE}
use Rattle.xp_lexicon.specs.Lexicon.{IsNcname}
use Rattle.doc_locations.specs.Locations.{kid_step, named_step}

-- the kinds of kids
pub data KidKind : Type 0 where
  elements : KidKind
  texts : KidKind
  comments : KidKind
  instructions : KidKind

pub data LocationStep : Type 0 where
  -- to a kid, by its kind and its place among the kids of that kind
  to_kid : KidKind → ℕ → LocationStep
  -- to an attribute, by its local name and its namespace, which is empty for none
  to_attribute : List ℕ → List ℕ → LocationStep

-- the node test of a kind (section 2.3)
abbrev pub test_written : KidKind → List ℕ
test_written elements = codes "*"
test_written texts = codes "text()"
test_written comments = codes "comment()"
test_written instructions = codes "processing-instruction()"

abbrev pub step_text : LocationStep → List ℕ
step_text (to_kid kind place) = kid_step (test_written kind) place
step_text (to_attribute local uri) = named_step local uri

abbrev pub steps_text : List LocationStep → List ℕ
steps_text steps = flat_map step_text steps

-- a text with both `'` and `"`, which no literal holds (section 3.7)
abbrev pub holds_both_quotes : List ℕ → Bool
holds_both_quotes text = list_any (λ b. b == 39) text && list_any (λ b. b == 34) text

-- what an expression can say: the place is a number of the range, the name is one, and the namespace stands in quotes
abbrev pub IsSpellable : LocationStep → Type 0
IsSpellable (to_kid kind place) = place ≤ MAX_WHOLE
IsSpellable (to_attribute local uri) = IsNcname local × (holds_both_quotes uri ≡ false)

abbrev pub AllSpellable : List LocationStep → Type 0
AllSpellable [] = Unit {0}
AllSpellable (s ∷ ss) = IsSpellable s × AllSpellable ss
