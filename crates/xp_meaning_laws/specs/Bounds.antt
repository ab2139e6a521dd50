-- Bounds of values: numbers in range, and texts that are UTF-8 of no more bytes than a text may have.
use Rattle.std.specs.Prelude.{◌≡◌, ℕ, Bool, ◌≤◌, ◌++◌, List, [], ◌∷◌, length, Ok, Some, IsUtf8}
use Rattle.std.specs.List.{AllByRecursion as Each}
use Rattle.sch_base.specs.declared.limits.TheConstants.{MAX_TEXT_BYTES}
use Rattle.doc_tree.specs.QNames.{qname_of}
use Rattle.doc_tree.specs.Table.{Table, Name, name_of}
use Rattle.doc_tree.specs.Walks.{string_value_of}
use Rattle.xp_tree.specs.declared.numbers.TheConstants.{MAX_WHOLE}
use Rattle.xp_typed_tree.specs.TypedTree.{TypedTree, TypedPlace, TypedSteps, Comparands, Combinands, TypedTrees, disjunction, conjunction, comparison, arithmetic, negation, union, location, selection, slot, text, whole, application, at_root, at_context, at_nodes, no_more_steps, typed_step, no_comparands, comparand, no_combinands, combinand, no_typed, typed}
use Rattle.xp_typed_tree.specs.WellTyped.{WellTyped}
use Rattle.xp_outcome.specs.Slots.{in_slot}
use Rattle.xp_values.specs.declared.values.Value.{Value}
use Rattle.xp_values.specs.declared.values.Value.TheVariants.{NodeSet, Truth, Number, Chars}
use Rattle.xp_values.specs.Numbers.{InRange}
use Rattle.xp_meaning.specs.declared.context.Context.{Context}
use Rattle.xp_meaning.specs.Evaluation.{Lets, meaning}
use Rattle.xp_meaning.specs.Laws.{LetsAreProper}

-- UTF-8 of at most as many bytes as a text may have
abbrev pub IsText : List ℕ → Type 0
IsText bytes = IsUtf8 bytes × (length bytes ≤ MAX_TEXT_BYTES)

-- a number is in range, and characters are such a text
abbrev pub IsBounded : Value → Type 0
IsBounded (NodeSet nodes) = Unit {0}
IsBounded (Truth truth) = Unit {0}
IsBounded (Number number) = InRange number
IsBounded (Chars characters) = IsText characters

-- the literals that an expression is written with
abbrev mutual
  pub literals_in : TypedTree → List (List ℕ)
  literals_in (disjunction ts) = literals_in_all ts
  literals_in (conjunction ts) = literals_in_all ts
  literals_in (comparison first rest) = literals_in first ++ literals_in_comparands rest
  literals_in (arithmetic first rest) = literals_in first ++ literals_in_combinands rest
  literals_in (negation count operand) = literals_in operand
  literals_in (union ts) = literals_in_all ts
  literals_in (location place steps) = literals_in_place place ++ literals_in_steps steps
  literals_in (selection base predicates) = literals_in base ++ literals_in_all predicates
  literals_in (slot place type) = []
  literals_in (text value) = value ∷ []
  literals_in (whole value) = []
  literals_in (application f args) = literals_in_all args

  pub literals_in_place : TypedPlace → List (List ℕ)
  literals_in_place at_root = []
  literals_in_place at_context = []
  literals_in_place (at_nodes base) = literals_in base

  pub literals_in_steps : TypedSteps → List (List ℕ)
  literals_in_steps no_more_steps = []
  literals_in_steps (typed_step axis node_test predicates rest) = literals_in_all predicates ++ literals_in_steps rest

  pub literals_in_comparands : Comparands → List (List ℕ)
  literals_in_comparands no_comparands = []
  literals_in_comparands (comparand operator operand rest) = literals_in operand ++ literals_in_comparands rest

  pub literals_in_combinands : Combinands → List (List ℕ)
  literals_in_combinands no_combinands = []
  literals_in_combinands (combinand operator operand rest) = literals_in operand ++ literals_in_combinands rest

  pub literals_in_all : TypedTrees → List (List ℕ)
  literals_in_all no_typed = []
  literals_in_all (typed t ts) = literals_in t ++ literals_in_all ts

-- the string-values of a tree are UTF-8; that they are no longer than texts may be is known of each tree
abbrev pub StringsAreUtf8 : Table → Type 0
StringsAreUtf8 T = (n : ℕ) → IsUtf8 (string_value_of T n)

-- the names of a tree are such texts
abbrev pub NamesFit : Table → Type 0
NamesFit T = (n : ℕ) (name : Name) → name_of T n ≡ Some name → IsText name.local × IsText name.uri × IsText (qname_of name)

-- the values of the lets are bounded
abbrev pub LetsAreBounded : Lets → Type 0
LetsAreBounded L = (place : ℕ) (v : Value) → in_slot L place ≡ Some (Ok v) → IsBounded v

-- the position and the size of a context are in range
abbrev pub IsPlacedInRange : Context → Type 0
IsPlacedInRange c = (c.position ≤ MAX_WHOLE) × (c.size ≤ MAX_WHOLE)

-- where all that the evaluation of a well typed expression begins with is bounded, so is its value
abbrev pub ValuesAreBounded : Table → Type 0
ValuesAreBounded T =
    (p : Bool) (L : Lets) (t : TypedTree) (c : Context) (v : Value) → WellTyped p t → Each IsText (literals_in t) → StringsAreUtf8 T → NamesFit T →
    LetsAreProper T L → LetsAreBounded L → IsPlacedInRange c → (meaning T L t c).answer ≡ Ok v → IsBounded v
