-- A location finds its node: the expression that it spells selects that node alone (XPath 1.0, section 2).
use Rattle.std.specs.Prelude.{◌≡◌, ℕ, true, List, [], ◌∷◌, Ok}
use Rattle.sch_base.specs.declared.limits.TheConstants.{MAX_NESTING}
use Rattle.doc_tree.specs.Table.{Table, is_live}
use Rattle.doc_locations.specs.Locations.{location_of}
use Rattle.name_scopes.specs.Scoping.{InScope}
use Rattle.xp_tree.specs.Tree.{Tree}
use Rattle.xp_syntax.specs.Syntax.{Spells}
use Rattle.xp_typed_tree.specs.TypedTree.{TypedTree}
use Rattle.xp_types.specs.Scope.{Scope}
use Rattle.xp_types.specs.HasType.{HasType}
use Rattle.xp_values.specs.declared.values.Value.TheVariants.{NodeSet}
use Rattle.xp_meaning.specs.declared.context.Context.{Context}
use Rattle.xp_meaning.specs.Evaluation.{Lets, meaning}

-- a text is an expression that finds the node: well typed in every scope, with whatever lets and from whatever context
pub record Finds (T : Table) (location : List ℕ) (n : ℕ) : Type 0 where
  pub expression : Tree
  pub spelled : Spells MAX_NESTING location expression
  pub typed : TypedTree
  pub has_type : (S : Scope) → HasType S expression typed
  pub finds : (L : Lets) (c : Context) → (meaning T L typed c).answer ≡ Ok (NodeSet (n ∷ []))

-- in a tree that is in scope the location of each node finds it
abbrev pub LocationsFindTheirNodes : Table → Type 0
LocationsFindTheirNodes T = InScope T → (n : ℕ) → is_live T n ≡ true → Finds T (location_of T n) n

-- whatever expression the location spells, at whatever limit of nesting, and whatever its type, it selects that node alone
abbrev pub LocationsFindNothingElse : Table → Type 0
LocationsFindNothingElse T =
    InScope T → (n : ℕ) → is_live T n ≡ true → (limit : ℕ) (e : Tree) → Spells limit (location_of T n) e →
    (S : Scope) (t : TypedTree) → HasType S e t → (L : Lets) (c : Context) → (meaning T L t c).answer ≡ Ok (NodeSet (n ∷ []))
