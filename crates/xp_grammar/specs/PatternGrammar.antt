-- The productions of match patterns: XSLT 1.0, section 5.2. `IsPathPattern limit s u p`: a LocationPathPattern stands at
-- the front of the tokens s, u follows it, and p is its tree.
use Rattle.std.specs.Prelude.{◌≡◌, ℕ, ◌≤◌, Bool, true, false, List, [], ◌∷◌, Option, None, Some, codes}
use Rattle.xp_tree.specs.declared.terms.AxisName.{AxisName}
use Rattle.xp_tree.specs.declared.terms.AxisName.TheVariants as axis
use Rattle.xp_tree.specs.declared.terms.Operator.TheVariants as operator
use Rattle.xp_tree.specs.declared.terms.StepTest.{StepTest}
use Rattle.xp_tree.specs.declared.pattern.Join.{Join}
use Rattle.xp_tree.specs.declared.pattern.Join.TheVariants as join
use Rattle.xp_tree.specs.declared.pattern.PatternStart.{PatternStart}
use Rattle.xp_tree.specs.declared.pattern.PatternStart.TheVariants as start
use Rattle.xp_tree.specs.Tree.{Trees}
use Rattle.xp_tree.specs.PatternTree.{StepTree, PathTree}
use Rattle.xp_grammar.specs.declared.token.Placed.{Placed}
use Rattle.xp_grammar.specs.declared.token.Token.TheVariants as token
use Rattle.xp_grammar.specs.Parts.{offset_at}
use Rattle.xp_grammar.specs.Grammar.{IsAxis, IsTest, IsPredicates}

-- the axes that a pattern may name, and whether the axis is attribute
abbrev pub pattern_axis : AxisName → Option Bool
pattern_axis axis.Child = Some false
pattern_axis axis.Attribute = Some true
pattern_axis _ = None

abbrev pub step_tree : Join → ℕ → Bool → StepTest → ℕ → Trees → StepTree
step_tree j offset is_attribute test test_offset ps = record {
  join = j;
  offset = offset;
  is_attribute = is_attribute;
  test = test;
  test_offset = test_offset;
  predicates = ps;
}

abbrev pub path_tree : ℕ → PatternStart → List StepTree → PathTree
path_tree offset begins steps = record { offset = offset; start = begins; steps = steps }

-- StepPattern: (("child" | "attribute") "::" | "@")? NodeTest Predicate*
pub data IsStepPattern (limit : ℕ) : Join → List Placed → List Placed → StepTree → Type 0 where
  step_pattern : (j : Join) (s t v u : List Placed) (a : AxisName) (is_attribute : Bool) (k : StepTest) (ps : Trees) →
      IsAxis s t a → pattern_axis a ≡ Some is_attribute → IsTest t v k → IsPredicates limit 0 v u ps →
      IsStepPattern limit j s u (step_tree j (offset_at s) is_attribute k (offset_at t) ps)

mutual
  -- RelativePathPattern: StepPattern (("/" | "//") StepPattern)*, after a join
  pub data IsRelative (limit : ℕ) : Join → List Placed → List Placed → List StepTree → Type 0 where
    relative : (j : Join) (s m u : List Placed) (it : StepTree) (rest : List StepTree) →
        IsStepPattern limit j s m it → IsMoreSteps limit m u rest → IsRelative limit j s u (it ∷ rest)

  -- (("/" | "//") RelativePathPattern)?
  pub data IsMoreSteps (limit : ℕ) : List Placed → List Placed → List StepTree → Type 0 where
    no_more_steps : (s : List Placed) → IsMoreSteps limit s s []
    slash_steps : (p : Placed) (s u : List Placed) (steps : List StepTree) →
        p.token ≡ token.Slash → IsRelative limit join.Slash s u steps → IsMoreSteps limit (p ∷ s) u steps
    double_slash_steps : (p : Placed) (s u : List Placed) (steps : List StepTree) →
        p.token ≡ token.DoubleSlash → IsRelative limit join.DoubleSlash s u steps → IsMoreSteps limit (p ∷ s) u steps

-- IdKeyPattern: "id" "(" Literal ")" | "key" "(" Literal "," Literal ")"
pub data IsIdKey (limit : ℕ) : List Placed → List Placed → PatternStart → Type 0 where
  by_id : (p q l r : Placed) (s : List Placed) (value : List ℕ) →
      p.token ≡ token.Function (codes "id") → q.token ≡ token.OpenParen → 1 ≤ limit →
      l.token ≡ token.Literal value → r.token ≡ token.CloseParen →
      IsIdKey limit (p ∷ q ∷ l ∷ r ∷ s) s (start.Id value)
  by_key : (p q n c l r : Placed) (s : List Placed) (name value : List ℕ) →
      p.token ≡ token.Function (codes "key") → q.token ≡ token.OpenParen → 1 ≤ limit →
      n.token ≡ token.Literal name → c.token ≡ token.Comma → l.token ≡ token.Literal value → r.token ≡ token.CloseParen →
      IsIdKey limit (p ∷ q ∷ n ∷ c ∷ l ∷ r ∷ s) s (start.Key name value)

-- LocationPathPattern: "/" RelativePathPattern? | "//"? RelativePathPattern
--     | IdKeyPattern (("/" | "//") RelativePathPattern)?
pub data IsPathPattern (limit : ℕ) : List Placed → List Placed → PathTree → Type 0 where
  root_alone : (p : Placed) (s : List Placed) →
      p.token ≡ token.Slash → IsPathPattern limit (p ∷ s) s (path_tree p.offset start.Root [])
  from_root : (p : Placed) (s u : List Placed) (steps : List StepTree) →
      p.token ≡ token.Slash → IsRelative limit join.Slash s u steps →
      IsPathPattern limit (p ∷ s) u (path_tree p.offset start.Root steps)
  from_anywhere : (p : Placed) (s u : List Placed) (steps : List StepTree) →
      p.token ≡ token.DoubleSlash → IsRelative limit join.DoubleSlash s u steps →
      IsPathPattern limit (p ∷ s) u (path_tree p.offset start.Root steps)
  from_here : (s u : List Placed) (steps : List StepTree) →
      IsRelative limit join.Nothing s u steps → IsPathPattern limit s u (path_tree (offset_at s) start.Here steps)
  from_id_key : (s m u : List Placed) (begins : PatternStart) (steps : List StepTree) →
      IsIdKey limit s m begins → IsMoreSteps limit m u steps →
      IsPathPattern limit s u (path_tree (offset_at s) begins steps)

mutual
  -- Pattern: LocationPathPattern ("|" LocationPathPattern)*
  pub data IsPattern (limit : ℕ) : List Placed → List Placed → List PathTree → Type 0 where
    pattern : (s m u : List Placed) (first : PathTree) (rest : List PathTree) →
        IsPathPattern limit s m first → IsMorePaths limit m u rest → IsPattern limit s u (first ∷ rest)

  -- ("|" LocationPathPattern)*
  pub data IsMorePaths (limit : ℕ) : List Placed → List Placed → List PathTree → Type 0 where
    no_more_paths : (s : List Placed) → IsMorePaths limit s s []
    more_paths : (p : Placed) (s u : List Placed) (paths : List PathTree) →
        p.token ≡ token.Operator operator.Union → IsPattern limit s u paths → IsMorePaths limit (p ∷ s) u paths

-- the tokens are those of a pattern, whose path patterns have these trees
abbrev pub DerivesPattern : ℕ → List Placed → List PathTree → Type 0
DerivesPattern limit tokens paths = IsPattern limit tokens [] paths
