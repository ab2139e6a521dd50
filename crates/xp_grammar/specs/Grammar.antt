-- The productions of XPath 1.0, sections 2 and 3. `IsPath limit depth s u e`: a Path stands at the front of the tokens
-- s, u follows it, and e is its tree; depth is the number of `(` and `[` that are open there.
use Rattle.std.specs.Prelude.{◌≡◌, ℕ, suc, ◌+◌, ◌≤◌, List, [], ◌∷◌, Option, None, Some}
use Rattle.xp_tree.specs.declared.terms.Level.{Level}
use Rattle.xp_tree.specs.declared.terms.Level.TheVariants as level
use Rattle.xp_tree.specs.declared.terms.Operator.{Operator}
use Rattle.xp_tree.specs.declared.terms.Operator.TheVariants as operator
use Rattle.xp_tree.specs.declared.terms.AxisName.{AxisName}
use Rattle.xp_tree.specs.declared.terms.AxisName.TheVariants as axis
use Rattle.xp_tree.specs.declared.terms.StepTest.{StepTest}
use Rattle.xp_tree.specs.declared.terms.StepTest.TheVariants as test
use Rattle.xp_tree.specs.Tree.{Tree, Steps, Operands, Trees, path, variable, literal, number, call, root, here, no_steps, step, no_operands, operand, no_trees, tree}
use Rattle.xp_grammar.specs.declared.token.Placed.{Placed}
use Rattle.xp_grammar.specs.declared.token.NodeType.{NodeType}
use Rattle.xp_grammar.specs.declared.token.NodeType.TheVariants as node_type
use Rattle.xp_grammar.specs.declared.token.Token.TheVariants as token
use Rattle.xp_grammar.specs.Parts.{offset_at, level_of, joined, with_signs, with_predicates, with_steps, everywhere, name_test, type_test}

-- the level whose chains are the operands of this level's; those of Prod and Union are other parts
abbrev pub tighter : Level → Option Level
tighter level.Or = Some level.And
tighter level.And = Some level.Equal
tighter level.Equal = Some level.Rel
tighter level.Rel = Some level.Sum
tighter level.Sum = Some level.Prod
tighter level.Prod = None
tighter level.Union = None

-- "-"*, this many
pub data IsSigns : ℕ → List Placed → List Placed → Type 0 where
  no_sign : (s : List Placed) → IsSigns 0 s s
  sign : (k : ℕ) (p : Placed) (s u : List Placed) →
      p.token ≡ token.Operator operator.Minus → IsSigns k s u → IsSigns (suc k) (p ∷ s) u

-- (AxisName "::" | "@")?
pub data IsAxis : List Placed → List Placed → AxisName → Type 0 where
  no_axis : (s : List Placed) → IsAxis s s axis.Child
  at_sign : (p : Placed) (s : List Placed) → p.token ≡ token.At → IsAxis (p ∷ s) s axis.Attribute
  named_axis : (p q : Placed) (s : List Placed) (a : AxisName) →
      p.token ≡ token.Axis a → q.token ≡ token.DoubleColon → IsAxis (p ∷ q ∷ s) s a

-- "*" | NCName ":*" | QName | NodeType "(" ")" | "processing-instruction" "(" Literal ")"
pub data IsTest : List Placed → List Placed → StepTest → Type 0 where
  star_test : (p : Placed) (s : List Placed) → p.token ≡ token.Star → IsTest (p ∷ s) s test.Star
  prefix_test : (p : Placed) (s : List Placed) (prefix : List ℕ) →
      p.token ≡ token.PrefixStar prefix → IsTest (p ∷ s) s (test.InPrefix prefix)
  named_test : (p : Placed) (s : List Placed) (name : List ℕ) →
      p.token ≡ token.Name name → IsTest (p ∷ s) s (name_test name)
  typed_test : (p q r : Placed) (s : List Placed) (t : NodeType) →
      p.token ≡ token.NodeType t → q.token ≡ token.OpenParen → r.token ≡ token.CloseParen →
      IsTest (p ∷ q ∷ r ∷ s) s (type_test t)
  target_test : (p q l r : Placed) (s : List Placed) (target : List ℕ) →
      p.token ≡ token.NodeType node_type.Pi → q.token ≡ token.OpenParen →
      l.token ≡ token.Literal target → r.token ≡ token.CloseParen →
      IsTest (p ∷ q ∷ l ∷ r ∷ s) s (test.PiNamed target)

mutual
  -- operands of one level with the operators between them; Or is Expr
  pub data IsChain (limit : ℕ) : Level → ℕ → List Placed → List Placed → Tree → Type 0 where
    chained : (n : Level) (depth : ℕ) (s m u : List Placed) (first : Tree) (rest : Operands) →
        IsOperand limit n depth s m first → IsOperands limit n depth m u rest →
        IsChain limit n depth s u (joined n (offset_at s) first rest)

  -- one operand of a level
  pub data IsOperand (limit : ℕ) : Level → ℕ → List Placed → List Placed → Tree → Type 0 where
    tighter_chain : (n inner : Level) (depth : ℕ) (s u : List Placed) (e : Tree) →
        tighter n ≡ Some inner → IsChain limit inner depth s u e → IsOperand limit n depth s u e
    signed : (depth count : ℕ) (s m u : List Placed) (e : Tree) →
        IsSigns count s m → depth + count ≤ limit → IsChain limit level.Union depth m u e →
        IsOperand limit level.Prod depth s u (with_signs (offset_at s) count e)
    one_path : (depth : ℕ) (s u : List Placed) (e : Tree) →
        IsPath limit depth s u e → IsOperand limit level.Union depth s u e

  -- (operator operand)*
  pub data IsOperands (limit : ℕ) : Level → ℕ → List Placed → List Placed → Operands → Type 0 where
    no_more : (n : Level) (depth : ℕ) (s : List Placed) → IsOperands limit n depth s s no_operands
    one_more : (n : Level) (depth : ℕ) (p : Placed) (s m u : List Placed) (o : Operator) (e : Tree) (rest : Operands) →
        p.token ≡ token.Operator o → level_of o ≡ n →
        IsOperand limit n depth s m e → IsOperands limit n depth m u rest →
        IsOperands limit n depth (p ∷ s) u (operand o p.offset e rest)

  -- LocationPath | FilterExpr (("/" | "//") RelativeLocationPath)?
  pub data IsPath (limit : ℕ) : ℕ → List Placed → List Placed → Tree → Type 0 where
    root_alone : (depth : ℕ) (p : Placed) (s : List Placed) →
        p.token ≡ token.Slash → IsPath limit depth (p ∷ s) s (path p.offset root no_steps)
    from_root : (depth : ℕ) (p : Placed) (s u : List Placed) (steps : Steps) →
        p.token ≡ token.Slash → IsSteps limit depth s u steps →
        IsPath limit depth (p ∷ s) u (path p.offset root steps)
    from_anywhere : (depth : ℕ) (p : Placed) (s u : List Placed) (steps : Steps) →
        p.token ≡ token.DoubleSlash → IsSteps limit depth s u steps →
        IsPath limit depth (p ∷ s) u (path p.offset root (everywhere p.offset steps))
    from_here : (depth : ℕ) (s u : List Placed) (steps : Steps) →
        IsSteps limit depth s u steps → IsPath limit depth s u (path (offset_at s) here steps)
    from_filter : (depth : ℕ) (s m u : List Placed) (e : Tree) (steps : Steps) →
        IsFilter limit depth s m e → IsMoreSteps limit depth m u steps →
        IsPath limit depth s u (with_steps (offset_at s) e steps)

  -- Step (("/" | "//") Step)*
  pub data IsSteps (limit : ℕ) : ℕ → List Placed → List Placed → Steps → Type 0 where
    dot_step : (depth : ℕ) (p : Placed) (s u : List Placed) (rest : Steps) →
        p.token ≡ token.Dot → IsMoreSteps limit depth s u rest →
        IsSteps limit depth (p ∷ s) u (step p.offset axis.SelfNode test.Node p.offset no_trees rest)
    parent_step : (depth : ℕ) (p : Placed) (s u : List Placed) (rest : Steps) →
        p.token ≡ token.DoubleDot → IsMoreSteps limit depth s u rest →
        IsSteps limit depth (p ∷ s) u (step p.offset axis.Parent test.Node p.offset no_trees rest)
    tested_step : (depth : ℕ) (s t v w u : List Placed) (a : AxisName) (k : StepTest) (ps : Trees) (rest : Steps) →
        IsAxis s t a → IsTest t v k → IsPredicates limit depth v w ps → IsMoreSteps limit depth w u rest →
        IsSteps limit depth s u (step (offset_at s) a k (offset_at t) ps rest)

  -- (("/" | "//") Step)*
  pub data IsMoreSteps (limit : ℕ) : ℕ → List Placed → List Placed → Steps → Type 0 where
    no_more_steps : (depth : ℕ) (s : List Placed) → IsMoreSteps limit depth s s no_steps
    slash_steps : (depth : ℕ) (p : Placed) (s u : List Placed) (steps : Steps) →
        p.token ≡ token.Slash → IsSteps limit depth s u steps → IsMoreSteps limit depth (p ∷ s) u steps
    double_slash_steps : (depth : ℕ) (p : Placed) (s u : List Placed) (steps : Steps) →
        p.token ≡ token.DoubleSlash → IsSteps limit depth s u steps →
        IsMoreSteps limit depth (p ∷ s) u (everywhere p.offset steps)

  -- ("[" Expr "]")*
  pub data IsPredicates (limit : ℕ) : ℕ → List Placed → List Placed → Trees → Type 0 where
    no_predicate : (depth : ℕ) (s : List Placed) → IsPredicates limit depth s s no_trees
    predicate : (depth : ℕ) (p q : Placed) (s m u : List Placed) (e : Tree) (rest : Trees) →
        p.token ≡ token.OpenBracket → suc depth ≤ limit → IsChain limit level.Or (suc depth) s (q ∷ m) e →
        q.token ≡ token.CloseBracket → IsPredicates limit depth m u rest →
        IsPredicates limit depth (p ∷ s) u (tree e rest)

  -- PrimaryExpr Predicate*
  pub data IsFilter (limit : ℕ) : ℕ → List Placed → List Placed → Tree → Type 0 where
    filter : (depth : ℕ) (s m u : List Placed) (e : Tree) (ps : Trees) →
        IsPrimary limit depth s m e → IsPredicates limit depth m u ps →
        IsFilter limit depth s u (with_predicates (offset_at s) e ps)

  -- VariableReference | "(" Expr ")" | Literal | Number | FunctionCall
  pub data IsPrimary (limit : ℕ) : ℕ → List Placed → List Placed → Tree → Type 0 where
    a_variable : (depth : ℕ) (p : Placed) (s : List Placed) (name : List ℕ) →
        p.token ≡ token.Variable name → IsPrimary limit depth (p ∷ s) s (variable p.offset name)
    a_literal : (depth : ℕ) (p : Placed) (s : List Placed) (value : List ℕ) →
        p.token ≡ token.Literal value → IsPrimary limit depth (p ∷ s) s (literal p.offset value)
    a_number : (depth : ℕ) (p : Placed) (s : List Placed) (digits : List ℕ) →
        p.token ≡ token.Number digits → IsPrimary limit depth (p ∷ s) s (number p.offset digits)
    in_parens : (depth : ℕ) (p q : Placed) (s u : List Placed) (e : Tree) →
        p.token ≡ token.OpenParen → suc depth ≤ limit → IsChain limit level.Or (suc depth) s (q ∷ u) e →
        q.token ≡ token.CloseParen → IsPrimary limit depth (p ∷ s) u e
    a_call : (depth : ℕ) (p q r : Placed) (s u : List Placed) (name : List ℕ) (args : Trees) →
        p.token ≡ token.Function name → q.token ≡ token.OpenParen → suc depth ≤ limit →
        IsArguments limit (suc depth) s (r ∷ u) args → r.token ≡ token.CloseParen →
        IsPrimary limit depth (p ∷ q ∷ s) u (call p.offset name args)

  -- (Expr ("," Expr)*)?
  pub data IsArguments (limit : ℕ) : ℕ → List Placed → List Placed → Trees → Type 0 where
    no_argument : (depth : ℕ) (s : List Placed) → IsArguments limit depth s s no_trees
    arguments : (depth : ℕ) (s m u : List Placed) (e : Tree) (rest : Trees) →
        IsChain limit level.Or depth s m e → IsMoreArguments limit depth m u rest →
        IsArguments limit depth s u (tree e rest)

  -- ("," Expr)*
  pub data IsMoreArguments (limit : ℕ) : ℕ → List Placed → List Placed → Trees → Type 0 where
    no_more_arguments : (depth : ℕ) (s : List Placed) → IsMoreArguments limit depth s s no_trees
    one_more_argument : (depth : ℕ) (p : Placed) (s m u : List Placed) (e : Tree) (rest : Trees) →
        p.token ≡ token.Comma → IsChain limit level.Or depth s m e → IsMoreArguments limit depth m u rest →
        IsMoreArguments limit depth (p ∷ s) u (tree e rest)

-- the tokens are those of an expression, whose tree is e
abbrev pub Derives : ℕ → List Placed → Tree → Type 0
Derives limit tokens e = IsChain limit level.Or 0 tokens [] e
