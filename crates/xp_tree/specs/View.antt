-- The tree that a value of the program stands for.
use Rattle.std.specs.Prelude.{List, [], ◌∷◌, map}
use Rattle.xp_tree.specs.declared.expr.Expr.{Expr}
use Rattle.xp_tree.specs.declared.expr.Chain.{Chain}
use Rattle.xp_tree.specs.declared.expr.Operand.{Operand}
use Rattle.xp_tree.specs.declared.expr.Start.{Start}
use Rattle.xp_tree.specs.declared.expr.Step.{Step}
use Rattle.xp_tree.specs.declared.expr.Expr.TheFolds.{fold-Expr, fold-Chain, fold-Operand, fold-Start, fold-Step}
use Rattle.xp_tree.specs.declared.expr.Expr.TheOpen.{Expr-F, Chain-F, Step-F, Start-F, Operand-F}
use Rattle.xp_tree.specs.declared.terms.Level.{Level}
use Rattle.xp_tree.specs.declared.terms.Level.TheVariants as levels
use Rattle.xp_tree.specs.Tree.{Tree, PathStart, Steps, Operands, Trees, chain, negated, path, filtered, variable, literal, number, call, root, here, from, no_steps, step, no_operands, operand, no_trees, tree}

abbrev pub trees_of : List Tree → Trees
trees_of [] = no_trees
trees_of (t ∷ ts) = tree t (trees_of ts)

abbrev pub steps_of : List (Steps → Steps) → Steps
steps_of [] = no_steps
steps_of (s ∷ ss) = s (steps_of ss)

abbrev pub operands_of : List (Operands → Operands) → Operands
operands_of [] = no_operands
operands_of (o ∷ os) = o (operands_of os)

-- one layer each, whose parts are already seen as trees
abbrev pub expr_seen : Expr-F Tree PathStart (Level → Tree) (Operands → Operands) (Steps → Steps) → Tree
expr_seen (Expr-F.Or c) = c levels.Or
expr_seen (Expr-F.And c) = c levels.And
expr_seen (Expr-F.Equal c) = c levels.Equal
expr_seen (Expr-F.Rel c) = c levels.Rel
expr_seen (Expr-F.Sum c) = c levels.Sum
expr_seen (Expr-F.Prod c) = c levels.Prod
expr_seen (Expr-F.Union c) = c levels.Union
expr_seen (Expr-F.Neg offset count inner) = negated offset count inner.value
expr_seen (Expr-F.Path offset start steps) = path offset start (steps_of steps.items)
expr_seen (Expr-F.Filter offset base predicates) = filtered offset base.value (trees_of predicates.items)
expr_seen (Expr-F.Variable offset name) = variable offset name
expr_seen (Expr-F.Literal offset value) = literal offset value
expr_seen (Expr-F.Number offset digits) = number offset digits
expr_seen (Expr-F.Call offset name args) = call offset name (trees_of args.items)

abbrev pub start_seen : Start-F Tree PathStart (Level → Tree) (Operands → Operands) (Steps → Steps) → PathStart
start_seen Start-F.Root = root
start_seen Start-F.Here = here
start_seen (Start-F.From base) = from base.value

abbrev pub chain_seen : Chain-F Tree PathStart (Level → Tree) (Operands → Operands) (Steps → Steps) → Level → Tree
chain_seen c level = chain level c.offset c.first.value (operands_of c.rest.items)

abbrev pub operand_seen : Operand-F Tree PathStart (Level → Tree) (Operands → Operands) (Steps → Steps) → Operands → Operands
operand_seen o rest = operand o.operator o.offset o.expr rest

abbrev pub step_seen : Step-F Tree PathStart (Level → Tree) (Operands → Operands) (Steps → Steps) → Steps → Steps
step_seen s rest = step s.offset s.axis s.test s.test_offset (trees_of s.predicates.items) rest

-- the tree of an expression
unfoldable pub tree_of : Expr → Tree
tree_of =
    fold-Expr Tree PathStart (Level → Tree) (Operands → Operands) (Steps → Steps) expr_seen start_seen chain_seen operand_seen step_seen

-- where a path begins
unfoldable pub start_of : Start → PathStart
start_of =
    fold-Start Tree PathStart (Level → Tree) (Operands → Operands) (Steps → Steps) expr_seen start_seen chain_seen operand_seen step_seen

-- a chain at its level
unfoldable pub chain_of : Chain → Level → Tree
chain_of =
    fold-Chain Tree PathStart (Level → Tree) (Operands → Operands) (Steps → Steps) expr_seen start_seen chain_seen operand_seen step_seen

-- an operand before others
unfoldable pub operand_of : Operand → Operands → Operands
operand_of =
    fold-Operand Tree PathStart (Level → Tree) (Operands → Operands) (Steps → Steps) expr_seen start_seen chain_seen operand_seen step_seen

-- a step before others
unfoldable pub step_of : Step → Steps → Steps
step_of =
    fold-Step Tree PathStart (Level → Tree) (Operands → Operands) (Steps → Steps) expr_seen start_seen chain_seen operand_seen step_seen

-- the trees of a list of expressions
abbrev pub trees_seen : List Expr → Trees
trees_seen es = trees_of (map tree_of es)

-- the operands of a list
abbrev pub operands_seen : List Operand → Operands
operands_seen os = operands_of (map operand_of os)

-- the steps of a list
abbrev pub steps_seen : List Step → Steps
steps_seen ss = steps_of (map step_of ss)
