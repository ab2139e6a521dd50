-- What the variants and the parts of an expression are seen as.
use Rattle.std.proofs.Common.{◌≡◌, ℕ, List, sym, ◌∙◌, ap}
use Rattle.std.specs.Prelude.{Box, Vec}
use Rattle.std.specs.declared.alloc.Global.{Global}
use Rattle.xp_tree.specs.declared.expr.Expr.{Expr}
use Rattle.xp_tree.specs.declared.expr.Chain.{Chain, out-Chain}
use Rattle.xp_tree.specs.declared.expr.Operand.{Operand, out-Operand}
use Rattle.xp_tree.specs.declared.expr.Start.{Start}
use Rattle.xp_tree.specs.declared.expr.Start.TheVariants as starts
use Rattle.xp_tree.specs.declared.expr.Start.TheVariants.{rolls-Root, rolls-Here, rolls-From}
use Rattle.xp_tree.specs.declared.expr.Step.{Step, out-Step}
use Rattle.xp_tree.specs.declared.terms.Level.{Level}
use Rattle.xp_tree.specs.declared.expr.Expr.TheVariants as exprs
use Rattle.xp_tree.specs.declared.expr.Expr.TheVariants.{rolls-Or, rolls-And, rolls-Equal, rolls-Rel, rolls-Sum, rolls-Prod, rolls-Neg, rolls-Union, rolls-Path, rolls-Filter, rolls-Variable, rolls-Literal, rolls-Number, rolls-Call}
use Rattle.xp_tree.specs.declared.expr.Expr.TheOpen as layers
use Rattle.xp_tree.specs.declared.expr.Expr.TheOpen.{Chain-F, Operand-F, Step-F}
use Rattle.xp_tree.specs.declared.expr.Expr.TheViews.{roll-Chain, roll-Operand, roll-Step}
use Rattle.xp_tree.specs.declared.expr.Expr.TheFolds.{fold-roll-Expr, fold-roll-Start, fold_out-Chain, fold_out-Operand, fold_out-Step, fold-roll-Chain, fold-roll-Operand, fold-roll-Step}
use Rattle.xp_tree.specs.declared.terms.Level.TheVariants as levels
use Rattle.xp_tree.specs.Tree.{Tree, Operands, Steps, chain, negated, path, filtered, variable, literal, number, call, root, here, from, operand, step}
use Rattle.xp_tree.specs.View.{tree_of, chain_of, operand_of, step_of, start_of, trees_seen, operands_seen, steps_seen}

pub of-Or : (c : Chain) → tree_of (exprs.Or c) ≡ chain_of c levels.Or
unfolding tree_of chain_of
of-Or c = sym (ap tree_of (rolls-Or c)) ∙ fold-roll-Expr _ _ _ _ _ _ _ _ _ _ (layers.Or c)

pub of-And : (c : Chain) → tree_of (exprs.And c) ≡ chain_of c levels.And
unfolding tree_of chain_of
of-And c = sym (ap tree_of (rolls-And c)) ∙ fold-roll-Expr _ _ _ _ _ _ _ _ _ _ (layers.And c)

pub of-Equal : (c : Chain) → tree_of (exprs.Equal c) ≡ chain_of c levels.Equal
unfolding tree_of chain_of
of-Equal c = sym (ap tree_of (rolls-Equal c)) ∙ fold-roll-Expr _ _ _ _ _ _ _ _ _ _ (layers.Equal c)

pub of-Rel : (c : Chain) → tree_of (exprs.Rel c) ≡ chain_of c levels.Rel
unfolding tree_of chain_of
of-Rel c = sym (ap tree_of (rolls-Rel c)) ∙ fold-roll-Expr _ _ _ _ _ _ _ _ _ _ (layers.Rel c)

pub of-Sum : (c : Chain) → tree_of (exprs.Sum c) ≡ chain_of c levels.Sum
unfolding tree_of chain_of
of-Sum c = sym (ap tree_of (rolls-Sum c)) ∙ fold-roll-Expr _ _ _ _ _ _ _ _ _ _ (layers.Sum c)

pub of-Prod : (c : Chain) → tree_of (exprs.Prod c) ≡ chain_of c levels.Prod
unfolding tree_of chain_of
of-Prod c = sym (ap tree_of (rolls-Prod c)) ∙ fold-roll-Expr _ _ _ _ _ _ _ _ _ _ (layers.Prod c)

pub of-Union : (c : Chain) → tree_of (exprs.Union c) ≡ chain_of c levels.Union
unfolding tree_of chain_of
of-Union c = sym (ap tree_of (rolls-Union c)) ∙ fold-roll-Expr _ _ _ _ _ _ _ _ _ _ (layers.Union c)

pub of-Neg : (offset : ℕ) (count : ℕ) (inner : Box Expr Global) → tree_of (exprs.Neg offset count inner) ≡ negated offset count (tree_of inner.value)
unfolding tree_of
of-Neg offset count inner = sym (ap tree_of (rolls-Neg offset count inner)) ∙ fold-roll-Expr _ _ _ _ _ _ _ _ _ _ (layers.Neg offset count inner)

pub of-Path : (offset : ℕ) (start : Start) (steps : Vec Step Global) → tree_of (exprs.Path offset start steps) ≡ path offset (start_of start) (steps_seen steps.items)
unfolding tree_of start_of step_of
of-Path offset start steps = sym (ap tree_of (rolls-Path offset start steps)) ∙ fold-roll-Expr _ _ _ _ _ _ _ _ _ _ (layers.Path offset start steps)

pub of-Filter : (offset : ℕ) (base : Box Expr Global) (predicates : Vec Expr Global) → tree_of (exprs.Filter offset base predicates) ≡ filtered offset (tree_of base.value) (trees_seen predicates.items)
unfolding tree_of
of-Filter offset base predicates = sym (ap tree_of (rolls-Filter offset base predicates)) ∙ fold-roll-Expr _ _ _ _ _ _ _ _ _ _ (layers.Filter offset base predicates)

pub of-Variable : (offset : ℕ) (name : List ℕ) → tree_of (exprs.Variable offset name) ≡ variable offset name
unfolding tree_of
of-Variable offset name = sym (ap tree_of (rolls-Variable offset name)) ∙ fold-roll-Expr _ _ _ _ _ _ _ _ _ _ (layers.Variable offset name)

pub of-Literal : (offset : ℕ) (value : List ℕ) → tree_of (exprs.Literal offset value) ≡ literal offset value
unfolding tree_of
of-Literal offset value = sym (ap tree_of (rolls-Literal offset value)) ∙ fold-roll-Expr _ _ _ _ _ _ _ _ _ _ (layers.Literal offset value)

pub of-Number : (offset : ℕ) (digits : List ℕ) → tree_of (exprs.Number offset digits) ≡ number offset digits
unfolding tree_of
of-Number offset digits = sym (ap tree_of (rolls-Number offset digits)) ∙ fold-roll-Expr _ _ _ _ _ _ _ _ _ _ (layers.Number offset digits)

pub of-Call : (offset : ℕ) (name : List ℕ) (args : Vec Expr Global) → tree_of (exprs.Call offset name args) ≡ call offset name (trees_seen args.items)
unfolding tree_of
of-Call offset name args = sym (ap tree_of (rolls-Call offset name args)) ∙ fold-roll-Expr _ _ _ _ _ _ _ _ _ _ (layers.Call offset name args)

pub of-Root : start_of starts.Root ≡ root
unfolding start_of
of-Root = sym (ap start_of rolls-Root) ∙ fold-roll-Start _ _ _ _ _ _ _ _ _ _ layers.Root

pub of-Here : start_of starts.Here ≡ here
unfolding start_of
of-Here = sym (ap start_of rolls-Here) ∙ fold-roll-Start _ _ _ _ _ _ _ _ _ _ layers.Here

pub of-From : (base : Box Expr Global) → start_of (starts.From base) ≡ from (tree_of base.value)
unfolding start_of tree_of
of-From base = sym (ap start_of (rolls-From base)) ∙ fold-roll-Start _ _ _ _ _ _ _ _ _ _ (layers.From base)

pub of-chain : (c : Chain) (level : Level) →
    chain_of c level ≡ chain level (out-Chain c).offset (tree_of (out-Chain c).first.value) (operands_seen (out-Chain c).rest.items)
unfolding chain_of tree_of operand_of
of-chain c level = ap (λ (f : Level → Tree). f level) (fold_out-Chain _ _ _ _ _ _ _ _ _ _ c)

pub of-operand : (o : Operand) (rest : Operands) →
    operand_of o rest ≡ operand (out-Operand o).operator (out-Operand o).offset (tree_of (out-Operand o).expr) rest
unfolding operand_of tree_of
of-operand o rest = ap (λ (f : Operands → Operands). f rest) (fold_out-Operand _ _ _ _ _ _ _ _ _ _ o)

pub of-step : (s : Step) (rest : Steps) →
    step_of s rest ≡ step (out-Step s).offset (out-Step s).axis (out-Step s).test (out-Step s).test_offset (trees_seen (out-Step s).predicates.items) rest
unfolding step_of tree_of
of-step s rest = ap (λ (f : Steps → Steps). f rest) (fold_out-Step _ _ _ _ _ _ _ _ _ _ s)

pub of-rolled-chain : (f : Chain-F Expr Start Chain Operand Step) (level : Level) →
    chain_of (roll-Chain f) level ≡ chain level f.offset (tree_of f.first.value) (operands_seen f.rest.items)
unfolding chain_of tree_of operand_of
of-rolled-chain f level = ap (λ (g : Level → Tree). g level) (fold-roll-Chain _ _ _ _ _ _ _ _ _ _ f)

pub of-rolled-operand : (f : Operand-F Expr Start Chain Operand Step) (rest : Operands) →
    operand_of (roll-Operand f) rest ≡ operand f.operator f.offset (tree_of f.expr) rest
unfolding operand_of tree_of
of-rolled-operand f rest = ap (λ (g : Operands → Operands). g rest) (fold-roll-Operand _ _ _ _ _ _ _ _ _ _ f)

pub of-rolled-step : (f : Step-F Expr Start Chain Operand Step) (rest : Steps) →
    step_of (roll-Step f) rest ≡ step f.offset f.axis f.test f.test_offset (trees_seen f.predicates.items) rest
unfolding step_of tree_of
of-rolled-step f rest = ap (λ (g : Steps → Steps). g rest) (fold-roll-Step _ _ _ _ _ _ _ _ _ _ f)
