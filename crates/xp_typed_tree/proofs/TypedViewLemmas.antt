-- What the variants and the parts of a typed expression are seen as.
use Rattle.std.proofs.Common.{◌≡◌, ℕ, ℤ, List, sym, ◌∙◌, ap}
use Rattle.std.specs.Prelude.{Box, Vec}
use Rattle.std.specs.declared.alloc.Global.{Global}
use Rattle.xp_typed_tree.specs.declared.value_type.ValueType.{ValueType}
use Rattle.xp_typed_tree.specs.declared.function.Function.{Function}
use Rattle.xp_typed_tree.specs.declared.expr.TypedExpr.{TypedExpr}
use Rattle.xp_typed_tree.specs.declared.expr.Compared.{Compared, out-Compared}
use Rattle.xp_typed_tree.specs.declared.expr.Combined.{Combined, out-Combined}
use Rattle.xp_typed_tree.specs.declared.expr.TypedStart.{TypedStart}
use Rattle.xp_typed_tree.specs.declared.expr.TypedStep.{TypedStep, out-TypedStep}
use Rattle.xp_typed_tree.specs.declared.expr.TypedStart.TheVariants as starts
use Rattle.xp_typed_tree.specs.declared.expr.TypedStart.TheVariants.{rolls-Root, rolls-Here, rolls-From}
use Rattle.xp_typed_tree.specs.declared.expr.TypedExpr.TheVariants as exprs
use Rattle.xp_typed_tree.specs.declared.expr.TypedExpr.TheVariants.{rolls-Or, rolls-And, rolls-Compare, rolls-Arith, rolls-Negate, rolls-Union, rolls-Path, rolls-Filter, rolls-Variable, rolls-Literal, rolls-Number, rolls-Call}
use Rattle.xp_typed_tree.specs.declared.expr.TypedExpr.TheOpen as layers
use Rattle.xp_typed_tree.specs.declared.expr.TypedExpr.TheOpen.{Compared-F, Combined-F, TypedStep-F}
use Rattle.xp_typed_tree.specs.declared.expr.TypedExpr.TheViews.{roll-Compared, roll-Combined, roll-TypedStep}
use Rattle.xp_typed_tree.specs.declared.expr.TypedExpr.TheFolds.{fold-roll-TypedExpr, fold-roll-TypedStart, fold_out-Compared, fold_out-Combined, fold_out-TypedStep, fold-roll-Compared, fold-roll-Combined, fold-roll-TypedStep}
use Rattle.xp_typed_tree.specs.TypedTree.{TypedSteps, Comparands, Combinands, disjunction, conjunction, comparison, arithmetic, negation, union, location, selection, slot, text, whole, application, at_root, at_context, at_nodes, typed_step, comparand, combinand}
use Rattle.xp_typed_tree.specs.TypedView.{typed_tree_of, compared_of, combined_of, place_of, typed_step_of, typed_seen, compared_list_seen, combined_list_seen, typed_steps_seen}

pub of-Or : (es : Vec TypedExpr Global) → typed_tree_of (exprs.Or es) ≡ disjunction (typed_seen es.items)
unfolding typed_tree_of
of-Or es = sym (ap typed_tree_of (rolls-Or es)) ∙ fold-roll-TypedExpr _ _ _ _ _ _ _ _ _ _ (layers.Or es)

pub of-And : (es : Vec TypedExpr Global) → typed_tree_of (exprs.And es) ≡ conjunction (typed_seen es.items)
unfolding typed_tree_of
of-And es = sym (ap typed_tree_of (rolls-And es)) ∙ fold-roll-TypedExpr _ _ _ _ _ _ _ _ _ _ (layers.And es)

pub of-Compare : (first : Box TypedExpr Global) (rest : Vec Compared Global) → typed_tree_of (exprs.Compare first rest) ≡ comparison (typed_tree_of first.value) (compared_list_seen rest.items)
unfolding typed_tree_of compared_of
of-Compare first rest = sym (ap typed_tree_of (rolls-Compare first rest)) ∙ fold-roll-TypedExpr _ _ _ _ _ _ _ _ _ _ (layers.Compare first rest)

pub of-Arith : (first : Box TypedExpr Global) (rest : Vec Combined Global) → typed_tree_of (exprs.Arith first rest) ≡ arithmetic (typed_tree_of first.value) (combined_list_seen rest.items)
unfolding typed_tree_of combined_of
of-Arith first rest = sym (ap typed_tree_of (rolls-Arith first rest)) ∙ fold-roll-TypedExpr _ _ _ _ _ _ _ _ _ _ (layers.Arith first rest)

pub of-Negate : (count : ℕ) (operand : Box TypedExpr Global) → typed_tree_of (exprs.Negate count operand) ≡ negation count (typed_tree_of operand.value)
unfolding typed_tree_of
of-Negate count operand = sym (ap typed_tree_of (rolls-Negate count operand)) ∙ fold-roll-TypedExpr _ _ _ _ _ _ _ _ _ _ (layers.Negate count operand)

pub of-Union : (es : Vec TypedExpr Global) → typed_tree_of (exprs.Union es) ≡ union (typed_seen es.items)
unfolding typed_tree_of
of-Union es = sym (ap typed_tree_of (rolls-Union es)) ∙ fold-roll-TypedExpr _ _ _ _ _ _ _ _ _ _ (layers.Union es)

pub of-Path : (start : TypedStart) (steps : Vec TypedStep Global) → typed_tree_of (exprs.Path start steps) ≡ location (place_of start) (typed_steps_seen steps.items)
unfolding typed_tree_of place_of typed_step_of
of-Path start steps = sym (ap typed_tree_of (rolls-Path start steps)) ∙ fold-roll-TypedExpr _ _ _ _ _ _ _ _ _ _ (layers.Path start steps)

pub of-Filter : (base : Box TypedExpr Global) (predicates : Vec TypedExpr Global) → typed_tree_of (exprs.Filter base predicates) ≡ selection (typed_tree_of base.value) (typed_seen predicates.items)
unfolding typed_tree_of
of-Filter base predicates = sym (ap typed_tree_of (rolls-Filter base predicates)) ∙ fold-roll-TypedExpr _ _ _ _ _ _ _ _ _ _ (layers.Filter base predicates)

pub of-Variable : (place : ℕ) (type : ValueType) → typed_tree_of (exprs.Variable place type) ≡ slot place type
unfolding typed_tree_of
of-Variable place type = sym (ap typed_tree_of (rolls-Variable place type)) ∙ fold-roll-TypedExpr _ _ _ _ _ _ _ _ _ _ (layers.Variable place type)

pub of-Literal : (value : List ℕ) → typed_tree_of (exprs.Literal value) ≡ text value
unfolding typed_tree_of
of-Literal value = sym (ap typed_tree_of (rolls-Literal value)) ∙ fold-roll-TypedExpr _ _ _ _ _ _ _ _ _ _ (layers.Literal value)

pub of-Number : (value : ℤ) → typed_tree_of (exprs.Number value) ≡ whole value
unfolding typed_tree_of
of-Number value = sym (ap typed_tree_of (rolls-Number value)) ∙ fold-roll-TypedExpr _ _ _ _ _ _ _ _ _ _ (layers.Number value)

pub of-Call : (f : Function) (args : Vec TypedExpr Global) → typed_tree_of (exprs.Call f args) ≡ application f (typed_seen args.items)
unfolding typed_tree_of
of-Call f args = sym (ap typed_tree_of (rolls-Call f args)) ∙ fold-roll-TypedExpr _ _ _ _ _ _ _ _ _ _ (layers.Call f args)

pub of-Root : place_of starts.Root ≡ at_root
unfolding place_of
of-Root = sym (ap place_of rolls-Root) ∙ fold-roll-TypedStart _ _ _ _ _ _ _ _ _ _ layers.Root

pub of-Here : place_of starts.Here ≡ at_context
unfolding place_of
of-Here = sym (ap place_of rolls-Here) ∙ fold-roll-TypedStart _ _ _ _ _ _ _ _ _ _ layers.Here

pub of-From : (base : Box TypedExpr Global) → place_of (starts.From base) ≡ at_nodes (typed_tree_of base.value)
unfolding place_of typed_tree_of
of-From base = sym (ap place_of (rolls-From base)) ∙ fold-roll-TypedStart _ _ _ _ _ _ _ _ _ _ (layers.From base)

pub of-compared : (c : Compared) (rest : Comparands) →
    compared_of c rest ≡ comparand (out-Compared c).operator (typed_tree_of (out-Compared c).expr) rest
unfolding compared_of typed_tree_of
of-compared c rest = ap (λ (f : Comparands → Comparands). f rest) (fold_out-Compared _ _ _ _ _ _ _ _ _ _ c)

pub of-rolled-compared : (f : Compared-F TypedExpr TypedStart Combined Compared TypedStep) (rest : Comparands) →
    compared_of (roll-Compared f) rest ≡ comparand f.operator (typed_tree_of f.expr) rest
unfolding compared_of typed_tree_of
of-rolled-compared f rest = ap (λ (g : Comparands → Comparands). g rest) (fold-roll-Compared _ _ _ _ _ _ _ _ _ _ f)

pub of-combined : (c : Combined) (rest : Combinands) →
    combined_of c rest ≡ combinand (out-Combined c).operator (typed_tree_of (out-Combined c).expr) rest
unfolding combined_of typed_tree_of
of-combined c rest = ap (λ (f : Combinands → Combinands). f rest) (fold_out-Combined _ _ _ _ _ _ _ _ _ _ c)

pub of-rolled-combined : (f : Combined-F TypedExpr TypedStart Combined Compared TypedStep) (rest : Combinands) →
    combined_of (roll-Combined f) rest ≡ combinand f.operator (typed_tree_of f.expr) rest
unfolding combined_of typed_tree_of
of-rolled-combined f rest = ap (λ (g : Combinands → Combinands). g rest) (fold-roll-Combined _ _ _ _ _ _ _ _ _ _ f)

pub of-step : (s : TypedStep) (rest : TypedSteps) →
    typed_step_of s rest ≡ typed_step (out-TypedStep s).axis (out-TypedStep s).test (typed_seen (out-TypedStep s).predicates.items) rest
unfolding typed_step_of typed_tree_of
of-step s rest = ap (λ (f : TypedSteps → TypedSteps). f rest) (fold_out-TypedStep _ _ _ _ _ _ _ _ _ _ s)

pub of-rolled-step : (f : TypedStep-F TypedExpr TypedStart Combined Compared TypedStep) (rest : TypedSteps) →
    typed_step_of (roll-TypedStep f) rest ≡ typed_step f.axis f.test (typed_seen f.predicates.items) rest
unfolding typed_step_of typed_tree_of
of-rolled-step f rest = ap (λ (g : TypedSteps → TypedSteps). g rest) (fold-roll-TypedStep _ _ _ _ _ _ _ _ _ _ f)
