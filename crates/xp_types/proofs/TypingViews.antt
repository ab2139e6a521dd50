-- What the typing of an expression is, by the variant that stands in memory.
use Rattle.std.proofs.Common.{◌≡◌, ℕ, true, false, Ok, Err, List, length, [], ◌∷◌, suc, vec_len, refl, sym, ap, ◌∙◌}
use Rattle.std.specs.Prelude.{Box, Vec}
use Rattle.std.specs.declared.alloc.Global.{Global}
use Rattle.xp_tree.specs.declared.expr.Expr.{Expr}
use Rattle.xp_tree.specs.declared.expr.Expr.TheVariants as exprs
use Rattle.xp_tree.specs.declared.expr.Chain.{Chain}
use Rattle.xp_tree.specs.declared.expr.Start.{Start}
use Rattle.xp_tree.specs.declared.expr.Start.TheVariants as starts
use Rattle.xp_tree.specs.declared.expr.Step.{Step}
use Rattle.xp_tree.specs.declared.terms.Level.TheVariants as levels
use Rattle.xp_tree.specs.View.{tree_of, start_of, trees_seen, steps_seen}
use Rattle.xp_tree.specs.Tree.{Tree, offset_of}
use Rattle.xp_tree.proofs.ViewLemmas.{of-Or, of-And, of-Equal, of-Rel, of-Sum, of-Prod, of-Neg, of-Union, of-Path, of-Filter, of-Variable, of-Literal, of-Number, of-Call, of-Root, of-Here, of-From, of-chain}
use Rattle.xp_typed_tree.specs.TypedTree.{TypedTree, TypedTrees, typed, disjunction, conjunction, union, negation, location, selection, application, text, at_root, at_context, at_nodes}
use Rattle.xp_typed_tree.specs.WellTyped.{wants_nodes}
use Rattle.xp_types.specs.Scope.{Scope, variable_of}
use Rattle.xp_types.specs.inner.ChainParts.{first_in, rest_in}
use Rattle.xp_types.specs.inner.Checked.{Checked, after}
use Rattle.xp_types.specs.Terms.{number_of_trees}
use Rattle.xp_types.specs.inner.Typing.{typing, wanted, all_typed, operands_typed, comparison_typed, arithmetic_typed, chain_typed, steps_typed, place_typed, called, number_typed, variable_typed}

-- operands that may be anything
regrouped : (m : Checked TypedTree) (rest : Checked TypedTrees) (offset : ℕ) (build : TypedTrees → TypedTree) →
    after m (λ t. after rest (λ ts. Ok (build (typed t ts)))) ≡ after (after (after m (wanted false offset)) (λ t. after rest (λ ts. Ok (typed t ts)))) (λ ts. Ok (build ts))
unfolding after
regrouped (Ok t) (Ok ts) offset build = refl
regrouped (Ok t) (Err e) offset build = refl
regrouped (Err e) rest offset build = refl

-- operands that are node-sets
regrouped-nodes : (m : Checked TypedTree) (rest : Checked TypedTrees) (build : TypedTrees → TypedTree) →
    after m (λ t. after rest (λ ts. Ok (build (typed t ts)))) ≡ after (after m (λ t. after rest (λ ts. Ok (typed t ts)))) (λ ts. Ok (build ts))
unfolding after
regrouped-nodes (Ok t) (Ok ts) build = refl
regrouped-nodes (Ok t) (Err e) build = refl
regrouped-nodes (Err e) rest build = refl

seen-as : (S : Scope) (e f : Expr) (t : Tree) → e ≡ f → tree_of f ≡ t → typing S (tree_of e) ≡ typing S t
seen-as S e f t is seen = ap (λ x. typing S (tree_of x)) is ∙ ap (typing S) seen

module _ (S : Scope) (e : Expr) where
  pub view-Or : (c : Chain) → e ≡ exprs.Or c → typing S (tree_of e) ≡ after (chain_typed S levels.Or (first_in c) (rest_in c)) (λ ts. Ok (disjunction ts))
  view-Or c is = seen-as S e (exprs.Or c) _ is (of-Or c ∙ of-chain c levels.Or) ∙ regrouped (typing S (first_in c)) (operands_typed S levels.Or (rest_in c)) (offset_of (first_in c)) disjunction

  pub view-And : (c : Chain) → e ≡ exprs.And c → typing S (tree_of e) ≡ after (chain_typed S levels.And (first_in c) (rest_in c)) (λ ts. Ok (conjunction ts))
  view-And c is = seen-as S e (exprs.And c) _ is (of-And c ∙ of-chain c levels.And) ∙ regrouped (typing S (first_in c)) (operands_typed S levels.And (rest_in c)) (offset_of (first_in c)) conjunction

  pub view-Union : (c : Chain) → e ≡ exprs.Union c → typing S (tree_of e) ≡ after (chain_typed S levels.Union (first_in c) (rest_in c)) (λ ts. Ok (union ts))
  view-Union c is =
      seen-as S e (exprs.Union c) _ is (of-Union c ∙ of-chain c levels.Union)
      ∙ regrouped-nodes (after (typing S (first_in c)) (wanted true (offset_of (first_in c)))) (operands_typed S levels.Union (rest_in c)) union

  pub view-Equal : (c : Chain) → e ≡ exprs.Equal c → typing S (tree_of e) ≡ comparison_typed S levels.Equal (first_in c) (rest_in c)
  view-Equal c is = seen-as S e (exprs.Equal c) _ is (of-Equal c ∙ of-chain c levels.Equal)

  pub view-Rel : (c : Chain) → e ≡ exprs.Rel c → typing S (tree_of e) ≡ comparison_typed S levels.Rel (first_in c) (rest_in c)
  view-Rel c is = seen-as S e (exprs.Rel c) _ is (of-Rel c ∙ of-chain c levels.Rel)

  pub view-Sum : (c : Chain) → e ≡ exprs.Sum c → typing S (tree_of e) ≡ arithmetic_typed S levels.Sum (first_in c) (rest_in c)
  view-Sum c is = seen-as S e (exprs.Sum c) _ is (of-Sum c ∙ of-chain c levels.Sum)

  pub view-Prod : (c : Chain) → e ≡ exprs.Prod c → typing S (tree_of e) ≡ arithmetic_typed S levels.Prod (first_in c) (rest_in c)
  view-Prod c is = seen-as S e (exprs.Prod c) _ is (of-Prod c ∙ of-chain c levels.Prod)

  pub view-Neg : (offset count : ℕ) (b : Box Expr Global) (operand : Expr) → e ≡ exprs.Neg offset count b → operand ≡ b.value →
      typing S (tree_of e) ≡ after (typing S (tree_of operand)) (λ t. Ok (negation count t))
  view-Neg offset count b operand is same =
      seen-as S e (exprs.Neg offset count b) _ is (of-Neg offset count b) ∙ ap (λ x. after (typing S (tree_of x)) (λ t. Ok (negation count t))) (sym same)

  pub view-Path : (offset : ℕ) (start : Start) (v : Vec Step Global) (ss : List Step) → e ≡ exprs.Path offset start v → ss ≡ v.items →
      typing S (tree_of e) ≡ after (place_typed S (start_of start)) (λ place. after (steps_typed S (steps_seen ss)) (λ us. Ok (location place us)))
  view-Path offset start v ss is same =
      seen-as S e (exprs.Path offset start v) _ is (of-Path offset start v)
      ∙ ap (λ l. after (place_typed S (start_of start)) (λ place. after (steps_typed S (steps_seen l)) (λ us. Ok (location place us)))) (sym same)

  pub view-Path-start : (offset : ℕ) (start : Start) (v : Vec Step Global) → e ≡ exprs.Path offset start v →
      typing S (tree_of e) ≡ after (place_typed S (start_of start)) (λ place. after (steps_typed S (steps_seen v.items)) (λ us. Ok (location place us)))
  view-Path-start offset start v is = seen-as S e (exprs.Path offset start v) _ is (of-Path offset start v)

  pub view-Filter : (offset : ℕ) (b : Box Expr Global) (v : Vec Expr Global) (base : Expr) (ps : List Expr) → e ≡ exprs.Filter offset b v → base ≡ b.value → ps ≡ v.items →
      typing S (tree_of e) ≡ after (after (typing S (tree_of base)) (wanted true (offset_of (tree_of base)))) (λ t. after (all_typed S false (trees_seen ps)) (λ us. Ok (selection t us)))
  view-Filter offset b v base ps is same all =
      seen-as S e (exprs.Filter offset b v) _ is (of-Filter offset b v)
      ∙ (λ i. after (after (typing S (tree_of (sym same i))) (wanted true (offset_of (tree_of (sym same i))))) (λ t. after (all_typed S false (trees_seen (sym all i))) (λ us. Ok (selection t us))))

  pub view-Variable : (offset : ℕ) (name : List ℕ) → e ≡ exprs.Variable offset name → typing S (tree_of e) ≡ variable_typed (variable_of S.variables name) offset
  view-Variable offset name is = seen-as S e (exprs.Variable offset name) _ is (of-Variable offset name)

  pub view-Literal : (offset : ℕ) (value : List ℕ) → e ≡ exprs.Literal offset value → typing S (tree_of e) ≡ Ok (text value)
  view-Literal offset value is = seen-as S e (exprs.Literal offset value) _ is (of-Literal offset value)

  pub view-Number : (offset : ℕ) (digits : List ℕ) → e ≡ exprs.Number offset digits → typing S (tree_of e) ≡ number_typed digits offset
  view-Number offset digits is = seen-as S e (exprs.Number offset digits) _ is (of-Number offset digits)

  counted : (es : List Expr) → number_of_trees (trees_seen es) ≡ length es
  counted [] = refl
  counted (x ∷ xs) = ap suc (counted xs)

  pub view-Call : (offset : ℕ) (name : List ℕ) (v : Vec Expr Global) (count : ℕ) (es : List Expr) → e ≡ exprs.Call offset name v → count ≡ vec_len v → es ≡ v.items →
      typing S (tree_of e) ≡ after (called S name offset count) (λ f. after (all_typed S (wants_nodes f) (trees_seen es)) (λ ts. Ok (application f ts)))
  view-Call offset name v count es is len same =
      seen-as S e (exprs.Call offset name v) _ is (of-Call offset name v)
      ∙ ap (λ n. after (called S name offset n) (λ f. after (all_typed S (wants_nodes f) (trees_seen v.items)) (λ ts. Ok (application f ts)))) (counted v.items ∙ sym v.ok.0 ∙ sym len)
      ∙ ap (λ l. after (called S name offset count) (λ f. after (all_typed S (wants_nodes f) (trees_seen l)) (λ ts. Ok (application f ts)))) (sym same)

module _ (S : Scope) (s : Start) where
  pub view-Root : s ≡ starts.Root → place_typed S (start_of s) ≡ Ok at_root
  view-Root is = ap (λ x. place_typed S (start_of x)) is ∙ ap (place_typed S) of-Root

  pub view-Here : s ≡ starts.Here → place_typed S (start_of s) ≡ Ok at_context
  view-Here is = ap (λ x. place_typed S (start_of x)) is ∙ ap (place_typed S) of-Here

  pub view-From : (b : Box Expr Global) (base : Expr) → s ≡ starts.From b → base ≡ b.value →
      place_typed S (start_of s) ≡ after (after (typing S (tree_of base)) (wanted true (offset_of (tree_of base)))) (λ t. Ok (at_nodes t))
  view-From b base is same =
      ap (λ x. place_typed S (start_of x)) is ∙ ap (place_typed S) (of-From b) ∙ ap (λ x. after (after (typing S (tree_of x)) (wanted true (offset_of (tree_of x)))) (λ t. Ok (at_nodes t))) (sym same)
