-- What the loops over the parts of an expression keep: whoever types the rest has typed the whole.
use Rattle.std.proofs.Common.{◌≡◌, ℕ, ◌+◌, ◌<◌, ◌≤◌, Bool, false, Ok, Err, List, [], ◌∷◌, ◌++◌, length, drop, get_or, refl, sym, ap, ◌∙◌, subst, arith}
use Rattle.std.proofs.Math.Seq.{drop-cons}
use Rattle.std.proofs.lemmas.List.{drop_all}
use Rattle.std.proofs.Math.Numerals.{add-one}
use Rattle.xp_tree.specs.declared.expr.Expr.{Expr}
use Rattle.xp_tree.specs.declared.expr.Chain.{Chain, out-Chain}
use Rattle.xp_tree.specs.declared.expr.Operand.{Operand, out-Operand}
use Rattle.xp_tree.specs.declared.expr.Step.{Step, out-Step}
use Rattle.xp_tree.specs.declared.terms.Level.{Level}
use Rattle.xp_tree.specs.View.{tree_of, trees_seen, operands_seen, steps_seen}
use Rattle.xp_tree.specs.Tree.{Steps, offset_of, operand, step}
use Rattle.xp_tree.proofs.ViewLemmas.{of-operand, of-step}
use Rattle.xp_typed_tree.specs.declared.expr.TypedExpr.{TypedExpr}
use Rattle.xp_typed_tree.specs.declared.expr.Compared.{Compared, out-Compared}
use Rattle.xp_typed_tree.specs.declared.expr.Combined.{Combined, out-Combined}
use Rattle.xp_typed_tree.specs.declared.expr.TypedStep.{TypedStep, out-TypedStep}
use Rattle.xp_typed_tree.specs.TypedTree.{TypedTree, TypedTrees, TypedSteps, Comparands, Combinands, typed, no_typed, typed_step, no_more_steps, comparand, no_comparands, combinand, no_combinands, comparison, arithmetic}
use Rattle.xp_typed_tree.specs.TypedView.{typed_tree_of, typed_seen, compared_list_seen, compared_of, combined_list_seen, combined_of, typed_steps_seen, typed_step_of}
use Rattle.xp_tree.specs.declared.operators.Comparison.{Comparison}
use Rattle.xp_tree.specs.declared.operators.ArithOp.{ArithOp}
use Rattle.doc_tree.specs.declared.axes.Axis.{Axis}
use Rattle.doc_tree.specs.declared.axes.NodeTest.{NodeTest}
use Rattle.xp_typed_tree.proofs.TypedViewLemmas.{of-compared, of-combined, of-step as of-typed-step}
use Rattle.std.specs.Prelude.{Box, Vec}
use Rattle.std.specs.declared.alloc.Global.{Global}
use Rattle.xp_types.specs.declared.faults.CheckError.{CheckError}
use Rattle.xp_types.specs.Scope.{Scope}
use Rattle.xp_types.specs.inner.ChainParts.{first_in, rest_in}
use Rattle.xp_types.specs.inner.Checked.{Checked, after, ChecksAs}
use Rattle.xp_types.specs.Terms.{joins_nodes, comparison_of, arithmetic_of, compared_with}
use Rattle.xp_types.specs.inner.Typing.{typing, wanted, or_refused, joined_typed, axis_of, resolved, all_typed, operands_typed, comparands_typed, combinands_typed, steps_typed, chain_typed, comparison_typed, arithmetic_typed}
use Rattle.xp_types.proofs.Giving.{stops, still, gives-same, after-value}

-- the expressions done, before those that come
abbrev pub joined : TypedTrees → TypedTrees → TypedTrees
joined no_typed us = us
joined (typed t ts) us = typed t (joined ts us)

abbrev pub comparands_joined : Comparands → Comparands → Comparands
comparands_joined no_comparands ds = ds
comparands_joined (comparand o t cs) ds = comparand o t (comparands_joined cs ds)

abbrev pub combinands_joined : Combinands → Combinands → Combinands
combinands_joined no_combinands ds = ds
combinands_joined (combinand o t cs) ds = combinand o t (combinands_joined cs ds)

abbrev pub steps_joined : TypedSteps → TypedSteps → TypedSteps
steps_joined no_more_steps us = us
steps_joined (typed_step a n ps ss) us = typed_step a n ps (steps_joined ss us)

pub record ListOnto (S : Scope) (nodes : Bool) (es : List Expr) (i : ℕ) (done : List TypedExpr) : Type 0 where
  pub onto : all_typed S nodes (trees_seen es) ≡ after (all_typed S nodes (trees_seen (drop i es))) (λ ts. Ok (joined (typed_seen done) ts))

pub record ChainOnto (S : Scope) (level : Level) (c : Chain) (i : ℕ) (done : List TypedExpr) : Type 0 where
  pub onto : chain_typed S level (first_in c) (rest_in c) ≡ after (operands_typed S level (operands_seen (drop i (out-Chain c).rest.items))) (λ ts. Ok (joined (typed_seen done) ts))

pub record ComparedOnto (S : Scope) (level : Level) (c : Chain) (i : ℕ) (t : TypedExpr) (done : List Compared) : Type 0 where
  pub onto : comparison_typed S level (first_in c) (rest_in c)
      ≡ after (comparands_typed S level (operands_seen (drop i (out-Chain c).rest.items))) (λ cs. Ok (compared_with (typed_tree_of t) (comparands_joined (compared_list_seen done) cs)))

pub record CombinedOnto (S : Scope) (level : Level) (c : Chain) (i : ℕ) (t : TypedExpr) (done : List Combined) : Type 0 where
  pub onto : arithmetic_typed S level (first_in c) (rest_in c)
      ≡ after (combinands_typed S level (operands_seen (drop i (out-Chain c).rest.items))) (λ cs. Ok (arithmetic (typed_tree_of t) (combinands_joined (combined_list_seen done) cs)))

pub record StepsOnto (S : Scope) (ss : List Step) (i : ℕ) (done : List TypedStep) : Type 0 where
  pub onto : steps_typed S (steps_seen ss) ≡ after (steps_typed S (steps_seen (drop i ss))) (λ ts. Ok (steps_joined (typed_steps_seen done) ts))

-- ---- one after another

pub drop-at : {X : Type 0} (xs : List X) (i : ℕ) (x : X) → i < length xs → x ≡ get_or xs i x → drop i xs ≡ x ∷ drop (i + 1) xs
drop-at xs i x lt is = drop-cons xs i x lt ∙ (λ j. sym is j ∷ drop (sym (add-one i) j) xs)

pub drop-end : {X : Type 0} (xs : List X) (i : ℕ) → length xs ≤ i → drop i xs ≡ []
drop-end xs i ge = drop_all i xs ge

swap : {A B C : Type 0} (r : Checked A) (f : A → B) (g : B → C) (h : A → C) → ((a : A) → g (f a) ≡ h a) → after (after r (λ a. Ok (f a))) (λ b. Ok (g b)) ≡ after r (λ a. Ok (h a))
unfolding after
swap (Ok a) f g h p = ap Ok (p a)
swap (Err e) f g h p = refl

-- nothing is joined yet
pub unjoined : {A : Type 0} (r : Checked A) → r ≡ after r (λ a. Ok a)
unfolding after
unjoined (Ok a) = refl
unjoined (Err e) = refl

unwanted : (m : Checked TypedTree) (offset : ℕ) → m ≡ after m (wanted false offset)
unfolding after
unwanted (Ok t) offset = refl
unwanted (Err e) offset = refl

-- an operand that may be anything, in a box
module _ (S : Scope) (e : Expr) where
  pub plain-goes : (b : Box TypedExpr Global) → ChecksAs (after (typing S (tree_of e)) (wanted false (offset_of (tree_of e)))) (λ (b : Box TypedExpr Global). typed_tree_of b.value) (Ok b) →
      ChecksAs (typing S (tree_of e)) typed_tree_of (Ok b.value)
  plain-goes b g = record { given = unwanted (typing S (tree_of e)) (offset_of (tree_of e)) ∙ g.given }

  pub plain-stops : (x : CheckError) → ChecksAs (after (typing S (tree_of e)) (wanted false (offset_of (tree_of e)))) (λ (b : Box TypedExpr Global). typed_tree_of b.value) (Err x) →
      ChecksAs (typing S (tree_of e)) typed_tree_of (Err x)
  plain-stops x g = gives-same (unwanted (typing S (tree_of e)) (offset_of (tree_of e))) (still _ (λ (b : Box TypedExpr Global). typed_tree_of b.value) typed_tree_of x g)

-- the next part has a value: it joins those that are done
pub advance : {Z A L : Type 0} (whole : Checked Z) (x : Checked A) (rest : Checked L) (cons : A → L → L) (g h : L → Z) (a : A) → x ≡ Ok a → ((l : L) → g (cons a l) ≡ h l) →
    whole ≡ after (after x (λ v. after rest (λ l. Ok (cons v l)))) (λ l. Ok (g l)) → whole ≡ after rest (λ l. Ok (h l))
advance whole x rest cons g h a is p w =
    w ∙ ap (λ m. after m (λ l. Ok (g l))) (after-value x (λ v. after rest (λ l. Ok (cons v l))) a is) ∙ swap rest (cons a) g h p

-- ---- the lists joined

joined-push : (done : List TypedExpr) (t : TypedExpr) (ts : TypedTrees) → joined (typed_seen done) (typed (typed_tree_of t) ts) ≡ joined (typed_seen (done ++ t ∷ [])) ts
joined-push [] t ts = refl
joined-push (d ∷ ds) t ts = ap (typed (typed_tree_of d)) (joined-push ds t ts)

joined-none : (ts : TypedTrees) → joined ts no_typed ≡ ts
joined-none no_typed = refl
joined-none (typed t ts) = ap (typed t) (joined-none ts)

comparands-under : (c : Compared) (xs ys : Comparands) (x y : Comparands) → comparands_joined xs x ≡ comparands_joined ys y → comparands_joined (compared_of c xs) x ≡ comparands_joined (compared_of c ys) y
comparands-under c xs ys x y e =
    ap (λ l. comparands_joined l x) (of-compared c xs) ∙ ap (comparand (out-Compared c).operator (typed_tree_of (out-Compared c).expr)) e ∙ sym (ap (λ l. comparands_joined l y) (of-compared c ys))

combinands-under : (c : Combined) (xs ys : Combinands) (x y : Combinands) → combinands_joined xs x ≡ combinands_joined ys y → combinands_joined (combined_of c xs) x ≡ combinands_joined (combined_of c ys) y
combinands-under c xs ys x y e =
    ap (λ l. combinands_joined l x) (of-combined c xs) ∙ ap (combinand (out-Combined c).operator (typed_tree_of (out-Combined c).expr)) e ∙ sym (ap (λ l. combinands_joined l y) (of-combined c ys))

steps-under : (s : TypedStep) (xs ys : TypedSteps) (x y : TypedSteps) → steps_joined xs x ≡ steps_joined ys y → steps_joined (typed_step_of s xs) x ≡ steps_joined (typed_step_of s ys) y
steps-under s xs ys x y e =
    ap (λ l. steps_joined l x) (of-typed-step s xs) ∙ ap (typed_step (out-TypedStep s).axis (out-TypedStep s).test (typed_seen (out-TypedStep s).predicates.items)) e ∙ sym (ap (λ l. steps_joined l y) (of-typed-step s ys))

comparands-push : (done : List Compared) (o : Comparison) (t : TypedTree) (d : Compared) (cs : Comparands) → ((r : Comparands) → compared_of d r ≡ comparand o t r) →
    comparands_joined (compared_list_seen done) (comparand o t cs) ≡ comparands_joined (compared_list_seen (done ++ d ∷ [])) cs
comparands-push [] o t d cs is = sym (ap (λ l. comparands_joined l cs) (is no_comparands))
comparands-push (e ∷ es) o t d cs is = comparands-under e (compared_list_seen es) (compared_list_seen (es ++ d ∷ [])) (comparand o t cs) cs (comparands-push es o t d cs is)

combinands-push : (done : List Combined) (o : ArithOp) (t : TypedTree) (d : Combined) (cs : Combinands) → ((r : Combinands) → combined_of d r ≡ combinand o t r) →
    combinands_joined (combined_list_seen done) (combinand o t cs) ≡ combinands_joined (combined_list_seen (done ++ d ∷ [])) cs
combinands-push [] o t d cs is = sym (ap (λ l. combinands_joined l cs) (is no_combinands))
combinands-push (e ∷ es) o t d cs is = combinands-under e (combined_list_seen es) (combined_list_seen (es ++ d ∷ [])) (combinand o t cs) cs (combinands-push es o t d cs is)

steps-push : (done : List TypedStep) (a : Axis) (n : NodeTest) (ps : TypedTrees) (d : TypedStep) (ss : TypedSteps) → ((r : TypedSteps) → typed_step_of d r ≡ typed_step a n ps r) →
    steps_joined (typed_steps_seen done) (typed_step a n ps ss) ≡ steps_joined (typed_steps_seen (done ++ d ∷ [])) ss
steps-push [] a n ps d ss is = sym (ap (λ l. steps_joined l ss) (is no_more_steps))
steps-push (e ∷ es) a n ps d ss is = steps-under e (typed_steps_seen es) (typed_steps_seen (es ++ d ∷ [])) (typed_step a n ps ss) ss (steps-push es a n ps d ss is)

comparands-none : (cs : Comparands) → comparands_joined cs no_comparands ≡ cs
comparands-none no_comparands = refl
comparands-none (comparand o t cs) = ap (comparand o t) (comparands-none cs)

combinands-none : (cs : Combinands) → combinands_joined cs no_combinands ≡ cs
combinands-none no_combinands = refl
combinands-none (combinand o t cs) = ap (combinand o t) (combinands-none cs)

steps-none : (ss : TypedSteps) → steps_joined ss no_more_steps ≡ ss
steps-none no_more_steps = refl
steps-none (typed_step a n ps ss) = ap (typed_step a n ps) (steps-none ss)

-- ---- lists of expressions

pub list-begins : (S : Scope) (nodes : Bool) (es : List Expr) (done : List TypedExpr) → done ≡ [] → ListOnto S nodes es 0 done
list-begins S nodes es done none = subst (ListOnto S nodes es 0) (sym none) (record { onto = unjoined (all_typed S nodes (trees_seen es)) })

list-next : (S : Scope) (nodes : Bool) (es : List Expr) (i : ℕ) (done : List TypedExpr) (e : Expr) → i < length es → e ≡ get_or es i e → ListOnto S nodes es i done →
    all_typed S nodes (trees_seen es) ≡ after (all_typed S nodes (trees_seen (e ∷ drop (i + 1) es))) (λ ts. Ok (joined (typed_seen done) ts))
list-next S nodes es i done e lt is so = so.onto ∙ ap (λ r. after (all_typed S nodes (trees_seen r)) (λ ts. Ok (joined (typed_seen done) ts))) (drop-at es i e lt is)

pub list-goes : (S : Scope) (nodes : Bool) (es : List Expr) (i : ℕ) (done all : List TypedExpr) (e : Expr) (t : TypedExpr) → i < length es → e ≡ get_or es i e → ListOnto S nodes es i done →
    ChecksAs (after (typing S (tree_of e)) (wanted nodes (offset_of (tree_of e)))) typed_tree_of (Ok t) → all ≡ done ++ t ∷ [] → ListOnto S nodes es (i + 1) all
list-goes S nodes es i done all e t lt is so g grown = subst (ListOnto S nodes es (i + 1)) (sym grown) (record {
  onto = advance (all_typed S nodes (trees_seen es)) (after (typing S (tree_of e)) (wanted nodes (offset_of (tree_of e)))) (all_typed S nodes (trees_seen (drop (i + 1) es))) typed
      (λ ts. joined (typed_seen done) ts) (λ ts. joined (typed_seen (done ++ t ∷ [])) ts) (typed_tree_of t) g.given (joined-push done t) (list-next S nodes es i done e lt is so);
})

pub list-stops : (S : Scope) (nodes : Bool) (es : List Expr) (i : ℕ) (done : List TypedExpr) (e : Expr) (x : CheckError) → i < length es → e ≡ get_or es i e → ListOnto S nodes es i done →
    ChecksAs (after (typing S (tree_of e)) (wanted nodes (offset_of (tree_of e)))) typed_tree_of (Err x) → ChecksAs (all_typed S nodes (trees_seen es)) (λ (v : Vec TypedExpr Global). typed_seen v.items) (Err x)
list-stops S nodes es i done e x lt is so g =
    gives-same (list-next S nodes es i done e lt is so) (stops _ _ (λ (u : TypedTrees). u) _ x (stops _ _ typed_tree_of (λ (u : TypedTrees). u) x g))

pub list-ends : (S : Scope) (nodes : Bool) (es : List Expr) (i : ℕ) (v : Vec TypedExpr Global) → length es ≤ i → ListOnto S nodes es i v.items →
    ChecksAs (all_typed S nodes (trees_seen es)) (λ (w : Vec TypedExpr Global). typed_seen w.items) (Ok v)
list-ends S nodes es i v ge so = record {
  given = so.onto ∙ ap (λ r. after (all_typed S nodes (trees_seen r)) (λ ts. Ok (joined (typed_seen v.items) ts))) (drop-end es i ge)
      ∙ after-value (Ok no_typed) (λ ts. Ok (joined (typed_seen v.items) ts)) no_typed refl ∙ ap Ok (joined-none (typed_seen v.items));
}

-- ---- the operands of a chain

pub chain-begins : (S : Scope) (level : Level) (c : Chain) (first : Expr) (t : TypedExpr) (empty all : List TypedExpr) → first ≡ (out-Chain c).first.value →
    ChecksAs (after (typing S (tree_of first)) (wanted (joins_nodes level) (offset_of (tree_of first)))) typed_tree_of (Ok t) → empty ≡ [] → all ≡ empty ++ t ∷ [] → ChainOnto S level c 0 all
chain-begins S level c first t empty all is g none grown =
    subst (ChainOnto S level c 0) (sym (grown ∙ ap (λ l. l ++ t ∷ []) none)) (record {
      onto = ap (λ e. chain_typed S level (tree_of e) (rest_in c)) (sym is)
          ∙ after-value (after (typing S (tree_of first)) (wanted (joins_nodes level) (offset_of (tree_of first)))) (λ v. after (operands_typed S level (rest_in c)) (λ ts. Ok (typed v ts))) (typed_tree_of t) g.given;
    })

pub chain-fails : (S : Scope) (level : Level) (c : Chain) (first : Expr) (x : CheckError) → first ≡ (out-Chain c).first.value →
    ChecksAs (after (typing S (tree_of first)) (wanted (joins_nodes level) (offset_of (tree_of first)))) typed_tree_of (Err x) →
    ChecksAs (chain_typed S level (first_in c) (rest_in c)) (λ (v : Vec TypedExpr Global). typed_seen v.items) (Err x)
chain-fails S level c first x is g =
    gives-same (ap (λ e. chain_typed S level (tree_of e) (rest_in c)) (sym is)) (stops _ _ typed_tree_of _ x g)

-- the rest with the next operand in front
operand-next : (os : List Operand) (i : ℕ) (o : Operand) → i < length os → o ≡ get_or os i o →
    operands_seen (drop i os) ≡ operand (out-Operand o).operator (out-Operand o).offset (tree_of (out-Operand o).expr) (operands_seen (drop (i + 1) os))
operand-next os i o lt is = ap operands_seen (drop-at os i o lt is) ∙ of-operand o (operands_seen (drop (i + 1) os))

chain-next : (S : Scope) (level : Level) (c : Chain) (i : ℕ) (done : List TypedExpr) (o : Operand) → i < length (out-Chain c).rest.items → o ≡ get_or (out-Chain c).rest.items i o → ChainOnto S level c i done →
    chain_typed S level (first_in c) (rest_in c)
    ≡ after (operands_typed S level (operand (out-Operand o).operator (out-Operand o).offset (tree_of (out-Operand o).expr) (operands_seen (drop (i + 1) (out-Chain c).rest.items)))) (λ ts. Ok (joined (typed_seen done) ts))
chain-next S level c i done o lt is so =
    so.onto ∙ ap (λ r. after (operands_typed S level r) (λ ts. Ok (joined (typed_seen done) ts))) (operand-next (out-Chain c).rest.items i o lt is)

pub chain-goes : (S : Scope) (level : Level) (c : Chain) (i : ℕ) (done all : List TypedExpr) (o : Operand) (t : TypedExpr) → i < length (out-Chain c).rest.items → o ≡ get_or (out-Chain c).rest.items i o → ChainOnto S level c i done →
    ChecksAs (joined_typed S level (out-Operand o).operator (out-Operand o).offset (tree_of (out-Operand o).expr)) typed_tree_of (Ok t) → all ≡ done ++ t ∷ [] → ChainOnto S level c (i + 1) all
chain-goes S level c i done all o t lt is so g grown = subst (ChainOnto S level c (i + 1)) (sym grown) (record {
  onto = advance (chain_typed S level (first_in c) (rest_in c)) (joined_typed S level (out-Operand o).operator (out-Operand o).offset (tree_of (out-Operand o).expr)) (operands_typed S level (operands_seen (drop (i + 1) (out-Chain c).rest.items))) typed
      (λ ts. joined (typed_seen done) ts) (λ ts. joined (typed_seen (done ++ t ∷ [])) ts) (typed_tree_of t) g.given (joined-push done t) (chain-next S level c i done o lt is so);
})

pub chain-stops : (S : Scope) (level : Level) (c : Chain) (i : ℕ) (done : List TypedExpr) (o : Operand) (x : CheckError) → i < length (out-Chain c).rest.items → o ≡ get_or (out-Chain c).rest.items i o → ChainOnto S level c i done →
    ChecksAs (joined_typed S level (out-Operand o).operator (out-Operand o).offset (tree_of (out-Operand o).expr)) typed_tree_of (Err x) →
    ChecksAs (chain_typed S level (first_in c) (rest_in c)) (λ (v : Vec TypedExpr Global). typed_seen v.items) (Err x)
chain-stops S level c i done o x lt is so g =
    gives-same (chain-next S level c i done o lt is so) (stops _ _ (λ (u : TypedTrees). u) _ x (stops _ _ typed_tree_of (λ (u : TypedTrees). u) x g))

pub chain-ends : (S : Scope) (level : Level) (c : Chain) (i : ℕ) (v : Vec TypedExpr Global) → length (out-Chain c).rest.items ≤ i → ChainOnto S level c i v.items →
    ChecksAs (chain_typed S level (first_in c) (rest_in c)) (λ (w : Vec TypedExpr Global). typed_seen w.items) (Ok v)
chain-ends S level c i v ge so = record {
  given = so.onto ∙ ap (λ r. after (operands_typed S level (operands_seen r)) (λ ts. Ok (joined (typed_seen v.items) ts))) (drop-end (out-Chain c).rest.items i ge)
      ∙ after-value (Ok no_typed) (λ ts. Ok (joined (typed_seen v.items) ts)) no_typed refl ∙ ap Ok (joined-none (typed_seen v.items));
}

-- ---- comparisons

pub comparison-begins : (S : Scope) (level : Level) (c : Chain) (first : Expr) (t b : TypedExpr) (done : List Compared) → first ≡ (out-Chain c).first.value →
    ChecksAs (typing S (tree_of first)) typed_tree_of (Ok t) → b ≡ t → done ≡ [] → ComparedOnto S level c 0 b done
comparison-begins S level c first t b done is g boxed none =
    subst (ComparedOnto S level c 0 b) (sym none) (subst (λ u. ComparedOnto S level c 0 u []) (sym boxed) (record {
      onto = ap (λ e. comparison_typed S level (tree_of e) (rest_in c)) (sym is)
          ∙ after-value (typing S (tree_of first)) (λ v. after (comparands_typed S level (rest_in c)) (λ cs. Ok (compared_with v cs))) (typed_tree_of t) g.given;
    }))

pub comparison-fails : (S : Scope) (level : Level) (c : Chain) (first : Expr) (x : CheckError) → first ≡ (out-Chain c).first.value →
    ChecksAs (typing S (tree_of first)) typed_tree_of (Err x) → ChecksAs (comparison_typed S level (first_in c) (rest_in c)) typed_tree_of (Err x)
comparison-fails S level c first x is g = gives-same (ap (λ e. comparison_typed S level (tree_of e) (rest_in c)) (sym is)) (stops _ _ typed_tree_of _ x g)

comparison-next : (S : Scope) (level : Level) (c : Chain) (i : ℕ) (b : TypedExpr) (done : List Compared) (o : Operand) → i < length (out-Chain c).rest.items → o ≡ get_or (out-Chain c).rest.items i o → ComparedOnto S level c i b done →
    comparison_typed S level (first_in c) (rest_in c)
    ≡ after (comparands_typed S level (operand (out-Operand o).operator (out-Operand o).offset (tree_of (out-Operand o).expr) (operands_seen (drop (i + 1) (out-Chain c).rest.items))))
    (λ cs. Ok (compared_with (typed_tree_of b) (comparands_joined (compared_list_seen done) cs)))
comparison-next S level c i b done o lt is so =
    so.onto ∙ ap (λ r. after (comparands_typed S level r) (λ cs. Ok (compared_with (typed_tree_of b) (comparands_joined (compared_list_seen done) cs)))) (operand-next (out-Chain c).rest.items i o lt is)

-- the operator is known
comparison-known : (S : Scope) (level : Level) (c : Chain) (i : ℕ) (b : TypedExpr) (done : List Compared) (o : Operand) (k : Comparison) → i < length (out-Chain c).rest.items → o ≡ get_or (out-Chain c).rest.items i o → ComparedOnto S level c i b done →
    ChecksAs (or_refused (comparison_of level (out-Operand o).operator) (out-Operand o).operator (out-Operand o).offset) (λ (a : Comparison). a) (Ok k) →
    comparison_typed S level (first_in c) (rest_in c)
    ≡ after (after (typing S (tree_of (out-Operand o).expr)) (λ t. after (comparands_typed S level (operands_seen (drop (i + 1) (out-Chain c).rest.items))) (λ cs. Ok (comparand k t cs))))
    (λ cs. Ok (compared_with (typed_tree_of b) (comparands_joined (compared_list_seen done) cs)))
comparison-known S level c i b done o k lt is so h =
    comparison-next S level c i b done o lt is so
    ∙ ap (λ m. after m (λ cs. Ok (compared_with (typed_tree_of b) (comparands_joined (compared_list_seen done) cs))))
    (after-value (or_refused (comparison_of level (out-Operand o).operator) (out-Operand o).operator (out-Operand o).offset) (λ a. after (typing S (tree_of (out-Operand o).expr)) (λ t. after (comparands_typed S level (operands_seen (drop (i + 1) (out-Chain c).rest.items))) (λ cs. Ok (comparand a t cs)))) k h.given)

pub comparison-goes : (S : Scope) (level : Level) (c : Chain) (i : ℕ) (b : TypedExpr) (done all : List Compared) (o : Operand) (k : Comparison) (t : TypedExpr) (d : Compared) → i < length (out-Chain c).rest.items → o ≡ get_or (out-Chain c).rest.items i o → ComparedOnto S level c i b done →
    ChecksAs (or_refused (comparison_of level (out-Operand o).operator) (out-Operand o).operator (out-Operand o).offset) (λ (a : Comparison). a) (Ok k) → ChecksAs (typing S (tree_of (out-Operand o).expr)) typed_tree_of (Ok t) → ((r : Comparands) → compared_of d r ≡ comparand k (typed_tree_of t) r) → all ≡ done ++ d ∷ [] →
    ComparedOnto S level c (i + 1) b all
comparison-goes S level c i b done all o k t d lt is so h g made grown = subst (ComparedOnto S level c (i + 1) b) (sym grown) (record {
  onto = advance (comparison_typed S level (first_in c) (rest_in c)) (typing S (tree_of (out-Operand o).expr)) (comparands_typed S level (operands_seen (drop (i + 1) (out-Chain c).rest.items))) (comparand k)
      (λ cs. compared_with (typed_tree_of b) (comparands_joined (compared_list_seen done) cs)) (λ cs. compared_with (typed_tree_of b) (comparands_joined (compared_list_seen (done ++ d ∷ [])) cs)) (typed_tree_of t) g.given
      (λ cs. ap (compared_with (typed_tree_of b)) (comparands-push done k (typed_tree_of t) d cs made)) (comparison-known S level c i b done o k lt is so h);
})

pub comparison-refuses : (S : Scope) (level : Level) (c : Chain) (i : ℕ) (b : TypedExpr) (done : List Compared) (o : Operand) (x : CheckError) → i < length (out-Chain c).rest.items → o ≡ get_or (out-Chain c).rest.items i o → ComparedOnto S level c i b done →
    ChecksAs (or_refused (comparison_of level (out-Operand o).operator) (out-Operand o).operator (out-Operand o).offset) (λ (a : Comparison). a) (Err x) → ChecksAs (comparison_typed S level (first_in c) (rest_in c)) typed_tree_of (Err x)
comparison-refuses S level c i b done o x lt is so h = gives-same (comparison-next S level c i b done o lt is so) (stops _ _ (λ (u : Comparands). u) typed_tree_of x (stops _ _ (λ (a : Comparison). a) (λ (u : Comparands). u) x h))

pub comparison-stops : (S : Scope) (level : Level) (c : Chain) (i : ℕ) (b : TypedExpr) (done : List Compared) (o : Operand) (k : Comparison) (x : CheckError) → i < length (out-Chain c).rest.items → o ≡ get_or (out-Chain c).rest.items i o → ComparedOnto S level c i b done →
    ChecksAs (or_refused (comparison_of level (out-Operand o).operator) (out-Operand o).operator (out-Operand o).offset) (λ (a : Comparison). a) (Ok k) → ChecksAs (typing S (tree_of (out-Operand o).expr)) typed_tree_of (Err x) → ChecksAs (comparison_typed S level (first_in c) (rest_in c)) typed_tree_of (Err x)
comparison-stops S level c i b done o k x lt is so h g =
    gives-same (comparison-known S level c i b done o k lt is so h) (stops _ _ (λ (u : Comparands). u) typed_tree_of x (stops _ _ typed_tree_of (λ (u : Comparands). u) x g))

pub comparison-ends : (S : Scope) (level : Level) (c : Chain) (i : ℕ) (b : TypedExpr) (done : List Compared) → length (out-Chain c).rest.items ≤ i → ComparedOnto S level c i b done →
    comparison_typed S level (first_in c) (rest_in c) ≡ Ok (compared_with (typed_tree_of b) (compared_list_seen done))
comparison-ends S level c i b done ge so =
    so.onto ∙ ap (λ r. after (comparands_typed S level (operands_seen r)) (λ cs. Ok (compared_with (typed_tree_of b) (comparands_joined (compared_list_seen done) cs)))) (drop-end (out-Chain c).rest.items i ge)
    ∙ after-value (Ok no_comparands) (λ cs. Ok (compared_with (typed_tree_of b) (comparands_joined (compared_list_seen done) cs))) no_comparands refl
    ∙ ap Ok (ap (compared_with (typed_tree_of b)) (comparands-none (compared_list_seen done)))

-- an operand alone, and one with others after it
pub compared-alone : (t : TypedTree) (cs : List Compared) → length cs ≡ 0 → compared_with t (compared_list_seen cs) ≡ t
compared-alone t [] none = refl
compared-alone t (c ∷ cs) none = absurd (omega (arith, none))

pub compared-on : (t : TypedTree) (cs : List Compared) → 0 < length cs → compared_with t (compared_list_seen cs) ≡ comparison t (compared_list_seen cs)
compared-on t [] some = absurd (omega (arith, some))
compared-on t (c ∷ cs) some =
    ap (compared_with t) (of-compared c (compared_list_seen cs)) ∙ sym (ap (comparison t) (of-compared c (compared_list_seen cs)))

-- ---- operators on numbers

pub arithmetic-begins : (S : Scope) (level : Level) (c : Chain) (first : Expr) (t b : TypedExpr) (done : List Combined) → first ≡ (out-Chain c).first.value →
    ChecksAs (typing S (tree_of first)) typed_tree_of (Ok t) → b ≡ t → done ≡ [] → CombinedOnto S level c 0 b done
arithmetic-begins S level c first t b done is g boxed none =
    subst (CombinedOnto S level c 0 b) (sym none) (subst (λ u. CombinedOnto S level c 0 u []) (sym boxed) (record {
      onto = ap (λ e. arithmetic_typed S level (tree_of e) (rest_in c)) (sym is)
          ∙ after-value (typing S (tree_of first)) (λ v. after (combinands_typed S level (rest_in c)) (λ cs. Ok (arithmetic v cs))) (typed_tree_of t) g.given;
    }))

pub arithmetic-fails : (S : Scope) (level : Level) (c : Chain) (first : Expr) (x : CheckError) → first ≡ (out-Chain c).first.value →
    ChecksAs (typing S (tree_of first)) typed_tree_of (Err x) → ChecksAs (arithmetic_typed S level (first_in c) (rest_in c)) typed_tree_of (Err x)
arithmetic-fails S level c first x is g = gives-same (ap (λ e. arithmetic_typed S level (tree_of e) (rest_in c)) (sym is)) (stops _ _ typed_tree_of _ x g)

arithmetic-next : (S : Scope) (level : Level) (c : Chain) (i : ℕ) (b : TypedExpr) (done : List Combined) (o : Operand) → i < length (out-Chain c).rest.items → o ≡ get_or (out-Chain c).rest.items i o → CombinedOnto S level c i b done →
    arithmetic_typed S level (first_in c) (rest_in c)
    ≡ after (combinands_typed S level (operand (out-Operand o).operator (out-Operand o).offset (tree_of (out-Operand o).expr) (operands_seen (drop (i + 1) (out-Chain c).rest.items))))
    (λ cs. Ok (arithmetic (typed_tree_of b) (combinands_joined (combined_list_seen done) cs)))
arithmetic-next S level c i b done o lt is so =
    so.onto ∙ ap (λ r. after (combinands_typed S level r) (λ cs. Ok (arithmetic (typed_tree_of b) (combinands_joined (combined_list_seen done) cs)))) (operand-next (out-Chain c).rest.items i o lt is)

-- the operator is known
arithmetic-known : (S : Scope) (level : Level) (c : Chain) (i : ℕ) (b : TypedExpr) (done : List Combined) (o : Operand) (k : ArithOp) → i < length (out-Chain c).rest.items → o ≡ get_or (out-Chain c).rest.items i o → CombinedOnto S level c i b done →
    ChecksAs (or_refused (arithmetic_of level (out-Operand o).operator) (out-Operand o).operator (out-Operand o).offset) (λ (a : ArithOp). a) (Ok k) →
    arithmetic_typed S level (first_in c) (rest_in c)
    ≡ after (after (typing S (tree_of (out-Operand o).expr)) (λ t. after (combinands_typed S level (operands_seen (drop (i + 1) (out-Chain c).rest.items))) (λ cs. Ok (combinand k t cs))))
    (λ cs. Ok (arithmetic (typed_tree_of b) (combinands_joined (combined_list_seen done) cs)))
arithmetic-known S level c i b done o k lt is so h =
    arithmetic-next S level c i b done o lt is so
    ∙ ap (λ m. after m (λ cs. Ok (arithmetic (typed_tree_of b) (combinands_joined (combined_list_seen done) cs))))
    (after-value (or_refused (arithmetic_of level (out-Operand o).operator) (out-Operand o).operator (out-Operand o).offset) (λ a. after (typing S (tree_of (out-Operand o).expr)) (λ t. after (combinands_typed S level (operands_seen (drop (i + 1) (out-Chain c).rest.items))) (λ cs. Ok (combinand a t cs)))) k h.given)

pub arithmetic-goes : (S : Scope) (level : Level) (c : Chain) (i : ℕ) (b : TypedExpr) (done all : List Combined) (o : Operand) (k : ArithOp) (t : TypedExpr) (d : Combined) → i < length (out-Chain c).rest.items → o ≡ get_or (out-Chain c).rest.items i o → CombinedOnto S level c i b done →
    ChecksAs (or_refused (arithmetic_of level (out-Operand o).operator) (out-Operand o).operator (out-Operand o).offset) (λ (a : ArithOp). a) (Ok k) → ChecksAs (typing S (tree_of (out-Operand o).expr)) typed_tree_of (Ok t) → ((r : Combinands) → combined_of d r ≡ combinand k (typed_tree_of t) r) → all ≡ done ++ d ∷ [] →
    CombinedOnto S level c (i + 1) b all
arithmetic-goes S level c i b done all o k t d lt is so h g made grown = subst (CombinedOnto S level c (i + 1) b) (sym grown) (record {
  onto = advance (arithmetic_typed S level (first_in c) (rest_in c)) (typing S (tree_of (out-Operand o).expr)) (combinands_typed S level (operands_seen (drop (i + 1) (out-Chain c).rest.items))) (combinand k)
      (λ cs. arithmetic (typed_tree_of b) (combinands_joined (combined_list_seen done) cs)) (λ cs. arithmetic (typed_tree_of b) (combinands_joined (combined_list_seen (done ++ d ∷ [])) cs)) (typed_tree_of t) g.given
      (λ cs. ap (arithmetic (typed_tree_of b)) (combinands-push done k (typed_tree_of t) d cs made)) (arithmetic-known S level c i b done o k lt is so h);
})

pub arithmetic-refuses : (S : Scope) (level : Level) (c : Chain) (i : ℕ) (b : TypedExpr) (done : List Combined) (o : Operand) (x : CheckError) → i < length (out-Chain c).rest.items → o ≡ get_or (out-Chain c).rest.items i o → CombinedOnto S level c i b done →
    ChecksAs (or_refused (arithmetic_of level (out-Operand o).operator) (out-Operand o).operator (out-Operand o).offset) (λ (a : ArithOp). a) (Err x) → ChecksAs (arithmetic_typed S level (first_in c) (rest_in c)) typed_tree_of (Err x)
arithmetic-refuses S level c i b done o x lt is so h = gives-same (arithmetic-next S level c i b done o lt is so) (stops _ _ (λ (u : Combinands). u) typed_tree_of x (stops _ _ (λ (a : ArithOp). a) (λ (u : Combinands). u) x h))

pub arithmetic-stops : (S : Scope) (level : Level) (c : Chain) (i : ℕ) (b : TypedExpr) (done : List Combined) (o : Operand) (k : ArithOp) (x : CheckError) → i < length (out-Chain c).rest.items → o ≡ get_or (out-Chain c).rest.items i o → CombinedOnto S level c i b done →
    ChecksAs (or_refused (arithmetic_of level (out-Operand o).operator) (out-Operand o).operator (out-Operand o).offset) (λ (a : ArithOp). a) (Ok k) → ChecksAs (typing S (tree_of (out-Operand o).expr)) typed_tree_of (Err x) → ChecksAs (arithmetic_typed S level (first_in c) (rest_in c)) typed_tree_of (Err x)
arithmetic-stops S level c i b done o k x lt is so h g =
    gives-same (arithmetic-known S level c i b done o k lt is so h) (stops _ _ (λ (u : Combinands). u) typed_tree_of x (stops _ _ typed_tree_of (λ (u : Combinands). u) x g))

pub arithmetic-ends : (S : Scope) (level : Level) (c : Chain) (i : ℕ) (b : TypedExpr) (done : List Combined) (e : TypedExpr) → length (out-Chain c).rest.items ≤ i → CombinedOnto S level c i b done →
    typed_tree_of e ≡ arithmetic (typed_tree_of b) (combined_list_seen done) → ChecksAs (arithmetic_typed S level (first_in c) (rest_in c)) typed_tree_of (Ok e)
arithmetic-ends S level c i b done e ge so made = record {
  given = so.onto ∙ ap (λ r. after (combinands_typed S level (operands_seen r)) (λ cs. Ok (arithmetic (typed_tree_of b) (combinands_joined (combined_list_seen done) cs)))) (drop-end (out-Chain c).rest.items i ge)
      ∙ after-value (Ok no_combinands) (λ cs. Ok (arithmetic (typed_tree_of b) (combinands_joined (combined_list_seen done) cs))) no_combinands refl
      ∙ ap Ok (ap (arithmetic (typed_tree_of b)) (combinands-none (combined_list_seen done)) ∙ sym made);
}

-- ---- steps

pub steps-begin : (S : Scope) (ss : List Step) (done : List TypedStep) → done ≡ [] → StepsOnto S ss 0 done
steps-begin S ss done none = subst (StepsOnto S ss 0) (sym none) (record { onto = unjoined (steps_typed S (steps_seen ss)) })

steps-next : (S : Scope) (ss : List Step) (i : ℕ) (done : List TypedStep) (s : Step) → i < length ss → s ≡ get_or ss i s → StepsOnto S ss i done →
    steps_typed S (steps_seen ss)
    ≡ after (steps_typed S (step (out-Step s).offset (out-Step s).axis (out-Step s).test (out-Step s).test_offset (trees_seen (out-Step s).predicates.items) (steps_seen (drop (i + 1) ss)))) (λ ts. Ok (steps_joined (typed_steps_seen done) ts))
steps-next S ss i done s lt is so =
    so.onto ∙ ap (λ r. after (steps_typed S r) (λ ts. Ok (steps_joined (typed_steps_seen done) ts))) (ap steps_seen (drop-at ss i s lt is) ∙ of-step s (steps_seen (drop (i + 1) ss)))

-- what is left of a step once its axis is known, and its node test
abbrev test_left : Scope → Step → Steps → Axis → Checked TypedSteps
test_left S s rest a = after (resolved S (out-Step s).test (out-Step s).test_offset) (λ n. after (all_typed S false (trees_seen (out-Step s).predicates.items)) (λ ps. after (steps_typed S rest) (λ ts. Ok (typed_step a n ps ts))))

abbrev predicates_left : Scope → Step → Steps → Axis → NodeTest → Checked TypedSteps
predicates_left S s rest a n = after (all_typed S false (trees_seen (out-Step s).predicates.items)) (λ ps. after (steps_typed S rest) (λ ts. Ok (typed_step a n ps ts)))

steps-axis : (S : Scope) (ss : List Step) (i : ℕ) (done : List TypedStep) (s : Step) (a : Axis) → i < length ss → s ≡ get_or ss i s → StepsOnto S ss i done → ChecksAs (axis_of (out-Step s).axis (out-Step s).offset) (λ (x : Axis). x) (Ok a) →
    steps_typed S (steps_seen ss) ≡ after (test_left S s (steps_seen (drop (i + 1) ss)) a) (λ ts. Ok (steps_joined (typed_steps_seen done) ts))
steps-axis S ss i done s a lt is so h =
    steps-next S ss i done s lt is so ∙ ap (λ m. after m (λ ts. Ok (steps_joined (typed_steps_seen done) ts))) (after-value (axis_of (out-Step s).axis (out-Step s).offset) (test_left S s (steps_seen (drop (i + 1) ss))) a h.given)

steps-test : (S : Scope) (ss : List Step) (i : ℕ) (done : List TypedStep) (s : Step) (a : Axis) (n : NodeTest) → i < length ss → s ≡ get_or ss i s → StepsOnto S ss i done → ChecksAs (axis_of (out-Step s).axis (out-Step s).offset) (λ (x : Axis). x) (Ok a) →
    ChecksAs (resolved S (out-Step s).test (out-Step s).test_offset) (λ (x : NodeTest). x) (Ok n) →
    steps_typed S (steps_seen ss) ≡ after (predicates_left S s (steps_seen (drop (i + 1) ss)) a n) (λ ts. Ok (steps_joined (typed_steps_seen done) ts))
steps-test S ss i done s a n lt is so h g =
    steps-axis S ss i done s a lt is so h
    ∙ ap (λ m. after m (λ ts. Ok (steps_joined (typed_steps_seen done) ts))) (after-value (resolved S (out-Step s).test (out-Step s).test_offset) (predicates_left S s (steps_seen (drop (i + 1) ss)) a) n g.given)

pub steps-go : (S : Scope) (ss : List Step) (i : ℕ) (done all : List TypedStep) (s : Step) (a : Axis) (n : NodeTest) (ps : Vec TypedExpr Global) (d : TypedStep) → i < length ss → s ≡ get_or ss i s → StepsOnto S ss i done →
    ChecksAs (axis_of (out-Step s).axis (out-Step s).offset) (λ (x : Axis). x) (Ok a) → ChecksAs (resolved S (out-Step s).test (out-Step s).test_offset) (λ (x : NodeTest). x) (Ok n) →
    ChecksAs (all_typed S false (trees_seen (out-Step s).predicates.items)) (λ (v : Vec TypedExpr Global). typed_seen v.items) (Ok ps) → ((r : TypedSteps) → typed_step_of d r ≡ typed_step a n (typed_seen ps.items) r) → all ≡ done ++ d ∷ [] → StepsOnto S ss (i + 1) all
steps-go S ss i done all s a n ps d lt is so h g k made grown = subst (StepsOnto S ss (i + 1)) (sym grown) (record {
  onto = advance (steps_typed S (steps_seen ss)) (all_typed S false (trees_seen (out-Step s).predicates.items)) (steps_typed S (steps_seen (drop (i + 1) ss))) (typed_step a n)
      (λ ts. steps_joined (typed_steps_seen done) ts) (λ ts. steps_joined (typed_steps_seen (done ++ d ∷ [])) ts) (typed_seen ps.items) k.given (λ ts. steps-push done a n (typed_seen ps.items) d ts made) (steps-test S ss i done s a n lt is so h g);
})

pub steps-refuse : (S : Scope) (ss : List Step) (i : ℕ) (done : List TypedStep) (s : Step) (x : CheckError) → i < length ss → s ≡ get_or ss i s → StepsOnto S ss i done → ChecksAs (axis_of (out-Step s).axis (out-Step s).offset) (λ (a : Axis). a) (Err x) →
    ChecksAs (steps_typed S (steps_seen ss)) (λ (v : Vec TypedStep Global). typed_steps_seen v.items) (Err x)
steps-refuse S ss i done s x lt is so h = gives-same (steps-next S ss i done s lt is so) (stops _ _ (λ (u : TypedSteps). u) _ x (stops _ _ (λ (a : Axis). a) (λ (u : TypedSteps). u) x h))

pub steps-unresolved : (S : Scope) (ss : List Step) (i : ℕ) (done : List TypedStep) (s : Step) (a : Axis) (x : CheckError) → i < length ss → s ≡ get_or ss i s → StepsOnto S ss i done → ChecksAs (axis_of (out-Step s).axis (out-Step s).offset) (λ (a : Axis). a) (Ok a) →
    ChecksAs (resolved S (out-Step s).test (out-Step s).test_offset) (λ (n : NodeTest). n) (Err x) → ChecksAs (steps_typed S (steps_seen ss)) (λ (v : Vec TypedStep Global). typed_steps_seen v.items) (Err x)
steps-unresolved S ss i done s a x lt is so h g = gives-same (steps-axis S ss i done s a lt is so h) (stops _ _ (λ (u : TypedSteps). u) _ x (stops _ _ (λ (n : NodeTest). n) (λ (u : TypedSteps). u) x g))

pub steps-stop : (S : Scope) (ss : List Step) (i : ℕ) (done : List TypedStep) (s : Step) (a : Axis) (n : NodeTest) (x : CheckError) → i < length ss → s ≡ get_or ss i s → StepsOnto S ss i done → ChecksAs (axis_of (out-Step s).axis (out-Step s).offset) (λ (a : Axis). a) (Ok a) →
    ChecksAs (resolved S (out-Step s).test (out-Step s).test_offset) (λ (n : NodeTest). n) (Ok n) → ChecksAs (all_typed S false (trees_seen (out-Step s).predicates.items)) (λ (v : Vec TypedExpr Global). typed_seen v.items) (Err x) →
    ChecksAs (steps_typed S (steps_seen ss)) (λ (v : Vec TypedStep Global). typed_steps_seen v.items) (Err x)
steps-stop S ss i done s a n x lt is so h g k =
    gives-same (steps-test S ss i done s a n lt is so h g) (stops _ _ (λ (u : TypedSteps). u) _ x (stops _ _ (λ (v : Vec TypedExpr Global). typed_seen v.items) (λ (u : TypedSteps). u) x k))

pub steps-end : (S : Scope) (ss : List Step) (i : ℕ) (v : Vec TypedStep Global) → length ss ≤ i → StepsOnto S ss i v.items → ChecksAs (steps_typed S (steps_seen ss)) (λ (w : Vec TypedStep Global). typed_steps_seen w.items) (Ok v)
steps-end S ss i v ge so = record {
  given = so.onto ∙ ap (λ r. after (steps_typed S (steps_seen r)) (λ ts. Ok (steps_joined (typed_steps_seen v.items) ts))) (drop-end ss i ge)
      ∙ after-value (Ok no_more_steps) (λ ts. Ok (steps_joined (typed_steps_seen v.items) ts)) no_more_steps refl ∙ ap Ok (steps-none (typed_steps_seen v.items));
}
