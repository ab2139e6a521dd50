-- Texts are added at the end, part by part.
use Rattle.std.proofs.Common.{◌≡◌, ℕ, suc, ◌+◌, ◌<◌, ◌≤◌, Bool, true, false, Result, List, [], ◌∷◌, ◌++◌, length, drop, get_or, not, cond, nat_le, ◌==◌, refl, sym, ap, ◌∙◌, append_assoc, arith}
use Rattle.std.proofs.lemmas.Bool.Decides.{nat_tests}
use Rattle.std.proofs.Math.Seq.{drop-cons}
use Rattle.std.proofs.Math.Numerals.{add-one}
use Rattle.std.proofs.lemmas.List.{drop_all}
use Rattle.std.proofs.lemmas.Result.{on_ok_weaker}
use Rattle.std.specs.Result.{OnOk}
use Rattle.xp_tree.specs.declared.expr.Expr.{Expr}
use Rattle.xp_tree.specs.declared.expr.Operand.{Operand, out-Operand}
use Rattle.xp_tree.specs.declared.expr.Step.{Step, out-Step}
use Rattle.xp_tree.specs.View.{tree_of, trees_seen, operands_seen, steps_seen}
use Rattle.xp_tree.specs.Tree.{Tree, Steps, operand, root, here, from}
use Rattle.xp_tree.proofs.ViewLemmas.{of-operand, of-step}
use Rattle.xp_print.specs.Adding.{Added}
use Rattle.xp_print.specs.Printed.{is_bare_path, binding_of, operator_text, is_name_like, name_like_next, test_text, bracketed, enclosed, unless, operand_text, printed, printed_rest, printed_steps, printed_predicates, printed_args}
use Rattle.xp_tree.specs.AxisNames.{axis_text}

append-none : (xs : List ℕ) → xs ++ [] ≡ xs
append-none [] = refl
append-none (x ∷ xs) = ap (λ l. x ∷ l) (append-none xs)

-- a text is what is written and what is left
pub record Left (text now rest : List ℕ) : Type 0 where
  pub onto : text ≡ now ++ rest

pub begin : (entry text parts : List ℕ) → text ≡ parts → Left (entry ++ text) entry parts
begin entry text parts is = record { onto = ap (λ l. entry ++ l) is }

-- a part moves from what is left to what is written
pub moved : {x before part after : List ℕ} (rest : List ℕ) → Added before part after → Left x before (part ++ rest) → Left x after rest
moved {x} {before} {part} {after} rest a l = record { onto = l.onto ∙ sym (append_assoc before part rest) ∙ ap (λ m. m ++ rest) (sym a.grown) }

pub ended : (entry text now : List ℕ) → Left (entry ++ text) now [] → Added entry text now
ended entry text now l = record { grown = sym (l.onto ∙ append-none now) }

pub regrouped : {x now : List ℕ} (a b c : List ℕ) → Left x now ((a ++ b) ++ c) → Left x now (a ++ (b ++ c))
regrouped {x} {now} a b c l = record { onto = l.onto ∙ ap (λ m. now ++ m) (append_assoc a b c) }

-- the last part is written by a call whose answer is given back
pub last : {T E : Type 0} (r : Result T E) (entry text before part after : List ℕ) → Left (entry ++ text) before part → OnOk r (Added before part after) → OnOk r (Added entry text after)
last r entry text before part after l h = on_ok_weaker r (λ a. record { grown = a.grown ∙ sym l.onto }) h

pub enclosed-parts : (bare : Bool) (text : List ℕ) → enclosed bare text ≡ unless bare (40 ∷ []) ++ (text ++ unless bare (41 ∷ []))
enclosed-parts true text = sym (append-none text)
enclosed-parts false text = refl

pub operand-within : (around : ℕ) (e : Tree) (bound : ℕ) (within bare : List ℕ) → bound ≤ around → bound ≡ binding_of e → operand_text around e within bare ≡ bracketed within
operand-within around e bound within bare le is =
    let test : nat_le (binding_of e) around ≡ true = grind (arith, nat_tests) in ap (λ b. cond b (bracketed within) bare) test

pub operand-bare : (around : ℕ) (e : Tree) (bound : ℕ) (within bare : List ℕ) → around < bound → bound ≡ binding_of e → operand_text around e within bare ≡ bare
operand-bare around e bound within bare lt is =
    let test : nat_le (binding_of e) around ≡ false = grind (arith, nat_tests) in ap (λ b. cond b (bracketed within) bare) test

drop-at : {X : Type 0} (xs : List X) (i : ℕ) (x : X) → i < length xs → x ≡ get_or xs i x → drop i xs ≡ x ∷ drop (i + 1) xs
drop-at xs i x lt is = drop-cons xs i x lt ∙ (λ j. sym is j ∷ drop (sym (add-one i) j) xs)

operand-next : (os : List Operand) (i : ℕ) (o : Operand) → i < length os → o ≡ get_or os i o →
    operands_seen (drop i os) ≡ operand (out-Operand o).operator (out-Operand o).offset (tree_of (out-Operand o).expr) (operands_seen (drop (i + 1) os))
operand-next os i o lt is = ap operands_seen (drop-at os i o lt is) ∙ of-operand o (operands_seen (drop (i + 1) os))

pub next-named : (os : List Operand) (i : ℕ) (o : Operand) (behind : Bool) → i < length os → o ≡ get_or os i o → is_name_like (out-Operand o).operator ≡ name_like_next behind (operands_seen (drop i os))
next-named os i o behind lt is = sym (ap (name_like_next behind) (operand-next os i o lt is))

-- ---- what is left of a list, the next one in front

pub rest-next : (around : ℕ) (behind : Bool) (os : List Operand) (i : ℕ) (o : Operand) (x now : List ℕ) → i < length os → o ≡ get_or os i o → Left x now (printed_rest around behind (operands_seen (drop i os))) →
    Left x now (operator_text (out-Operand o).operator ++ (operand_text around (tree_of (out-Operand o).expr) (printed false (tree_of (out-Operand o).expr)) (printed (name_like_next behind (operands_seen (drop (i + 1) os))) (tree_of (out-Operand o).expr))
    ++ printed_rest around behind (operands_seen (drop (i + 1) os))))
rest-next around behind os i o x now lt is l = record { onto = l.onto ∙ ap (λ r. now ++ printed_rest around behind r) (operand-next os i o lt is) }

pub rest-end : (around : ℕ) (behind : Bool) (os : List Operand) (i : ℕ) (x now : List ℕ) → length os ≤ i → Left x now (printed_rest around behind (operands_seen (drop i os))) → Left x now []
rest-end around behind os i x now ge l = record { onto = l.onto ∙ ap (λ r. now ++ printed_rest around behind (operands_seen r)) (drop_all i os ge) }

pub steps-next : (first : Bool) (ss : List Step) (i : ℕ) (s : Step) (x now : List ℕ) → i < length ss → s ≡ get_or ss i s → Left x now (printed_steps first (steps_seen (drop i ss))) →
    Left x now (unless first (47 ∷ []) ++ (axis_text (out-Step s).axis ++ ((58 ∷ 58 ∷ []) ++ (test_text (out-Step s).test ++ (printed_predicates (trees_seen (out-Step s).predicates.items) ++ printed_steps false (steps_seen (drop (i + 1) ss)))))))
steps-next first ss i s x now lt is l = record { onto = l.onto ∙ ap (λ r. now ++ printed_steps first r) (ap steps_seen (drop-at ss i s lt is) ∙ of-step s (steps_seen (drop (i + 1) ss))) }

pub steps-end : (first : Bool) (ss : List Step) (i : ℕ) (x now : List ℕ) → length ss ≤ i → Left x now (printed_steps first (steps_seen (drop i ss))) → Left x now []
steps-end first ss i x now ge l = record { onto = l.onto ∙ ap (λ r. now ++ printed_steps first (steps_seen r)) (drop_all i ss ge) }

pub predicates-next : (es : List Expr) (i : ℕ) (e : Expr) (x now : List ℕ) → i < length es → e ≡ get_or es i e → Left x now (printed_predicates (trees_seen (drop i es))) →
    Left x now ((91 ∷ []) ++ (printed false (tree_of e) ++ ((93 ∷ []) ++ printed_predicates (trees_seen (drop (i + 1) es)))))
predicates-next es i e x now lt is l = record { onto = l.onto ∙ ap (λ r. now ++ printed_predicates (trees_seen r)) (drop-at es i e lt is) }

pub predicates-end : (es : List Expr) (i : ℕ) (x now : List ℕ) → length es ≤ i → Left x now (printed_predicates (trees_seen (drop i es))) → Left x now []
predicates-end es i x now ge l = record { onto = l.onto ∙ ap (λ r. now ++ printed_predicates (trees_seen r)) (drop_all i es ge) }

pub args-next : (first : Bool) (es : List Expr) (i : ℕ) (e : Expr) (x now : List ℕ) → i < length es → e ≡ get_or es i e → Left x now (printed_args first (trees_seen (drop i es))) →
    Left x now (unless first (44 ∷ 32 ∷ []) ++ (printed false (tree_of e) ++ printed_args false (trees_seen (drop (i + 1) es))))
args-next first es i e x now lt is l = record { onto = l.onto ∙ ap (λ r. now ++ printed_args first (trees_seen r)) (drop-at es i e lt is) }

pub args-end : (first : Bool) (es : List Expr) (i : ℕ) (x now : List ℕ) → length es ≤ i → Left x now (printed_args first (trees_seen (drop i es))) → Left x now []
args-end first es i x now ge l = record { onto = l.onto ∙ ap (λ r. now ++ printed_args first (trees_seen r)) (drop_all i es ge) }

-- ---- paths that stand without parentheses

pub bare-root : (ss : List Step) (b : Bool) → b ≡ (length ss == 0) → not b ≡ is_bare_path true root (steps_seen ss)
bare-root [] b e = ap not e
bare-root (s ∷ ss) b e = ap not (e ∙ some ss) ∙ sym (ap (is_bare_path true root) (of-step s (steps_seen ss)))
  where
    some : (xs : List Step) → (suc (length xs) == 0) ≡ false
    some xs = grind (arith, nat_tests)

pub bare-here : (behind : Bool) (ss : Steps) → true ≡ is_bare_path behind here ss
bare-here true ss = refl
bare-here false ss = refl

pub bare-from : (behind : Bool) (e : Tree) (ss : Steps) → true ≡ is_bare_path behind (from e) ss
bare-from true e ss = refl
bare-from false e ss = refl
