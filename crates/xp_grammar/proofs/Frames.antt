-- What derives derives as well one bracket deeper, and with more tokens after it.
use Rattle.std.proofs.Common.{ℕ, suc, List, ◌++◌, arith}
use Rattle.xp_tree.specs.Tree.{Tree, Steps, Operands, Trees}
use Rattle.xp_tree.specs.declared.terms.Level.{Level}
use Rattle.xp_tree.specs.declared.terms.AxisName.{AxisName}
use Rattle.xp_tree.specs.declared.terms.StepTest.{StepTest}
use Rattle.xp_grammar.specs.declared.token.Placed.{Placed}
use Rattle.xp_grammar.specs.Grammar.{IsSigns, no_sign, sign, IsAxis, no_axis, at_sign, named_axis, IsTest, star_test, prefix_test, named_test, typed_test, target_test, IsChain, chained, IsOperand, tighter_chain, signed, one_path, IsOperands, no_more, one_more, IsPath, root_alone, from_root, from_anywhere, from_here, from_filter, IsSteps, dot_step, parent_step, tested_step, IsMoreSteps, no_more_steps, slash_steps, double_slash_steps, IsPredicates, no_predicate, predicate, IsFilter, filter, IsPrimary, a_variable, a_literal, a_number, in_parens, a_call, IsArguments, no_argument, arguments, IsMoreArguments, no_more_arguments, one_more_argument}
use Rattle.xp_grammar.proofs.Completes.{SomeChain, SomeOperand, SomeOperands, SomePath, SomeSteps, SomeMoreSteps, SomePredicates, SomePrimary, SomeMoreArguments}

abbrev SomeFilter : ℕ → ℕ → List Placed → List Placed → Type 0
SomeFilter limit d s u = (e : Tree) × IsFilter limit d s u e

abbrev SomeArguments : ℕ → ℕ → List Placed → List Placed → Type 0
SomeArguments limit d s u = (es : Trees) × IsArguments limit d s u es

frame_signs : {count : ℕ} {s u : List Placed} → IsSigns count s u → (t : List Placed) → IsSigns count (s ++ t) (u ++ t)
frame_signs (no_sign s) t = no_sign (s ++ t)
frame_signs (sign k p s u is more) t = sign k p (s ++ t) (u ++ t) is (frame_signs more t)

frame_axis : {s u : List Placed} {a : AxisName} → IsAxis s u a → (t : List Placed) → IsAxis (s ++ t) (u ++ t) a
frame_axis (no_axis s) t = no_axis (s ++ t)
frame_axis (at_sign p s is) t = at_sign p (s ++ t) is
frame_axis (named_axis p q s a is colons) t = named_axis p q (s ++ t) a is colons

frame_test : {s u : List Placed} {x : StepTest} → IsTest s u x → (t : List Placed) → IsTest (s ++ t) (u ++ t) x
frame_test (star_test p s is) t = star_test p (s ++ t) is
frame_test (prefix_test p s prefix is) t = prefix_test p (s ++ t) prefix is
frame_test (named_test p s name is) t = named_test p (s ++ t) name is
frame_test (typed_test p q r s n is opens closes) t = typed_test p q r (s ++ t) n is opens closes
frame_test (target_test p q l r s target is opens literal closes) t = target_test p q l r (s ++ t) target is opens literal closes

mutual
  pub frame_chain : (limit : ℕ) {n : Level} {d : ℕ} {s u : List Placed} {x : Tree} → IsChain limit n d s u x →
      (t : List Placed) → SomeChain (suc limit) n (suc d) (s ++ t) (u ++ t)
  frame_chain limit (chained n d s m u first rest D T) t =
      let (e, D') = frame_operand limit D t in
      let (os, T') = frame_operands limit T t in
      (_, chained n (suc d) (s ++ t) (m ++ t) (u ++ t) e os D' T')

  frame_operand : (limit : ℕ) {n : Level} {d : ℕ} {s u : List Placed} {x : Tree} → IsOperand limit n d s u x →
      (t : List Placed) → SomeOperand (suc limit) n (suc d) (s ++ t) (u ++ t)
  frame_operand limit (tighter_chain n inner d s u x is D) t =
      let (e, D') = frame_chain limit D t in
      (_, tighter_chain n inner (suc d) (s ++ t) (u ++ t) e is D')
  frame_operand limit (signed d count s m u x S fits D) t =
      let (e, D') = frame_chain limit D t in
      (_, signed (suc d) count (s ++ t) (m ++ t) (u ++ t) e (frame_signs S t) (omega (arith, fits)) D')
  frame_operand limit (one_path d s u x D) t =
      let (e, D') = frame_path limit D t in
      (_, one_path (suc d) (s ++ t) (u ++ t) e D')

  frame_operands : (limit : ℕ) {n : Level} {d : ℕ} {s u : List Placed} {x : Operands} → IsOperands limit n d s u x →
      (t : List Placed) → SomeOperands (suc limit) n (suc d) (s ++ t) (u ++ t)
  frame_operands limit (no_more n d s) t = (_, no_more n (suc d) (s ++ t))
  frame_operands limit (one_more n d p s m u o x rest is at_level D T) t =
      let (e, D') = frame_operand limit D t in
      let (os, T') = frame_operands limit T t in
      (_, one_more n (suc d) p (s ++ t) (m ++ t) (u ++ t) o e os is at_level D' T')

  frame_path : (limit : ℕ) {d : ℕ} {s u : List Placed} {x : Tree} → IsPath limit d s u x →
      (t : List Placed) → SomePath (suc limit) (suc d) (s ++ t) (u ++ t)
  frame_path limit (root_alone d p s is) t = (_, root_alone (suc d) p (s ++ t) is)
  frame_path limit (from_root d p s u steps is D) t =
      let (ss, D') = frame_steps limit D t in
      (_, from_root (suc d) p (s ++ t) (u ++ t) ss is D')
  frame_path limit (from_anywhere d p s u steps is D) t =
      let (ss, D') = frame_steps limit D t in
      (_, from_anywhere (suc d) p (s ++ t) (u ++ t) ss is D')
  frame_path limit (from_here d s u steps D) t =
      let (ss, D') = frame_steps limit D t in
      (_, from_here (suc d) (s ++ t) (u ++ t) ss D')
  frame_path limit (from_filter d s m u x steps D T) t =
      let (e, D') = frame_filter limit D t in
      let (ss, T') = frame_more_steps limit T t in
      (_, from_filter (suc d) (s ++ t) (m ++ t) (u ++ t) e ss D' T')

  frame_steps : (limit : ℕ) {d : ℕ} {s u : List Placed} {x : Steps} → IsSteps limit d s u x →
      (t : List Placed) → SomeSteps (suc limit) (suc d) (s ++ t) (u ++ t)
  frame_steps limit (dot_step d p s u rest is T) t =
      let (ss, T') = frame_more_steps limit T t in
      (_, dot_step (suc d) p (s ++ t) (u ++ t) ss is T')
  frame_steps limit (parent_step d p s u rest is T) t =
      let (ss, T') = frame_more_steps limit T t in
      (_, parent_step (suc d) p (s ++ t) (u ++ t) ss is T')
  frame_steps limit (tested_step d s t' v w u a q ps rest A Q P T) t =
      let (ps', P') = frame_predicates limit P t in
      let (ss, T') = frame_more_steps limit T t in
      (_, tested_step (suc d) (s ++ t) (t' ++ t) (v ++ t) (w ++ t) (u ++ t) a q ps' ss (frame_axis A t) (frame_test Q t) P' T')

  frame_more_steps : (limit : ℕ) {d : ℕ} {s u : List Placed} {x : Steps} → IsMoreSteps limit d s u x →
      (t : List Placed) → SomeMoreSteps (suc limit) (suc d) (s ++ t) (u ++ t)
  frame_more_steps limit (no_more_steps d s) t = (_, no_more_steps (suc d) (s ++ t))
  frame_more_steps limit (slash_steps d p s u steps is D) t =
      let (ss, D') = frame_steps limit D t in
      (_, slash_steps (suc d) p (s ++ t) (u ++ t) ss is D')
  frame_more_steps limit (double_slash_steps d p s u steps is D) t =
      let (ss, D') = frame_steps limit D t in
      (_, double_slash_steps (suc d) p (s ++ t) (u ++ t) ss is D')

  frame_predicates : (limit : ℕ) {d : ℕ} {s u : List Placed} {x : Trees} → IsPredicates limit d s u x →
      (t : List Placed) → SomePredicates (suc limit) (suc d) (s ++ t) (u ++ t)
  frame_predicates limit (no_predicate d s) t = (_, no_predicate (suc d) (s ++ t))
  frame_predicates limit (predicate d p q s m u x rest is fits D closes T) t =
      let (e, D') = frame_chain limit D t in
      let (ps, T') = frame_predicates limit T t in
      (_, predicate (suc d) p q (s ++ t) (m ++ t) (u ++ t) e ps is (omega (arith, fits)) D' closes T')

  frame_filter : (limit : ℕ) {d : ℕ} {s u : List Placed} {x : Tree} → IsFilter limit d s u x →
      (t : List Placed) → SomeFilter (suc limit) (suc d) (s ++ t) (u ++ t)
  frame_filter limit (filter d s m u x ps D P) t =
      let (e, D') = frame_primary limit D t in
      let (ps', P') = frame_predicates limit P t in
      (_, filter (suc d) (s ++ t) (m ++ t) (u ++ t) e ps' D' P')

  frame_primary : (limit : ℕ) {d : ℕ} {s u : List Placed} {x : Tree} → IsPrimary limit d s u x →
      (t : List Placed) → SomePrimary (suc limit) (suc d) (s ++ t) (u ++ t)
  frame_primary limit (a_variable d p s name is) t = (_, a_variable (suc d) p (s ++ t) name is)
  frame_primary limit (a_literal d p s value is) t = (_, a_literal (suc d) p (s ++ t) value is)
  frame_primary limit (a_number d p s digits is) t = (_, a_number (suc d) p (s ++ t) digits is)
  frame_primary limit (in_parens d p q s u x is fits D closes) t =
      let (e, D') = frame_chain limit D t in
      (_, in_parens (suc d) p q (s ++ t) (u ++ t) e is (omega (arith, fits)) D' closes)
  frame_primary limit (a_call d p q r s u name args is opens fits D closes) t =
      let (es, D') = frame_arguments limit D t in
      (_, a_call (suc d) p q r (s ++ t) (u ++ t) name es is opens (omega (arith, fits)) D' closes)

  frame_arguments : (limit : ℕ) {d : ℕ} {s u : List Placed} {x : Trees} → IsArguments limit d s u x →
      (t : List Placed) → SomeArguments (suc limit) (suc d) (s ++ t) (u ++ t)
  frame_arguments limit (no_argument d s) t = (_, no_argument (suc d) (s ++ t))
  frame_arguments limit (arguments d s m u x rest D T) t =
      let (e, D') = frame_chain limit D t in
      let (es, T') = frame_more_arguments limit T t in
      (_, arguments (suc d) (s ++ t) (m ++ t) (u ++ t) e es D' T')

  frame_more_arguments : (limit : ℕ) {d : ℕ} {s u : List Placed} {x : Trees} → IsMoreArguments limit d s u x →
      (t : List Placed) → SomeMoreArguments (suc limit) (suc d) (s ++ t) (u ++ t)
  frame_more_arguments limit (no_more_arguments d s) t = (_, no_more_arguments (suc d) (s ++ t))
  frame_more_arguments limit (one_more_argument d p s m u x rest is D T) t =
      let (e, D') = frame_chain limit D t in
      let (es, T') = frame_more_arguments limit T t in
      (_, one_more_argument (suc d) p (s ++ t) (m ++ t) (u ++ t) e es is D' T')
