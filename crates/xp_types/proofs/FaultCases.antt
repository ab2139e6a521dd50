-- Typing gives a fault exactly where the expression has it first.
use Rattle.std.proofs.Common.{◌≡◌, ℕ, Bool, true, false, Ok, Err, Some, is_some, List, refl, sym, ap, subst}
use Rattle.xp_tree.specs.declared.terms.Level.{Level}
use Rattle.xp_tree.specs.declared.terms.Level.TheVariants as levels
use Rattle.xp_tree.specs.declared.terms.Operator.{Operator}
use Rattle.xp_types.specs.declared.faults.TypeKind.TheVariants as kinds
use Rattle.xp_tree.specs.Tree.{Tree, PathStart, Steps, Operands, Trees, chain, negated, path, filtered, variable, literal, number, call, root, here, from, no_steps, step, no_operands, operand, no_trees, tree, offset_of}
use Rattle.xp_typed_tree.specs.TypedTree.{disjunction, conjunction, arithmetic, negation, union, location, selection, text, application, at_root, at_context, at_nodes, no_more_steps, typed_step, no_comparands, comparand, no_combinands, combinand, no_typed, typed}
use Rattle.xp_typed_tree.specs.declared.function.Function.{Function}
use Rattle.xp_typed_tree.specs.WellTyped.{wants_nodes}
use Rattle.xp_types.specs.declared.faults.TypeFault.{TypeFault}
use Rattle.xp_types.specs.Scope.{Scope, variable_of}
use Rattle.xp_types.specs.FunctionNames.{function_named}
use Rattle.xp_types.specs.inner.Checked.{after}
use Rattle.xp_types.specs.Terms.{number_of_trees, compared_with, is_own, joins, joins_nodes, spelling, comparison_of, arithmetic_of}
use Rattle.xp_types.specs.inner.Typing.{typing, wanted, all_typed, operands_typed, comparands_typed, combinands_typed, steps_typed, place_typed, called, axis_of, resolved, or_refused}
use Rattle.xp_types.specs.Places.{FaultAt, InOrder, IsFirst}
use Rattle.xp_types.specs.TypeFaults.{NotWanted, OperatorFault, AxisFault, TestFault, CallFault, wanted_by, HasFault, StartFault, StepsFault, OperandsFault, AllFault}
use Rattle.xp_types.proofs.FirstLemmas.{Meets, nothing, mapped, turn, two, three, four, first-given}
use Rattle.xp_types.proofs.CallFaults.{called-meets, called-named}
use Rattle.xp_types.proofs.TermFaults.{variable-meets, axis-meets, own-meets, joins-meets, joins-after, plain-operand-meets, test-meets, number-meets, operand-meets}

-- the arguments of a function that is called
args-meet : (S : Scope) (name : List ℕ) (f : Function) (args : Trees) → function_named name ≡ Some f →
    Meets (all_typed S (wanted_by (function_named name)) args) (AllFault S (wanted_by (function_named name)) args) → Meets (all_typed S (wants_nodes f) args) (AllFault S (wanted_by (function_named name)) args)
args-meet S name f args is M = subst (λ w. Meets (all_typed S w args) (AllFault S (wanted_by (function_named name)) args)) (ap wanted_by is) M

mutual
  pub typing-meets : (S : Scope) (e : Tree) → Meets (typing S e) (HasFault S e)
  typing-meets S (chain levels.Or offset first rest) =
      two (typing S first) (operands_typed S levels.Or rest) (λ t ts. disjunction (typed t ts)) (InOrder (HasFault S first) (NotWanted S false first)) (OperandsFault S levels.Or rest)
      (plain-operand-meets S false first refl (typing-meets S first)) (operands-meet S levels.Or (λ o. refl) rest)
  typing-meets S (chain levels.And offset first rest) =
      two (typing S first) (operands_typed S levels.And rest) (λ t ts. conjunction (typed t ts)) (InOrder (HasFault S first) (NotWanted S false first)) (OperandsFault S levels.And rest)
      (plain-operand-meets S false first refl (typing-meets S first)) (operands-meet S levels.And (λ o. refl) rest)
  typing-meets S (chain levels.Equal offset first rest) =
      two (typing S first) (comparands_typed S levels.Equal rest) (λ t us. compared_with t us) (InOrder (HasFault S first) (NotWanted S false first)) (OperandsFault S levels.Equal rest)
      (plain-operand-meets S false first refl (typing-meets S first)) (comparands-meet S levels.Equal (λ o. refl) refl rest)
  typing-meets S (chain levels.Rel offset first rest) =
      two (typing S first) (comparands_typed S levels.Rel rest) (λ t us. compared_with t us) (InOrder (HasFault S first) (NotWanted S false first)) (OperandsFault S levels.Rel rest)
      (plain-operand-meets S false first refl (typing-meets S first)) (comparands-meet S levels.Rel (λ o. refl) refl rest)
  typing-meets S (chain levels.Sum offset first rest) =
      two (typing S first) (combinands_typed S levels.Sum rest) (λ t us. arithmetic t us) (InOrder (HasFault S first) (NotWanted S false first)) (OperandsFault S levels.Sum rest)
      (plain-operand-meets S false first refl (typing-meets S first)) (combinands-meet S levels.Sum (λ o. refl) refl rest)
  typing-meets S (chain levels.Prod offset first rest) =
      two (typing S first) (combinands_typed S levels.Prod rest) (λ t us. arithmetic t us) (InOrder (HasFault S first) (NotWanted S false first)) (OperandsFault S levels.Prod rest)
      (plain-operand-meets S false first refl (typing-meets S first)) (combinands-meet S levels.Prod (λ o. refl) refl rest)
  typing-meets S (chain levels.Union offset first rest) =
      two (after (typing S first) (wanted true (offset_of first))) (operands_typed S levels.Union rest) (λ t ts. union (typed t ts)) (InOrder (HasFault S first) (NotWanted S true first)) (OperandsFault S levels.Union rest)
      (operand-meets S true first (typing-meets S first)) (operands-meet S levels.Union (λ o. refl) rest)
  typing-meets S (negated offset count e) = mapped (typing S e) (negation count) (HasFault S e) (typing-meets S e)
  typing-meets S (path offset start steps) =
      two (place_typed S start) (steps_typed S steps) (λ place ss. location place ss) (StartFault S start) (StepsFault S steps) (start-meets S start) (steps-meet S steps)
  typing-meets S (filtered offset base predicates) =
      two (after (typing S base) (wanted true (offset_of base))) (all_typed S false predicates) (λ b ps. selection b ps) (InOrder (HasFault S base) (NotWanted S true base)) (AllFault S false predicates)
      (operand-meets S true base (typing-meets S base)) (all-meet S false predicates)
  typing-meets S (variable offset name) = variable-meets (variable_of S.variables name) offset
  typing-meets S (literal offset value) = nothing (text value)
  typing-meets S (number offset digits) = number-meets digits offset
  typing-meets S (call offset name args) =
      turn (called S name offset (number_of_trees args)) (λ f. after (all_typed S (wants_nodes f) args) (λ ts. Ok (application f ts)))
      (CallFault S name offset (number_of_trees args)) (AllFault S (wanted_by (function_named name)) args)
      (called-meets S name offset (number_of_trees args)) (all-meet S (wanted_by (function_named name)) args).one
      (λ f is. mapped (all_typed S (wants_nodes f) args) (application f) (AllFault S (wanted_by (function_named name)) args)
      (args-meet S name f args (called-named S name offset (number_of_trees args) f is) (all-meet S (wanted_by (function_named name)) args)))

  pub start-meets : (S : Scope) (p : PathStart) → Meets (place_typed S p) (StartFault S p)
  start-meets S root = nothing at_root
  start-meets S here = nothing at_context
  start-meets S (from base) =
      mapped (after (typing S base) (wanted true (offset_of base))) (λ t. at_nodes t) (InOrder (HasFault S base) (NotWanted S true base)) (operand-meets S true base (typing-meets S base))

  pub steps-meet : (S : Scope) (ss : Steps) → Meets (steps_typed S ss) (StepsFault S ss)
  steps-meet S no_steps = nothing no_more_steps
  steps-meet S (step offset axis node_test test_offset predicates rest) =
      four (axis_of axis offset) (resolved S node_test test_offset) (all_typed S false predicates) (steps_typed S rest) (λ a n ps ss. typed_step a n ps ss)
      (AxisFault axis offset) (TestFault S node_test test_offset) (AllFault S false predicates) (StepsFault S rest)
      (axis-meets axis offset) (test-meets S node_test test_offset) (all-meet S false predicates) (steps-meet S rest)

  -- the later operands of a level that keeps no operators, of comparisons, and of operators on numbers
  operands-meet : (S : Scope) (level : Level) → ((o : Operator) → is_own level o ≡ joins level o) → (os : Operands) → Meets (operands_typed S level os) (OperandsFault S level os)
  operands-meet S level own no_operands = nothing no_typed
  operands-meet S level own (operand o offset e rest) =
      let F = InOrder (InOrder (HasFault S e) (NotWanted S (joins_nodes level) e)) (OperandsFault S level rest) in
      let M = two (after (typing S e) (wanted (joins_nodes level) (offset_of e))) (operands_typed S level rest) (λ t ts. typed t ts) (InOrder (HasFault S e) (NotWanted S (joins_nodes level) e)) (OperandsFault S level rest)
      (operand-meets S (joins_nodes level) e (typing-meets S e)) (operands-meet S level own rest) in
      subst (λ b. Meets (operands_typed S level (operand o offset e rest)) (InOrder (FaultAt (b ≡ false) (kinds.Refused (spelling o)) offset) F)) (sym (own o))
      (subst (λ m. Meets m (InOrder (FaultAt (joins level o ≡ false) (kinds.Refused (spelling o)) offset) F))
      (joins-after o offset (joins level o) (after (typing S e) (wanted (joins_nodes level) (offset_of e))) (λ t. after (operands_typed S level rest) (λ ts. Ok (typed t ts))))
      (joins-meets o offset (joins level o) _ F M))

  comparands-meet : (S : Scope) (level : Level) → ((o : Operator) → is_own level o ≡ is_some (comparison_of level o)) → joins_nodes level ≡ false → (os : Operands) →
      Meets (comparands_typed S level os) (OperandsFault S level os)
  comparands-meet S level own plain no_operands = nothing no_comparands
  comparands-meet S level own plain (operand o offset e rest) =
      three (or_refused (comparison_of level o) o offset) (typing S e) (comparands_typed S level rest) (λ k t cs. comparand k t cs)
      (OperatorFault level o offset) (InOrder (HasFault S e) (NotWanted S (joins_nodes level) e)) (OperandsFault S level rest)
      (subst (λ b. Meets (or_refused (comparison_of level o) o offset) (FaultAt (b ≡ false) (kinds.Refused (spelling o)) offset)) (sym (own o)) (own-meets o offset (comparison_of level o)))
      (plain-operand-meets S (joins_nodes level) e plain (typing-meets S e)) (comparands-meet S level own plain rest)

  combinands-meet : (S : Scope) (level : Level) → ((o : Operator) → is_own level o ≡ is_some (arithmetic_of level o)) → joins_nodes level ≡ false → (os : Operands) →
      Meets (combinands_typed S level os) (OperandsFault S level os)
  combinands-meet S level own plain no_operands = nothing no_combinands
  combinands-meet S level own plain (operand o offset e rest) =
      three (or_refused (arithmetic_of level o) o offset) (typing S e) (combinands_typed S level rest) (λ k t cs. combinand k t cs)
      (OperatorFault level o offset) (InOrder (HasFault S e) (NotWanted S (joins_nodes level) e)) (OperandsFault S level rest)
      (subst (λ b. Meets (or_refused (arithmetic_of level o) o offset) (FaultAt (b ≡ false) (kinds.Refused (spelling o)) offset)) (sym (own o)) (own-meets o offset (arithmetic_of level o)))
      (plain-operand-meets S (joins_nodes level) e plain (typing-meets S e)) (combinands-meet S level own plain rest)

  pub all-meet : (S : Scope) (nodes : Bool) (es : Trees) → Meets (all_typed S nodes es) (AllFault S nodes es)
  all-meet S nodes no_trees = nothing no_typed
  all-meet S nodes (tree e es) =
      two (after (typing S e) (wanted nodes (offset_of e))) (all_typed S nodes es) (λ t ts. typed t ts) (InOrder (HasFault S e) (NotWanted S nodes e)) (AllFault S nodes es)
      (operand-meets S nodes e (typing-meets S e)) (all-meet S nodes es)

pub fault-first : (S : Scope) (e : Tree) (f : TypeFault) → typing S e ≡ Err f → IsFirst (HasFault S e) f
fault-first S e f h = (typing-meets S e).faulty f h

pub first-fault : (S : Scope) (e : Tree) (f : TypeFault) → IsFirst (HasFault S e) f → typing S e ≡ Err f
first-fault S e f h = first-given (typing S e) (HasFault S e) (typing-meets S e) f h
