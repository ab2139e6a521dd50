-- Typing gives a tree exactly where the expression has it by cases.
use Rattle.std.proofs.Common.{◌≡◌, ℕ, Bool, true, false, Ok, refl, ap, ◌∙◌, subst}
use Rattle.xp_tree.specs.declared.terms.Level.{Level}
use Rattle.xp_tree.specs.declared.terms.Level.TheVariants as levels
use Rattle.xp_tree.specs.Tree.{Tree, PathStart, Steps, Operands, Trees, chain, negated, path, filtered, variable, literal, number, call, root, here, from, no_steps, step, no_operands, operand, no_trees, tree, offset_of}
use Rattle.xp_typed_tree.specs.TypedTree.{TypedTree, TypedPlace, TypedSteps, Comparands, Combinands, TypedTrees}
use Rattle.xp_typed_tree.specs.WellTyped.{wants_nodes, IsWanted}
use Rattle.xp_types.specs.Scope.{Scope, variable_of}
use Rattle.xp_types.specs.inner.Checked.{after}
use Rattle.xp_types.specs.Terms.{number_of_trees, joins, joins_nodes, comparison_of, arithmetic_of}
use Rattle.xp_types.specs.inner.Typing.{typing, wanted, node_set_at, all_typed, operands_typed, comparands_typed, combinands_typed, steps_typed, place_typed, called, axis_of, resolved, or_refused, joined_typed}
use Rattle.xp_types.specs.HasType.{HasType, StartHasType, StepsHaveTypes, OperandsHaveTypes, ComparandsHaveTypes, CombinandsHaveTypes, AllHaveTypes}
use Rattle.xp_types.proofs.Giving.{after-value}
use Rattle.xp_types.proofs.TermCases.{variable-has, variable-so, number-has, number-so, called-has, called-so, axis-has, axis-so, test-has, test-so, refused-has, refused-so, joins-has, joins-so}
use Rattle.xp_types.proofs.Sound.{went, same, wanted-sound}

wanted-is : (nodes : Bool) (offset : ℕ) (t : TypedTree) → IsWanted nodes t → wanted nodes offset t ≡ Ok t
wanted-is true offset t k = ap (λ v. node_set_at v offset t) k
wanted-is false offset t k = refl

mutual
  pub has-type : (S : Scope) (e : Tree) (u : TypedTree) → typing S e ≡ Ok u → HasType S e u
  has-type S (chain levels.Or offset first rest) u h =
      let a = went (typing S first) _ u h in
      let b = went (operands_typed S levels.Or rest) _ u a.next in
      (a.value, b.value, has-type S first a.value a.had, operands-have S levels.Or rest b.value b.had, same _ u b.next)
  has-type S (chain levels.And offset first rest) u h =
      let a = went (typing S first) _ u h in
      let b = went (operands_typed S levels.And rest) _ u a.next in
      (a.value, b.value, has-type S first a.value a.had, operands-have S levels.And rest b.value b.had, same _ u b.next)
  has-type S (chain levels.Equal offset first rest) u h =
      let a = went (typing S first) _ u h in
      let b = went (comparands_typed S levels.Equal rest) _ u a.next in
      (a.value, b.value, has-type S first a.value a.had, comparands-have S levels.Equal rest b.value b.had, same _ u b.next)
  has-type S (chain levels.Rel offset first rest) u h =
      let a = went (typing S first) _ u h in
      let b = went (comparands_typed S levels.Rel rest) _ u a.next in
      (a.value, b.value, has-type S first a.value a.had, comparands-have S levels.Rel rest b.value b.had, same _ u b.next)
  has-type S (chain levels.Sum offset first rest) u h =
      let a = went (typing S first) _ u h in
      let b = went (combinands_typed S levels.Sum rest) _ u a.next in
      (a.value, b.value, has-type S first a.value a.had, combinands-have S levels.Sum rest b.value b.had, same _ u b.next)
  has-type S (chain levels.Prod offset first rest) u h =
      let a = went (typing S first) _ u h in
      let b = went (combinands_typed S levels.Prod rest) _ u a.next in
      (a.value, b.value, has-type S first a.value a.had, combinands-have S levels.Prod rest b.value b.had, same _ u b.next)
  has-type S (chain levels.Union offset first rest) u h =
      let a = went (after (typing S first) (wanted true (offset_of first))) _ u h in
      let b = went (operands_typed S levels.Union rest) _ u a.next in
      let k = went (typing S first) _ a.value a.had in
      let w = wanted-sound true (offset_of first) k.value a.value k.next in
      (a.value, b.value, subst (HasType S first) w.is (has-type S first k.value k.had), w.kind, operands-have S levels.Union rest b.value b.had, same _ u b.next)
  has-type S (negated offset count e) u h = let a = went (typing S e) _ u h in (a.value, has-type S e a.value a.had, same _ u a.next)
  has-type S (path offset start steps) u h =
      let a = went (place_typed S start) _ u h in
      let b = went (steps_typed S steps) _ u a.next in
      (a.value, b.value, start-has S start a.value a.had, steps-have S steps b.value b.had, same _ u b.next)
  has-type S (filtered offset base predicates) u h =
      let a = went (after (typing S base) (wanted true (offset_of base))) _ u h in
      let b = went (all_typed S false predicates) _ u a.next in
      let k = went (typing S base) _ a.value a.had in
      let w = wanted-sound true (offset_of base) k.value a.value k.next in
      (a.value, b.value, subst (HasType S base) w.is (has-type S base k.value k.had), w.kind, all-have S false predicates b.value b.had, same _ u b.next)
  has-type S (variable offset name) u h = variable-has (variable_of S.variables name) offset u h
  has-type S (literal offset value) u h = same _ u h
  has-type S (number offset digits) u h = number-has digits offset u h
  has-type S (call offset name args) u h =
      let a = went (called S name offset (number_of_trees args)) _ u h in
      let b = went (all_typed S (wants_nodes a.value) args) _ u a.next in
      (a.value, b.value, called-has S name offset (number_of_trees args) a.value a.had, all-have S (wants_nodes a.value) args b.value b.had, same _ u b.next)

  start-has : (S : Scope) (p : PathStart) (t : TypedPlace) → place_typed S p ≡ Ok t → StartHasType S p t
  start-has S root t h = same _ t h
  start-has S here t h = same _ t h
  start-has S (from base) t h =
      let a = went (after (typing S base) (wanted true (offset_of base))) _ t h in
      let k = went (typing S base) _ a.value a.had in
      let w = wanted-sound true (offset_of base) k.value a.value k.next in
      (a.value, subst (HasType S base) w.is (has-type S base k.value k.had), w.kind, same _ t a.next)

  steps-have : (S : Scope) (ss : Steps) (ts : TypedSteps) → steps_typed S ss ≡ Ok ts → StepsHaveTypes S ss ts
  steps-have S no_steps ts h = same _ ts h
  steps-have S (step offset axis node_test test_offset predicates rest) ts h =
      let a = went (axis_of axis offset) _ ts h in
      let b = went (resolved S node_test test_offset) _ ts a.next in
      let k = went (all_typed S false predicates) _ ts b.next in
      let l = went (steps_typed S rest) _ ts k.next in
      (a.value, b.value, k.value, l.value, axis-has axis offset a.value a.had, test-has S node_test test_offset b.value b.had, all-have S false predicates k.value k.had, steps-have S rest l.value l.had, same _ ts l.next)

  operands-have : (S : Scope) (level : Level) (os : Operands) (ts : TypedTrees) → operands_typed S level os ≡ Ok ts → OperandsHaveTypes S level os ts
  operands-have S level no_operands ts h = same _ ts h
  operands-have S level (operand o at e rest) ts h =
      let a = went (joined_typed S level o at e) _ ts h in
      let b = went (operands_typed S level rest) _ ts a.next in
      let j = joins-has (joins level o) o at _ a.value a.had in
      let k = went (typing S e) _ a.value j.1 in
      let w = wanted-sound (joins_nodes level) (offset_of e) k.value a.value k.next in
      (a.value, b.value, j.0, subst (HasType S e) w.is (has-type S e k.value k.had), w.kind, operands-have S level rest b.value b.had, same _ ts b.next)

  comparands-have : (S : Scope) (level : Level) (os : Operands) (cs : Comparands) → comparands_typed S level os ≡ Ok cs → ComparandsHaveTypes S level os cs
  comparands-have S level no_operands cs h = same _ cs h
  comparands-have S level (operand o at e rest) cs h =
      let k = went (or_refused (comparison_of level o) o at) _ cs h in
      let a = went (typing S e) _ cs k.next in
      let b = went (comparands_typed S level rest) _ cs a.next in
      (k.value, a.value, b.value, refused-has (comparison_of level o) o at k.value k.had, has-type S e a.value a.had, comparands-have S level rest b.value b.had, same _ cs b.next)

  combinands-have : (S : Scope) (level : Level) (os : Operands) (cs : Combinands) → combinands_typed S level os ≡ Ok cs → CombinandsHaveTypes S level os cs
  combinands-have S level no_operands cs h = same _ cs h
  combinands-have S level (operand o at e rest) cs h =
      let k = went (or_refused (arithmetic_of level o) o at) _ cs h in
      let a = went (typing S e) _ cs k.next in
      let b = went (combinands_typed S level rest) _ cs a.next in
      (k.value, a.value, b.value, refused-has (arithmetic_of level o) o at k.value k.had, has-type S e a.value a.had, combinands-have S level rest b.value b.had, same _ cs b.next)

  pub all-have : (S : Scope) (nodes : Bool) (es : Trees) (ts : TypedTrees) → all_typed S nodes es ≡ Ok ts → AllHaveTypes S nodes es ts
  all-have S nodes no_trees ts h = same _ ts h
  all-have S nodes (tree e es) ts h =
      let a = went (after (typing S e) (wanted nodes (offset_of e))) _ ts h in
      let b = went (all_typed S nodes es) _ ts a.next in
      let k = went (typing S e) _ a.value a.had in
      let w = wanted-sound nodes (offset_of e) k.value a.value k.next in
      (a.value, b.value, subst (HasType S e) w.is (has-type S e k.value k.had), w.kind, all-have S nodes es b.value b.had, same _ ts b.next)

-- ---- and back

mutual
  pub typed-so : (S : Scope) (e : Tree) (u : TypedTree) → HasType S e u → typing S e ≡ Ok u
  typed-so S (chain levels.Or offset first rest) u h =
      after-value (typing S first) _ h.0 (typed-so S first h.0 h.2) ∙ after-value (operands_typed S levels.Or rest) _ h.1 (operands-so S levels.Or rest h.1 h.3) ∙ ap Ok h.4
  typed-so S (chain levels.And offset first rest) u h =
      after-value (typing S first) _ h.0 (typed-so S first h.0 h.2) ∙ after-value (operands_typed S levels.And rest) _ h.1 (operands-so S levels.And rest h.1 h.3) ∙ ap Ok h.4
  typed-so S (chain levels.Equal offset first rest) u h =
      after-value (typing S first) _ h.0 (typed-so S first h.0 h.2) ∙ after-value (comparands_typed S levels.Equal rest) _ h.1 (comparands-so S levels.Equal rest h.1 h.3) ∙ ap Ok h.4
  typed-so S (chain levels.Rel offset first rest) u h =
      after-value (typing S first) _ h.0 (typed-so S first h.0 h.2) ∙ after-value (comparands_typed S levels.Rel rest) _ h.1 (comparands-so S levels.Rel rest h.1 h.3) ∙ ap Ok h.4
  typed-so S (chain levels.Sum offset first rest) u h =
      after-value (typing S first) _ h.0 (typed-so S first h.0 h.2) ∙ after-value (combinands_typed S levels.Sum rest) _ h.1 (combinands-so S levels.Sum rest h.1 h.3) ∙ ap Ok h.4
  typed-so S (chain levels.Prod offset first rest) u h =
      after-value (typing S first) _ h.0 (typed-so S first h.0 h.2) ∙ after-value (combinands_typed S levels.Prod rest) _ h.1 (combinands-so S levels.Prod rest h.1 h.3) ∙ ap Ok h.4
  typed-so S (chain levels.Union offset first rest) u h =
      after-value (after (typing S first) (wanted true (offset_of first))) _ h.0 (after-value (typing S first) (wanted true (offset_of first)) h.0 (typed-so S first h.0 h.2) ∙ wanted-is true (offset_of first) h.0 h.3)
      ∙ after-value (operands_typed S levels.Union rest) _ h.1 (operands-so S levels.Union rest h.1 h.4) ∙ ap Ok h.5
  typed-so S (negated offset count e) u h = after-value (typing S e) _ h.0 (typed-so S e h.0 h.1) ∙ ap Ok h.2
  typed-so S (path offset start steps) u h = after-value (place_typed S start) _ h.0 (start-so S start h.0 h.2) ∙ after-value (steps_typed S steps) _ h.1 (steps-so S steps h.1 h.3) ∙ ap Ok h.4
  typed-so S (filtered offset base predicates) u h =
      after-value (after (typing S base) (wanted true (offset_of base))) _ h.0 (after-value (typing S base) (wanted true (offset_of base)) h.0 (typed-so S base h.0 h.2) ∙ wanted-is true (offset_of base) h.0 h.3)
      ∙ after-value (all_typed S false predicates) _ h.1 (all-so S false predicates h.1 h.4) ∙ ap Ok h.5
  typed-so S (variable offset name) u h = variable-so (variable_of S.variables name) offset u h
  typed-so S (literal offset value) u h = ap Ok h
  typed-so S (number offset digits) u h = number-so digits offset u h
  typed-so S (call offset name args) u h =
      after-value (called S name offset (number_of_trees args)) _ h.0 (called-so S name offset (number_of_trees args) h.0 h.2) ∙ after-value (all_typed S (wants_nodes h.0) args) _ h.1 (all-so S (wants_nodes h.0) args h.1 h.3) ∙ ap Ok h.4

  start-so : (S : Scope) (p : PathStart) (t : TypedPlace) → StartHasType S p t → place_typed S p ≡ Ok t
  start-so S root t h = ap Ok h
  start-so S here t h = ap Ok h
  start-so S (from base) t h =
      after-value (after (typing S base) (wanted true (offset_of base))) _ h.0 (after-value (typing S base) (wanted true (offset_of base)) h.0 (typed-so S base h.0 h.1) ∙ wanted-is true (offset_of base) h.0 h.2) ∙ ap Ok h.3

  steps-so : (S : Scope) (ss : Steps) (ts : TypedSteps) → StepsHaveTypes S ss ts → steps_typed S ss ≡ Ok ts
  steps-so S no_steps ts h = ap Ok h
  steps-so S (step offset axis node_test test_offset predicates rest) ts h =
      after-value (axis_of axis offset) _ h.0 (axis-so axis offset h.0 h.4) ∙ after-value (resolved S node_test test_offset) _ h.1 (test-so S node_test test_offset h.1 h.5) ∙ after-value (all_typed S false predicates) _ h.2 (all-so S false predicates h.2 h.6)
      ∙ after-value (steps_typed S rest) _ h.3 (steps-so S rest h.3 h.7) ∙ ap Ok h.8

  operands-so : (S : Scope) (level : Level) (os : Operands) (ts : TypedTrees) → OperandsHaveTypes S level os ts → operands_typed S level os ≡ Ok ts
  operands-so S level no_operands ts h = ap Ok h
  operands-so S level (operand o at e rest) ts h =
      after-value (joined_typed S level o at e) _ h.0
      (joins-so (joins level o) o at (after (typing S e) (wanted (joins_nodes level) (offset_of e))) h.0 h.2
      (after-value (typing S e) (wanted (joins_nodes level) (offset_of e)) h.0 (typed-so S e h.0 h.3) ∙ wanted-is (joins_nodes level) (offset_of e) h.0 h.4))
      ∙ after-value (operands_typed S level rest) _ h.1 (operands-so S level rest h.1 h.5) ∙ ap Ok h.6

  comparands-so : (S : Scope) (level : Level) (os : Operands) (cs : Comparands) → ComparandsHaveTypes S level os cs → comparands_typed S level os ≡ Ok cs
  comparands-so S level no_operands cs h = ap Ok h
  comparands-so S level (operand o at e rest) cs h =
      after-value (or_refused (comparison_of level o) o at) _ h.0 (refused-so (comparison_of level o) o at h.0 h.3) ∙ after-value (typing S e) _ h.1 (typed-so S e h.1 h.4)
      ∙ after-value (comparands_typed S level rest) _ h.2 (comparands-so S level rest h.2 h.5) ∙ ap Ok h.6

  combinands-so : (S : Scope) (level : Level) (os : Operands) (cs : Combinands) → CombinandsHaveTypes S level os cs → combinands_typed S level os ≡ Ok cs
  combinands-so S level no_operands cs h = ap Ok h
  combinands-so S level (operand o at e rest) cs h =
      after-value (or_refused (arithmetic_of level o) o at) _ h.0 (refused-so (arithmetic_of level o) o at h.0 h.3) ∙ after-value (typing S e) _ h.1 (typed-so S e h.1 h.4)
      ∙ after-value (combinands_typed S level rest) _ h.2 (combinands-so S level rest h.2 h.5) ∙ ap Ok h.6

  pub all-so : (S : Scope) (nodes : Bool) (es : Trees) (ts : TypedTrees) → AllHaveTypes S nodes es ts → all_typed S nodes es ≡ Ok ts
  all-so S nodes no_trees ts h = ap Ok h
  all-so S nodes (tree e es) ts h =
      after-value (after (typing S e) (wanted nodes (offset_of e))) _ h.0 (after-value (typing S e) (wanted nodes (offset_of e)) h.0 (typed-so S e h.0 h.2) ∙ wanted-is nodes (offset_of e) h.0 h.3)
      ∙ after-value (all_typed S nodes es) _ h.1 (all-so S nodes es h.1 h.4) ∙ ap Ok h.5
