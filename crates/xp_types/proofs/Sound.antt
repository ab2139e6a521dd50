-- What typing gives is well typed.
use Rattle.std.specs.Prelude.{codes, ◌==◌}
use Rattle.std.specs.List.{list_any}
use Rattle.xp_types.specs.declared.faults.TypeKind.TheVariants as kinds
use Rattle.std.proofs.Common.{◌≡◌, ◌≤◌, ℕ, suc, Bool, true, false, cond, Ok, Err, Option, Some, None, List, [], ◌∷◌, nat_le, pos, ◌≤ℤ◌, refl, sym, ap, ◌∙◌, subst, arith}
use Rattle.std.proofs.lemmas.Int.{ints}
use Rattle.std.proofs.lemmas.Bool.Decides.{nat_tests}
use Rattle.xp_tree.specs.declared.terms.Level.{Level}
use Rattle.xp_tree.specs.declared.terms.Level.TheVariants as levels
use Rattle.xp_tree.specs.declared.terms.Operator.{Operator}
use Rattle.xp_tree.specs.Tree.{Tree, PathStart, Steps, Operands, Trees, chain, negated, path, filtered, variable, literal, number, call, root, here, from, no_steps, step, no_operands, operand, no_trees, tree, offset_of}
use Rattle.xp_tree.specs.PatternTree.{PathTree, StepTree}
use Rattle.xp_tree.specs.declared.numbers.TheConstants.{MAX_WHOLE}
use Rattle.xp_tree.specs.Decimals.{decimal_value}
use Rattle.xp_typed_tree.specs.declared.value_type.ValueType.{ValueType}
use Rattle.xp_typed_tree.specs.declared.value_type.ValueType.TheVariants as types
use Rattle.xp_typed_tree.specs.declared.function.Function.{Function}
use Rattle.xp_typed_tree.specs.TypedTree.{TypedTree, TypedPlace, TypedSteps, Comparands, Combinands, TypedTrees, TypedPatternStepTree, TypedPathTree, slot, whole, no_typed, no_comparands, comparand}
use Rattle.xp_typed_tree.specs.WellTyped.{type_of, takes, wants_nodes, may_call, count_of, is_pattern_axis, IsWanted, WellTyped, PlaceTyped, StepsTyped, ComparandsTyped, CombinandsTyped, AllTyped, PatternStepsTyped, PathsTyped}
use Rattle.xp_types.specs.declared.env.Variable.{Variable}
use Rattle.xp_types.specs.Scope.{Scope, variable_of}
use Rattle.xp_types.specs.FunctionNames.{function_named, is_left_out}
use Rattle.xp_types.specs.inner.Checked.{Checked, after}
use Rattle.xp_types.specs.Terms.{compared_with, number_of_trees, has_point, pattern_axis, joins, joins_nodes, comparison_of, arithmetic_of}
use Rattle.xp_types.specs.inner.Typing.{typing, wanted, node_set_at, all_typed, operands_typed, comparands_typed, combinands_typed, steps_typed, place_typed, called, function_called, variable_typed, axis_of, resolved, pattern_start, pattern_steps_typed, pattern_typing, or_refused, if_joins, joined_typed}

-- a chain of checks gave a value: its parts did
pub record Went {A B : Type 0} (m : Checked A) (f : A → Checked B) (b : B) : Type 0 where
  pub value : A
  pub had : m ≡ Ok value
  pub next : f value ≡ Ok b

pub went : {A B : Type 0} (m : Checked A) (f : A → Checked B) (b : B) → after m f ≡ Ok b → Went m f b
unfolding after
went (Ok a) f b h = record { value = a; had = refl; next = h }
went (Err e) f b h = absurd (cc)

pub same : {A : Type 0} (a b : A) → ◌≡◌ {A = Checked A} (Ok a) (Ok b) → a ≡ b
same a b h = cc

joined-value : {A : Type 0} (b : Bool) (operator : Operator) (offset : ℕ) (m : Checked A) (a : A) → if_joins b operator offset m ≡ Ok a → m ≡ Ok a
joined-value true operator offset m a h = h
joined-value false operator offset m a h = absurd (cc)

pub record Wanted (nodes : Bool) (u t : TypedTree) : Type 0 where
  pub is : u ≡ t
  pub kind : IsWanted nodes t

node_set-sound : (k : ValueType) (offset : ℕ) (u t : TypedTree) → type_of u ≡ k → node_set_at k offset u ≡ Ok t → Wanted true u t
node_set-sound types.NodeSet offset u t k h = let e = same u t h in record { is = e; kind = ap type_of (sym e) ∙ k }
node_set-sound types.Truth offset u t k h = absurd (cc)
node_set-sound types.Number offset u t k h = absurd (cc)
node_set-sound types.Chars offset u t k h = absurd (cc)

pub wanted-sound : (nodes : Bool) (offset : ℕ) (u t : TypedTree) → wanted nodes offset u ≡ Ok t → Wanted nodes u t
wanted-sound true offset u t h = node_set-sound (type_of u) offset u t refl h
wanted-sound false offset u t h = record { is = same u t h; kind = tt }

number-sound : (p : Bool) (offset value : ℕ) (fits : Bool) (t : TypedTree) → nat_le value MAX_WHOLE ≡ fits →
    ◌≡◌ {A = Checked TypedTree} (cond fits (Ok (whole (pos value))) (Err (record { kind = kinds.NumberTooLarge; offset = offset }))) (Ok t) → WellTyped p t
number-sound p offset value true t fits h =
    let small : value ≤ MAX_WHOLE = grind (arith, nat_tests) in
    let low : pos 0 ≤ℤ pos value = omega (arith, ints) in
    let high : pos value ≤ℤ pos MAX_WHOLE = omega (arith, ints) in
    subst (WellTyped p) (same (whole (pos value)) t h) (low, high)
number-sound p offset value false t fits h = absurd (cc)

point-sound : (p : Bool) (digits : List ℕ) (offset : ℕ) (point : Bool) (t : TypedTree) →
    ◌≡◌ {A = Checked TypedTree} (cond point (Err (record { kind = kinds.Refused (codes "fraction"); offset = offset }))
    (cond (nat_le (decimal_value digits) MAX_WHOLE) (Ok (whole (pos (decimal_value digits)))) (Err (record { kind = kinds.NumberTooLarge; offset = offset })))) (Ok t) → WellTyped p t
point-sound p digits offset true t h = absurd (cc)
point-sound p digits offset false t h = number-sound p offset (decimal_value digits) (nat_le (decimal_value digits) MAX_WHOLE) t refl h

compared-sound : (p : Bool) (t : TypedTree) (cs : Comparands) → WellTyped p t → ComparandsTyped p cs → WellTyped p (compared_with t cs)
compared-sound p t no_comparands first rest = first
compared-sound p t (comparand operator u cs) first rest = (tt, first, rest)

variable-sound : (p : Bool) (v : Option Variable) (offset : ℕ) (t : TypedTree) → variable_typed v offset ≡ Ok t → WellTyped p t
variable-sound p (Some v) offset t h = subst (WellTyped p) (same (slot v.slot v.ty) t h) tt
variable-sound p None offset t h = absurd (cc)

record MayCall (p : Bool) (count : ℕ) (f : Function) : Type 0 where
  allowed : may_call p f ≡ true
  taken : takes f count ≡ true

called-sound : (p : Bool) (name : List ℕ) (offset count : ℕ) (f g : Function) (allowed taken : Bool) → may_call p f ≡ allowed → takes f count ≡ taken →
    ◌≡◌ {A = Checked Function} (cond allowed (cond taken (Ok f) (Err (record { kind = kinds.Arity; offset = offset }))) (Err (record { kind = kinds.Refused name; offset = offset }))) (Ok g) → MayCall p count g
called-sound p name offset count f g true true a k h = subst (MayCall p count) (same f g h) (record { allowed = a; taken = k })
called-sound p name offset count f g true false a k h = absurd (cc)
called-sound p name offset count f g false taken a k h = absurd (cc)

left_out-sound : (left : Bool) (name : List ℕ) (offset : ℕ) (g : Function) →
    ◌≡◌ {A = Checked Function} (cond left (Err (record { kind = kinds.Refused name; offset = offset })) (Err (record { kind = kinds.UnknownFunction; offset = offset }))) (Ok g) → ⊥
left_out-sound true name offset g h = cc
left_out-sound false name offset g h = cc

function-sound : (S : Scope) (name : List ℕ) (offset count : ℕ) (o : Option Function) (g : Function) → function_called S name offset count o ≡ Ok g → MayCall S.in_pattern count g
function-sound S name offset count (Some f) g h = called-sound S.in_pattern name offset count f g (may_call S.in_pattern f) (takes f count) refl refl h
function-sound S name offset count None g h = absurd (left_out-sound (is_left_out name) name offset g h)

prefix-sound : (S : Scope) (name : List ℕ) (offset count : ℕ) (prefixed : Bool) (g : Function) →
    ◌≡◌ {A = Checked Function} (cond prefixed (Err (record { kind = kinds.Refused name; offset = offset })) (function_called S name offset count (function_named name))) (Ok g) → MayCall S.in_pattern count g
prefix-sound S name offset count true g h = absurd (cc)
prefix-sound S name offset count false g h = function-sound S name offset count (function_named name) g h

-- a list keeps its length
counted : (S : Scope) (nodes : Bool) (es : Trees) (ts : TypedTrees) → all_typed S nodes es ≡ Ok ts → count_of ts ≡ number_of_trees es
counted S nodes no_trees ts h = ap count_of (sym (same no_typed ts h))
counted S nodes (tree e es) ts h =
    let a = went (after (typing S e) (wanted nodes (offset_of e))) _ ts h in
    let b = went (all_typed S nodes es) _ ts a.next in
    ap count_of (sym (same _ ts b.next)) ∙ ap suc (counted S nodes es b.value b.had)

mutual
  pub typing-sound : (S : Scope) (e : Tree) (t : TypedTree) → typing S e ≡ Ok t → WellTyped S.in_pattern t
  typing-sound S (chain levels.Or offset first rest) t h =
      let a = went (typing S first) _ t h in
      let b = went (operands_typed S levels.Or rest) _ t a.next in
      subst (WellTyped S.in_pattern) (same _ t b.next) (typing-sound S first a.value a.had, tt, operands-sound S levels.Or rest b.value b.had)
  typing-sound S (chain levels.And offset first rest) t h =
      let a = went (typing S first) _ t h in
      let b = went (operands_typed S levels.And rest) _ t a.next in
      subst (WellTyped S.in_pattern) (same _ t b.next) (typing-sound S first a.value a.had, tt, operands-sound S levels.And rest b.value b.had)
  typing-sound S (chain levels.Equal offset first rest) t h =
      let a = went (typing S first) _ t h in
      let b = went (comparands_typed S levels.Equal rest) _ t a.next in
      subst (WellTyped S.in_pattern) (same _ t b.next) (compared-sound S.in_pattern a.value b.value (typing-sound S first a.value a.had) (comparands-sound S levels.Equal rest b.value b.had))
  typing-sound S (chain levels.Rel offset first rest) t h =
      let a = went (typing S first) _ t h in
      let b = went (comparands_typed S levels.Rel rest) _ t a.next in
      subst (WellTyped S.in_pattern) (same _ t b.next) (compared-sound S.in_pattern a.value b.value (typing-sound S first a.value a.had) (comparands-sound S levels.Rel rest b.value b.had))
  typing-sound S (chain levels.Sum offset first rest) t h =
      let a = went (typing S first) _ t h in
      let b = went (combinands_typed S levels.Sum rest) _ t a.next in
      subst (WellTyped S.in_pattern) (same _ t b.next) (typing-sound S first a.value a.had, combinands-sound S levels.Sum rest b.value b.had)
  typing-sound S (chain levels.Prod offset first rest) t h =
      let a = went (typing S first) _ t h in
      let b = went (combinands_typed S levels.Prod rest) _ t a.next in
      subst (WellTyped S.in_pattern) (same _ t b.next) (typing-sound S first a.value a.had, combinands-sound S levels.Prod rest b.value b.had)
  typing-sound S (chain levels.Union offset first rest) t h =
      let a = went (after (typing S first) (wanted true (offset_of first))) _ t h in
      let b = went (operands_typed S levels.Union rest) _ t a.next in
      let k = went (typing S first) _ a.value a.had in
      let w = wanted-sound true (offset_of first) k.value a.value k.next in
      subst (WellTyped S.in_pattern) (same _ t b.next) (subst (WellTyped S.in_pattern) w.is (typing-sound S first k.value k.had), w.kind, operands-sound S levels.Union rest b.value b.had)
  typing-sound S (negated offset count e) t h =
      let a = went (typing S e) _ t h in subst (WellTyped S.in_pattern) (same _ t a.next) (typing-sound S e a.value a.had)
  typing-sound S (path offset start steps) t h =
      let a = went (place_typed S start) _ t h in
      let b = went (steps_typed S steps) _ t a.next in
      subst (WellTyped S.in_pattern) (same _ t b.next) (place-sound S start a.value a.had, steps-sound S steps b.value b.had)
  typing-sound S (filtered offset base predicates) t h =
      let a = went (after (typing S base) (wanted true (offset_of base))) _ t h in
      let b = went (all_typed S false predicates) _ t a.next in
      let k = went (typing S base) _ a.value a.had in
      let w = wanted-sound true (offset_of base) k.value a.value k.next in
      subst (WellTyped S.in_pattern) (same _ t b.next) (subst (WellTyped S.in_pattern) w.is (typing-sound S base k.value k.had), w.kind, all-sound S false predicates b.value b.had)
  typing-sound S (variable offset name) t h = variable-sound S.in_pattern (variable_of S.variables name) offset t h
  typing-sound S (literal offset value) t h = subst (WellTyped S.in_pattern) (same _ t h) tt
  typing-sound S (number offset digits) t h = point-sound S.in_pattern digits offset (has_point digits) t h
  typing-sound S (call offset name args) t h =
      let a = went (called S name offset (number_of_trees args)) _ t h in
      let b = went (all_typed S (wants_nodes a.value) args) _ t a.next in
      let k = prefix-sound S name offset (number_of_trees args) (list_any (λ c. c == 58) name) a.value a.had in
      subst (WellTyped S.in_pattern) (same _ t b.next)
      (k.allowed, subst (λ n. takes a.value n ≡ true) (sym (counted S (wants_nodes a.value) args b.value b.had)) k.taken, all-sound S (wants_nodes a.value) args b.value b.had)

  place-sound : (S : Scope) (p : PathStart) (t : TypedPlace) → place_typed S p ≡ Ok t → PlaceTyped S.in_pattern t
  place-sound S root t h = subst (PlaceTyped S.in_pattern) (same _ t h) tt
  place-sound S here t h = subst (PlaceTyped S.in_pattern) (same _ t h) tt
  place-sound S (from base) t h =
      let a = went (after (typing S base) (wanted true (offset_of base))) _ t h in
      let k = went (typing S base) _ a.value a.had in
      let w = wanted-sound true (offset_of base) k.value a.value k.next in
      subst (PlaceTyped S.in_pattern) (same _ t a.next) (subst (WellTyped S.in_pattern) w.is (typing-sound S base k.value k.had), w.kind)

  steps-sound : (S : Scope) (ss : Steps) (ts : TypedSteps) → steps_typed S ss ≡ Ok ts → StepsTyped S.in_pattern ts
  steps-sound S no_steps ts h = subst (StepsTyped S.in_pattern) (same _ ts h) tt
  steps-sound S (step offset axis test test_offset predicates rest) ts h =
      let a = went (axis_of axis offset) _ ts h in
      let b = went (resolved S test test_offset) _ ts a.next in
      let k = went (all_typed S false predicates) _ ts b.next in
      let l = went (steps_typed S rest) _ ts k.next in
      subst (StepsTyped S.in_pattern) (same _ ts l.next) (all-sound S false predicates k.value k.had, steps-sound S rest l.value l.had)

  operands-sound : (S : Scope) (level : Level) (os : Operands) (ts : TypedTrees) → operands_typed S level os ≡ Ok ts → AllTyped S.in_pattern (joins_nodes level) ts
  operands-sound S level no_operands ts h = subst (AllTyped S.in_pattern (joins_nodes level)) (same _ ts h) tt
  operands-sound S level (operand o at e rest) ts h =
      let a = went (joined_typed S level o at e) _ ts h in
      let b = went (operands_typed S level rest) _ ts a.next in
      let k = went (typing S e) _ a.value (joined-value (joins level o) o at _ a.value a.had) in
      let w = wanted-sound (joins_nodes level) (offset_of e) k.value a.value k.next in
      subst (AllTyped S.in_pattern (joins_nodes level)) (same _ ts b.next) (subst (WellTyped S.in_pattern) w.is (typing-sound S e k.value k.had), w.kind, operands-sound S level rest b.value b.had)

  comparands-sound : (S : Scope) (level : Level) (os : Operands) (cs : Comparands) → comparands_typed S level os ≡ Ok cs → ComparandsTyped S.in_pattern cs
  comparands-sound S level no_operands cs h = subst (ComparandsTyped S.in_pattern) (same _ cs h) tt
  comparands-sound S level (operand o at e rest) cs h =
      let k = went (or_refused (comparison_of level o) o at) _ cs h in
      let a = went (typing S e) _ cs k.next in
      let b = went (comparands_typed S level rest) _ cs a.next in
      subst (ComparandsTyped S.in_pattern) (same _ cs b.next) (typing-sound S e a.value a.had, comparands-sound S level rest b.value b.had)

  combinands-sound : (S : Scope) (level : Level) (os : Operands) (cs : Combinands) → combinands_typed S level os ≡ Ok cs → CombinandsTyped S.in_pattern cs
  combinands-sound S level no_operands cs h = subst (CombinandsTyped S.in_pattern) (same _ cs h) tt
  combinands-sound S level (operand o at e rest) cs h =
      let k = went (or_refused (arithmetic_of level o) o at) _ cs h in
      let a = went (typing S e) _ cs k.next in
      let b = went (combinands_typed S level rest) _ cs a.next in
      subst (CombinandsTyped S.in_pattern) (same _ cs b.next) (typing-sound S e a.value a.had, combinands-sound S level rest b.value b.had)

  pub all-sound : (S : Scope) (nodes : Bool) (es : Trees) (ts : TypedTrees) → all_typed S nodes es ≡ Ok ts → AllTyped S.in_pattern nodes ts
  all-sound S nodes no_trees ts h = subst (AllTyped S.in_pattern nodes) (same _ ts h) tt
  all-sound S nodes (tree e es) ts h =
      let a = went (after (typing S e) (wanted nodes (offset_of e))) _ ts h in
      let b = went (all_typed S nodes es) _ ts a.next in
      let k = went (typing S e) _ a.value a.had in
      let w = wanted-sound nodes (offset_of e) k.value a.value k.next in
      subst (AllTyped S.in_pattern nodes) (same _ ts b.next) (subst (WellTyped S.in_pattern) w.is (typing-sound S e k.value k.had), w.kind, all-sound S nodes es b.value b.had)

pattern_axis-sound : (b : Bool) → is_pattern_axis (pattern_axis b) ≡ true
pattern_axis-sound true = refl
pattern_axis-sound false = refl

pattern_steps-sound : (S : Scope) → S.in_pattern ≡ true → (ss : List StepTree) (ts : List TypedPatternStepTree) → pattern_steps_typed S ss ≡ Ok ts → PatternStepsTyped ts
pattern_steps-sound S in_pattern [] ts h = subst PatternStepsTyped (same _ ts h) tt
pattern_steps-sound S in_pattern (s ∷ ss) ts h =
    let a = went (resolved S s.test s.test_offset) _ ts h in
    let b = went (all_typed S false s.predicates) _ ts a.next in
    let k = went (pattern_steps_typed S ss) _ ts b.next in
    subst PatternStepsTyped (same _ ts k.next)
    (pattern_axis-sound s.is_attribute, subst (λ p. AllTyped p false b.value) in_pattern (all-sound S false s.predicates b.value b.had), pattern_steps-sound S in_pattern ss k.value k.had)

pub pattern-sound : (S : Scope) → S.in_pattern ≡ true → (ps : List PathTree) (ts : List TypedPathTree) → pattern_typing S ps ≡ Ok ts → PathsTyped ts
pattern-sound S in_pattern [] ts h = subst PathsTyped (same _ ts h) tt
pattern-sound S in_pattern (p ∷ ps) ts h =
    let a = went (pattern_start p.start p.offset) _ ts h in
    let b = went (pattern_steps_typed S p.steps) _ ts a.next in
    let k = went (pattern_typing S ps) _ ts b.next in
    subst PathsTyped (same _ ts k.next) (pattern_steps-sound S in_pattern p.steps b.value b.had, pattern-sound S in_pattern ps k.value k.had)
