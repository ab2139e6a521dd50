-- What derives drives the machine over all its tokens.
use Rattle.std.proofs.Common.{◌≡◌, ℕ, suc, ◌+◌, ◌≤◌, Bool, true, false, List, ◌∷◌, length, refl, ◌∙◌, ap, arith}
use Rattle.xp_tree.specs.Tree.{Tree, Steps, Operands, Trees}
use Rattle.xp_tree.specs.declared.terms.Level.{Level}
use Rattle.xp_tree.specs.declared.terms.Operator.TheVariants as operator
use Rattle.xp_tree.specs.declared.terms.AxisName.{AxisName}
use Rattle.xp_tree.specs.declared.terms.StepTest.{StepTest}
use Rattle.xp_grammar.specs.declared.token.Placed.{Placed}
use Rattle.xp_grammar.specs.declared.token.NodeType.TheVariants as node_type
use Rattle.xp_grammar.specs.declared.token.Token.TheVariants as token
use Rattle.xp_grammar.specs.Grammar.{IsSigns, no_sign, sign, IsAxis, no_axis, at_sign, named_axis, IsTest, star_test, prefix_test, named_test, typed_test, target_test, IsChain, chained, IsOperand, tighter_chain, signed, one_path, IsOperands, no_more, one_more, IsPath, root_alone, from_root, from_anywhere, from_here, from_filter, IsSteps, dot_step, parent_step, tested_step, IsMoreSteps, no_more_steps, slash_steps, double_slash_steps, IsPredicates, no_predicate, predicate, IsFilter, filter, IsPrimary, a_variable, a_literal, a_number, in_parens, a_call, IsArguments, no_argument, arguments, IsMoreArguments, no_more_arguments, one_more_argument}
use Rattle.xp_grammar.specs.inner.Machine.{Bracket, in_paren, in_predicate, in_arguments, Ending, full, bare, at_root, Mode, want, need_step, need_colons, need_test, type_open, type_inner, type_close, function_open, after, moves, turn, load, halt, signs_after, start}
use Rattle.xp_grammar.proofs.Steps.{step_on, same_start, operator_start, after_operator, after_paren, after_bracket, after_comma, TakesTests, TakesSteps, test_takes, step_takes, root_takes, want_takes}

-- the machine goes over an operand, up to u
abbrev pub Passes : ℕ → Mode → List Bracket → List Placed → List Placed → Type 0
Passes limit m k s u = (e : Ending) × (halt limit m k s ≡ halt limit (after e) k u)

-- a slash may follow
pub record TakesSlash (e : Ending) : Type 0 where
  pub slash : (k : List Bracket) → turn (after e) k token.Slash ≡ moves need_step k
  pub double_slash : (k : List Bracket) → turn (after e) k token.DoubleSlash ≡ moves need_step k

pub full_slash : TakesSlash full
full_slash = record { slash = λ k. refl; double_slash = λ k. refl }

pub bare_slash : TakesSlash bare
bare_slash = record { slash = λ k. refl; double_slash = λ k. refl }

pub plus_zero : (a b : ℕ) → a ≤ b → a + 0 ≤ b
plus_zero a b h = omega (arith, h)

-- the machine goes over signs
pub record Signs (limit j i : ℕ) (c : Bool) (k : List Bracket) (s m : List Placed) : Type 0 where
  pub count : ℕ
  pub closes : Bool
  pub adds : count ≡ j + i
  pub kept : closes ≡ true → (c ≡ true) × (m ≡ s)
  pub halts : halt limit (want true j c) k s ≡ halt limit (want true count closes) k m

pub drive_signs : (limit : ℕ) {i : ℕ} {s m : List Placed} → IsSigns i s m →
    (j : ℕ) (c : Bool) (k : List Bracket) → length k + j + i ≤ limit → Signs limit j i c k s m
unfolding load
drive_signs limit (no_sign s) j c k room = record { count = j; closes = c; adds = omega arith; kept = λ h. (h, refl); halts = refl }
drive_signs limit (sign i p s u is more) j c k room =
    let here : length k + suc j ≤ limit = omega (arith, room) in
    let there : length k + suc j + i ≤ limit = omega (arith, room) in
    let r = drive_signs limit more (suc j) false k there in
    record {
      count = r.count;
      closes = r.closes;
      adds = r.adds ∙ (omega arith);
      kept = λ h. let no_way : false ≡ true = (r.kept h).0 in absurd (cc);
      halts = step_on limit (want true j c) k p s (record { mode = want true (suc j) false; stack = k }) (token.Operator operator.Minus) is refl here ∙ r.halts;
    }

pub drive_axis : (limit : ℕ) {s t : List Placed} {a : AxisName} → IsAxis s t a →
    (m : Mode) → TakesSteps m → (k : List Bracket) → length k ≤ limit →
    (m' : Mode) × TakesTests m' × (halt limit m k s ≡ halt limit m' k t)
unfolding load
drive_axis limit (no_axis s) m takes k room = (m, takes.tests, refl)
drive_axis limit (at_sign p s is) m takes k room =
    (need_test, test_takes, step_on limit m k p s (record { mode = need_test; stack = k }) token.At is (takes.at_sign k) room)
drive_axis limit (named_axis p q s a is colons) m takes k room = (
  need_test,
  test_takes,
  step_on limit m k p (q ∷ s) (record { mode = need_colons; stack = k }) (token.Axis a) is (takes.axis k a) room
      ∙ step_on limit need_colons k q s (record { mode = need_test; stack = k }) token.DoubleColon colons refl room,
)

pub drive_test : (limit : ℕ) {t v : List Placed} {test : StepTest} → IsTest t v test →
    (m : Mode) → TakesTests m → (k : List Bracket) → length k ≤ limit →
    halt limit m k t ≡ halt limit (after full) k v
unfolding load
drive_test limit (star_test p s is) m takes k room = step_on limit m k p s (record { mode = after full; stack = k }) token.Star is (takes.star k) room
drive_test limit (prefix_test p s prefix is) m takes k room =
    step_on limit m k p s (record { mode = after full; stack = k }) (token.PrefixStar prefix) is (takes.prefix k prefix) room
drive_test limit (named_test p s name is) m takes k room =
    step_on limit m k p s (record { mode = after full; stack = k }) (token.Name name) is (takes.name k name) room
drive_test limit (typed_test p q r s t is opens closes) m takes k room =
    step_on limit m k p (q ∷ r ∷ s) (record { mode = type_open t; stack = k }) (token.NodeType t) is (takes.node k t) room
    ∙ step_on limit (type_open t) k q (r ∷ s) (record { mode = type_inner t; stack = k }) token.OpenParen opens refl room
    ∙ step_on limit (type_inner t) k r s (record { mode = after full; stack = k }) token.CloseParen closes refl room
drive_test limit (target_test p q l r s target is opens literal closes) m takes k room =
    step_on limit m k p (q ∷ l ∷ r ∷ s) (record { mode = type_open node_type.Pi; stack = k }) (token.NodeType node_type.Pi) is (takes.node k node_type.Pi) room
    ∙ step_on limit (type_open node_type.Pi) k q (l ∷ r ∷ s) (record { mode = type_inner node_type.Pi; stack = k }) token.OpenParen opens refl room
    ∙ step_on limit (type_inner node_type.Pi) k l (r ∷ s) (record { mode = type_close; stack = k }) (token.Literal target) literal refl room
    ∙ step_on limit type_close k r s (record { mode = after full; stack = k }) token.CloseParen closes refl room

mutual
  unfolding load

  pub drive_chain : (limit : ℕ) {n : Level} {d : ℕ} {s u : List Placed} {x : Tree} → IsChain limit n d s u x →
      (b : Bool) (j : ℕ) (c : Bool) (k : List Bracket) → length k ≡ d → length k ≤ limit →
      Passes limit (start n b j c) k s u
  drive_chain limit (chained n d s m u first rest D T) b j c k deep room =
      let (e, to) = drive_operand limit D b j c k deep room in
      let (f, on) = drive_operands limit T e k deep room in
      (f, to ∙ on)

  pub drive_operand : (limit : ℕ) {n : Level} {d : ℕ} {s u : List Placed} {x : Tree} → IsOperand limit n d s u x →
      (b : Bool) (j : ℕ) (c : Bool) (k : List Bracket) → length k ≡ d → length k ≤ limit →
      Passes limit (start n b j c) k s u
  drive_operand limit (tighter_chain n inner d s u x is D) b j c k deep room =
      let (e, to) = drive_chain limit D b j c k deep room in
      (e, ap (λ m. halt limit m k s) (same_start n inner b j c is) ∙ to)
  drive_operand limit (signed d count s m u x S fits D) b j c k deep room =
      let here : length k + 0 + count ≤ limit = omega (arith, fits, deep) in
      let over = drive_signs limit S 0 c k here in
      let (e, to) = drive_chain limit D true over.count over.closes k deep room in
      (e, over.halts ∙ to)
  drive_operand limit (one_path d s u x D) b j c k deep room = drive_path limit D b j c k deep room

  pub drive_operands : (limit : ℕ) {n : Level} {d : ℕ} {s u : List Placed} {x : Operands} → IsOperands limit n d s u x →
      (e : Ending) (k : List Bracket) → length k ≡ d → length k ≤ limit → Passes limit (after e) k s u
  drive_operands limit (no_more n d s) e k deep room = (e, refl)
  drive_operands limit (one_more n d p s m u o x rest is at_level D T) e k deep room =
      let (f, to) = drive_operand limit D (signs_after o) 0 false k deep room in
      let (g, on) = drive_operands limit T f k deep room in (
        g,
        step_on limit (after e) k p s (record { mode = want (signs_after o) 0 false; stack = k }) (token.Operator o) is (after_operator e k o) (plus_zero _ _ room)
            ∙ ap (λ m. halt limit m k s) (operator_start o ∙ ap (λ n. start n (signs_after o) 0 false) at_level)
            ∙ to ∙ on,
      )

  pub drive_path : (limit : ℕ) {d : ℕ} {s u : List Placed} {x : Tree} → IsPath limit d s u x →
      (b : Bool) (j : ℕ) (c : Bool) (k : List Bracket) → length k ≡ d → length k ≤ limit →
      Passes limit (want b j c) k s u
  drive_path limit (root_alone d p s is) b j c k deep room =
      (at_root, step_on limit (want b j c) k p s (record { mode = after at_root; stack = k }) token.Slash is refl room)
  drive_path limit (from_root d p s u steps is D) b j c k deep room =
      let (e, on) = drive_steps limit D (after at_root) root_takes k deep room in
      (e, step_on limit (want b j c) k p s (record { mode = after at_root; stack = k }) token.Slash is refl room ∙ on)
  drive_path limit (from_anywhere d p s u steps is D) b j c k deep room =
      let (e, on) = drive_steps limit D need_step step_takes k deep room in
      (e, step_on limit (want b j c) k p s (record { mode = need_step; stack = k }) token.DoubleSlash is refl room ∙ on)
  drive_path limit (from_here d s u steps D) b j c k deep room = drive_steps limit D (want b j c) (want_takes b j c) k deep room
  drive_path limit (from_filter d s m u x steps D T) b j c k deep room =
      let (e, on) = drive_more_steps limit T full full_slash k deep room in
      (e, drive_filter limit D b j c k deep room ∙ on)

  pub drive_steps : (limit : ℕ) {d : ℕ} {s u : List Placed} {x : Steps} → IsSteps limit d s u x →
      (m : Mode) → TakesSteps m → (k : List Bracket) → length k ≡ d → length k ≤ limit → Passes limit m k s u
  drive_steps limit (dot_step d p s u rest is T) m takes k deep room =
      let (e, on) = drive_more_steps limit T bare bare_slash k deep room in
      (e, step_on limit m k p s (record { mode = after bare; stack = k }) token.Dot is (takes.dot k) room ∙ on)
  drive_steps limit (parent_step d p s u rest is T) m takes k deep room =
      let (e, on) = drive_more_steps limit T bare bare_slash k deep room in
      (e, step_on limit m k p s (record { mode = after bare; stack = k }) token.DoubleDot is (takes.parent k) room ∙ on)
  drive_steps limit (tested_step d s t v w u a q ps rest A Q P T) m takes k deep room =
      let (m', tests, to) = drive_axis limit A m takes k room in
      let (e, on) = drive_more_steps limit T full full_slash k deep room in
      (e, to ∙ drive_test limit Q m' tests k room ∙ drive_predicates limit P k deep room ∙ on)

  pub drive_more_steps : (limit : ℕ) {d : ℕ} {s u : List Placed} {x : Steps} → IsMoreSteps limit d s u x →
      (e : Ending) → TakesSlash e → (k : List Bracket) → length k ≡ d → length k ≤ limit → Passes limit (after e) k s u
  drive_more_steps limit (no_more_steps d s) e takes k deep room = (e, refl)
  drive_more_steps limit (slash_steps d p s u steps is D) e takes k deep room =
      let (f, on) = drive_steps limit D need_step step_takes k deep room in
      (f, step_on limit (after e) k p s (record { mode = need_step; stack = k }) token.Slash is (takes.slash k) room ∙ on)
  drive_more_steps limit (double_slash_steps d p s u steps is D) e takes k deep room =
      let (f, on) = drive_steps limit D need_step step_takes k deep room in
      (f, step_on limit (after e) k p s (record { mode = need_step; stack = k }) token.DoubleSlash is (takes.double_slash k) room ∙ on)

  pub drive_predicates : (limit : ℕ) {d : ℕ} {s u : List Placed} {x : Trees} → IsPredicates limit d s u x →
      (k : List Bracket) → length k ≡ d → length k ≤ limit → halt limit (after full) k s ≡ halt limit (after full) k u
  drive_predicates limit (no_predicate d s) k deep room = refl
  drive_predicates limit (predicate d p q s m u x rest is fits D closes T) k deep room =
      let inner : suc (length k) ≤ limit = omega (arith, fits, deep) in
      let (e, to) = drive_chain limit D true 0 false (in_predicate ∷ k) (ap suc deep) inner in
      step_on limit (after full) k p s (record { mode = want true 0 false; stack = in_predicate ∷ k }) token.OpenBracket is refl (plus_zero _ _ inner)
      ∙ to ∙ step_on limit (after e) (in_predicate ∷ k) q m (record { mode = after full; stack = k }) token.CloseBracket closes (after_bracket e (in_predicate ∷ k)) room
      ∙ drive_predicates limit T k deep room

  pub drive_filter : (limit : ℕ) {d : ℕ} {s u : List Placed} {x : Tree} → IsFilter limit d s u x →
      (b : Bool) (j : ℕ) (c : Bool) (k : List Bracket) → length k ≡ d → length k ≤ limit →
      halt limit (want b j c) k s ≡ halt limit (after full) k u
  drive_filter limit (filter d s m u x ps D P) b j c k deep room =
      drive_primary limit D b j c k deep room ∙ drive_predicates limit P k deep room

  pub drive_primary : (limit : ℕ) {d : ℕ} {s u : List Placed} {x : Tree} → IsPrimary limit d s u x →
      (b : Bool) (j : ℕ) (c : Bool) (k : List Bracket) → length k ≡ d → length k ≤ limit →
      halt limit (want b j c) k s ≡ halt limit (after full) k u
  drive_primary limit (a_variable d p s name is) b j c k deep room =
      step_on limit (want b j c) k p s (record { mode = after full; stack = k }) (token.Variable name) is refl room
  drive_primary limit (a_literal d p s value is) b j c k deep room =
      step_on limit (want b j c) k p s (record { mode = after full; stack = k }) (token.Literal value) is refl room
  drive_primary limit (a_number d p s digits is) b j c k deep room =
      step_on limit (want b j c) k p s (record { mode = after full; stack = k }) (token.Number digits) is refl room
  drive_primary limit (in_parens d p q s u x is fits D closes) b j c k deep room =
      let inner : suc (length k) ≤ limit = omega (arith, fits, deep) in
      let (e, to) = drive_chain limit D true 0 false (in_paren ∷ k) (ap suc deep) inner in
      step_on limit (want b j c) k p s (record { mode = want true 0 false; stack = in_paren ∷ k }) token.OpenParen is refl (plus_zero _ _ inner)
      ∙ to ∙ step_on limit (after e) (in_paren ∷ k) q u (record { mode = after full; stack = k }) token.CloseParen closes (after_paren e (in_paren ∷ k)) room
  drive_primary limit (a_call d p q r s u name args is opens fits D closes) b j c k deep room =
      let inner : suc (length k) ≤ limit = omega (arith, fits, deep) in
      step_on limit (want b j c) k p (q ∷ s) (record { mode = function_open; stack = k }) (token.Function name) is refl inner
      ∙ step_on limit function_open k q s (record { mode = want true 0 true; stack = in_arguments ∷ k }) token.OpenParen opens refl (plus_zero _ _ inner)
      ∙ drive_arguments limit D k (ap suc deep) inner r u refl closes

  pub drive_arguments : (limit : ℕ) {d : ℕ} {s m : List Placed} {x : Trees} → IsArguments limit d s m x →
      (k : List Bracket) → suc (length k) ≡ d → suc (length k) ≤ limit → (r : Placed) (u : List Placed) → m ≡ r ∷ u →
      r.token ≡ token.CloseParen → halt limit (want true 0 true) (in_arguments ∷ k) s ≡ halt limit (after full) k u
  drive_arguments limit (no_argument d s) k deep room r u ends closes =
      let here : length k ≤ limit = omega (arith, room) in
      ap (halt limit (want true 0 true) (in_arguments ∷ k)) ends
      ∙ step_on limit (want true 0 true) (in_arguments ∷ k) r u (record { mode = after full; stack = k }) token.CloseParen closes refl here
  drive_arguments limit (arguments d s m v x rest D T) k deep room r u ends closes =
      let here : length k ≤ limit = omega (arith, room) in
      let (e, to) = drive_chain limit D true 0 true (in_arguments ∷ k) deep room in
      let (f, on) = drive_more_arguments limit T e k deep room in
      to ∙ on ∙ ap (halt limit (after f) (in_arguments ∷ k)) ends
      ∙ step_on limit (after f) (in_arguments ∷ k) r u (record { mode = after full; stack = k }) token.CloseParen closes (after_paren f (in_arguments ∷ k)) here

  pub drive_more_arguments : (limit : ℕ) {d : ℕ} {s u : List Placed} {x : Trees} → IsMoreArguments limit d s u x →
      (e : Ending) (k : List Bracket) → suc (length k) ≡ d → suc (length k) ≤ limit → Passes limit (after e) (in_arguments ∷ k) s u
  drive_more_arguments limit (no_more_arguments d s) e k deep room = (e, refl)
  drive_more_arguments limit (one_more_argument d p s m u x rest is D T) e k deep room =
      let (f, to) = drive_chain limit D true 0 false (in_arguments ∷ k) deep room in
      let (g, on) = drive_more_arguments limit T f k deep room in (
        g,
        step_on limit (after e) (in_arguments ∷ k) p s (record { mode = want true 0 false; stack = in_arguments ∷ k }) token.Comma is (after_comma e (in_arguments ∷ k)) (plus_zero _ _ room)
            ∙ to ∙ on,
      )
