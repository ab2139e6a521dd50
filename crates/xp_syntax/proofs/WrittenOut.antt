-- Tokens in which abbreviations of steps are written out derive the same tree.
use Rattle.std.proofs.Common.{◌≡◌, ℕ, suc, ◌⊎◌, Bool, true, false, List, [], ◌∷◌, ◌++◌, Option, None, Some, refl, sym, ◌∙◌, ap, subst, inl, inr}
use Rattle.xp_tree.specs.Tree.{Tree, Steps, Operands, Trees, path, variable, literal, number, call, root, here, no_steps, step, operand, no_trees, tree}
use Rattle.xp_tree.specs.declared.terms.Level.{Level}
use Rattle.xp_tree.specs.declared.terms.Level.TheVariants as level
use Rattle.xp_tree.specs.declared.terms.Operator.TheVariants as operator
use Rattle.xp_tree.specs.declared.terms.AxisName.{AxisName}
use Rattle.xp_tree.specs.declared.terms.AxisName.TheVariants as axis
use Rattle.xp_tree.specs.declared.terms.StepTest.{StepTest}
use Rattle.xp_tree.specs.declared.terms.StepTest.TheVariants as test
use Rattle.xp_grammar.specs.declared.token.NodeType.TheVariants as node_type
use Rattle.xp_grammar.specs.declared.token.Placed.{Placed}
use Rattle.xp_grammar.specs.declared.token.Token.{Token}
use Rattle.xp_grammar.specs.declared.token.Token.TheVariants as token
use Rattle.xp_grammar.specs.Parts.{offset_at, joined, with_signs, with_predicates, with_steps, everywhere, type_test}
use Rattle.xp_grammar.specs.Grammar.{IsSigns, no_sign, sign, IsAxis, no_axis, at_sign, named_axis, IsTest, star_test, prefix_test, named_test, typed_test, target_test, IsChain, chained, IsOperand, tighter_chain, signed, one_path, IsOperands, no_more, one_more, IsPath, root_alone, from_root, from_anywhere, from_here, from_filter, IsSteps, dot_step, parent_step, tested_step, IsMoreSteps, no_more_steps, slash_steps, double_slash_steps, IsPredicates, no_predicate, predicate, IsFilter, filter, IsPrimary, a_variable, a_literal, a_number, in_parens, a_call, IsArguments, no_argument, arguments, IsMoreArguments, no_more_arguments, one_more_argument}
use Rattle.xp_syntax.specs.Laws.{placed_at, begins_test, ends_axis, any_node}

-- the axis of a step that names none
abbrev pub child_axis : List Token
child_axis = token.Axis axis.Child ∷ token.DoubleColon ∷ []

-- any node on an axis
abbrev any_on : AxisName → List Token → List Token
any_on a rest = token.Axis a ∷ token.DoubleColon ∷ (any_node ++ rest)

-- what `//` is short for, after its first slash
abbrev all_between : List Token
all_between = any_on axis.DescendantOrSelf (token.Slash ∷ [])

-- what a token is short for
abbrev pub long_form : Token → Option (List Token)
long_form token.At = Some (token.Axis axis.Attribute ∷ token.DoubleColon ∷ [])
long_form token.Dot = Some (any_on axis.SelfNode [])
long_form token.DoubleDot = Some (any_on axis.Parent [])
long_form token.DoubleSlash = Some (token.Slash ∷ all_between)
long_form _ = None

-- some of the abbreviations in the first tokens are written out in the second ones; whether an axis stands before them
pub data Out : Bool → List Placed → List Placed → Type 0 where
  ended : (b : Bool) → Out b [] []
  kept : (b : Bool) (p : Placed) (s t : List Placed) → Out (ends_axis p.token) s t → Out b (p ∷ s) (p ∷ t)
  written : (b : Bool) (p : Placed) (s t : List Placed) (long : List Token) → long_form p.token ≡ Some long →
      Out (ends_axis p.token) s t → Out b (p ∷ s) (placed_at p.offset long ++ t)
  child : (p : Placed) (s t : List Placed) → begins_test p.token ≡ true → Out (ends_axis p.token) s t →
      Out false (p ∷ s) (placed_at p.offset child_axis ++ (p ∷ t))

abbrev one_at : ℕ → Token → Placed
one_at offset t = record { offset = offset; token = t }

-- ---- the first token

-- what is so of either of two lists
either_way : (P : List Placed → Type 0) {t x y : List Placed} → (t ≡ x) ⊎ (t ≡ y) → P x → P y → P t
either_way P which a b = elim which [
  | inl same ↦ subst P (sym same) a
  | inr same ↦ subst P (sym same) b
]

abbrev given : Option (List Token) → List Token
given None = []
given (Some long) = long

abbrev StartsAt : ℕ → List Placed → Option (List Token) → Type 0
StartsAt offset t None = Unit {0}
StartsAt offset t (Some long) = offset_at (placed_at offset long ++ t) ≡ offset

starts_at : (offset : ℕ) (t : List Placed) (x : Token) → StartsAt offset t (long_form x)
starts_at offset t token.At = refl
starts_at offset t token.Dot = refl
starts_at offset t token.DoubleDot = refl
starts_at offset t token.DoubleSlash = refl
starts_at offset t _ = tt

same_offset : {b : Bool} {s t : List Placed} → Out b s t → offset_at s ≡ offset_at t
same_offset (ended b) = refl
same_offset (kept b p s t N) = refl
same_offset (written b p s t long short N) = sym (subst (StartsAt p.offset t) short (starts_at p.offset t p.token))
same_offset (child p s t test N) = refl

-- a token that is short for nothing and begins no node test stays
plain : {b : Bool} {p : Placed} {s t : List Placed} (x : Token) → long_form x ≡ None → begins_test x ≡ false → p.token ≡ x → Out b (p ∷ s) t →
    (left : List Placed) × (t ≡ p ∷ left) × Out (ends_axis p.token) s left
plain x whole other is (kept b _ _ t N) = (t, refl, N)
plain x whole other is (written b _ _ t long short N) =
    let bad : None ≡ Some long = sym whole ∙ ap long_form (sym is) ∙ short in absurd (cc)
plain x whole other is (child _ _ t test N) =
    let bad : false ≡ true = sym other ∙ ap begins_test (sym is) ∙ test in absurd (cc)

-- an abbreviation stays or is written out
abbreviated : {b : Bool} {p : Placed} {s t : List Placed} (x : Token) (long : List Token) → long_form x ≡ Some long → begins_test x ≡ false →
    p.token ≡ x → Out b (p ∷ s) t →
    (left : List Placed) × Out (ends_axis p.token) s left × ((t ≡ p ∷ left) ⊎ (t ≡ placed_at p.offset long ++ left))
abbreviated x long short other is (kept b _ _ t N) = (t, N, inl refl)
abbreviated {p = p} x long short other is (written b _ _ t form also N) =
    (t, N, inr (ap (λ l. placed_at p.offset l ++ t) (ap given (sym also ∙ ap long_form is ∙ short))))
abbreviated x long short other is (child _ _ t test N) =
    let bad : false ≡ true = sym other ∙ ap begins_test (sym is) ∙ test in absurd (cc)

-- a node test stays, perhaps with the axis that was not named
abbrev Tested : Bool → List Placed → List Placed → Type 0
Tested b t x = (t ≡ x) ⊎ ((b ≡ false) × (t ≡ placed_at (offset_at x) child_axis ++ x))

tested : {b : Bool} {p : Placed} {s t : List Placed} (x : Token) → long_form x ≡ None → p.token ≡ x → Out b (p ∷ s) t →
    (left : List Placed) × Out (ends_axis p.token) s left × Tested b t (p ∷ left)
tested x whole is (kept b _ _ t N) = (t, N, inl refl)
tested x whole is (written b _ _ t long short N) =
    let bad : None ≡ Some long = sym whole ∙ ap long_form (sym is) ∙ short in absurd (cc)
tested x whole is (child _ _ t test N) = (t, N, inr (refl, refl))

-- ---- parts of steps

-- what was read is read in the second tokens too, and what follows it is written out in what follows there
abbrev pub Onward : List Placed → (List Placed → Type 0) → Type 0
Onward u P = (c : Bool) × (v : List Placed) × Out c u v × P v

out_signs : {count : ℕ} {s m : List Placed} → IsSigns count s m → {b : Bool} {t : List Placed} → Out b s t → Onward m (λ v. IsSigns count t v)
out_signs (no_sign s) {b = b} {t = t} M = (b, t, M, no_sign t)
out_signs (sign k p s u is more) {t = t} M =
    let (left, same, N) = plain (token.Operator operator.Minus) refl refl is M in
    let (c, v, O, E) = out_signs more N in
    (c, v, O, subst (λ z. IsSigns (suc k) z v) (sym same) (sign k p left v is E))

-- a node test, from its own tokens on
record TestOut (b : Bool) (s t u : List Placed) (k : StepTest) : Type 0 where
  from : List Placed
  left : List Placed
  flag : Bool
  more : Out flag u left
  passes : IsTest from left k
  place : offset_at s ≡ offset_at from
  leads : Tested b t from

out_test : {b : Bool} {s t u : List Placed} {k : StepTest} → IsTest s u k → Out b s t → TestOut b s t u k
out_test (star_test p s is) M =
    let (left, N, L) = tested token.Star refl is M in
    record { from = p ∷ left; left = left; flag = ends_axis p.token; more = N; passes = star_test p left is; place = refl; leads = L }
out_test (prefix_test p s prefix is) M =
    let (left, N, L) = tested (token.PrefixStar prefix) refl is M in
    record { from = p ∷ left; left = left; flag = ends_axis p.token; more = N; passes = prefix_test p left prefix is; place = refl; leads = L }
out_test (named_test p s name is) M =
    let (left, N, L) = tested (token.Name name) refl is M in
    record { from = p ∷ left; left = left; flag = ends_axis p.token; more = N; passes = named_test p left name is; place = refl; leads = L }
out_test (typed_test p q r s t is opens closes) M =
    let (first, N, L) = tested (token.NodeType t) refl is M in
    let (second, same, O) = plain token.OpenParen refl refl opens N in
    let (left, also, Q) = plain token.CloseParen refl refl closes O in
    record {
      from = p ∷ first;
      left = left;
      flag = ends_axis r.token;
      more = Q;
      passes = subst (λ z. IsTest (p ∷ z) left (type_test t)) (sym (same ∙ ap (λ z. q ∷ z) also)) (typed_test p q r left t is opens closes);
      place = refl;
      leads = L;
    }
out_test (target_test p q l r s target is opens quoted closes) M =
    let (first, N, L) = tested (token.NodeType node_type.Pi) refl is M in
    let (second, same, O) = plain token.OpenParen refl refl opens N in
    let (third, also, Q) = plain (token.Literal target) refl refl quoted O in
    let (left, too, R) = plain token.CloseParen refl refl closes Q in
    record {
      from = p ∷ first;
      left = left;
      flag = ends_axis r.token;
      more = R;
      passes = subst (λ z. IsTest (p ∷ z) left (test.PiNamed target)) (sym (same ∙ ap (λ z. q ∷ z) (also ∙ ap (λ z. l ∷ z) too)))
          (target_test p q l r left target is opens quoted closes);
      place = refl;
      leads = L;
    }

-- an axis with its node test
record StepOut (m t u : List Placed) (a : AxisName) (k : StepTest) : Type 0 where
  from : List Placed
  left : List Placed
  flag : Bool
  more : Out flag u left
  on_axis : IsAxis t from a
  passes : IsTest from left k
  place : offset_at m ≡ offset_at from

-- a node test after an axis stays
behind_axis : {b : Bool} {s t u : List Placed} {k : StepTest} → b ≡ true → IsTest s u k → Out b s t →
    (left : List Placed) × (c : Bool) × Out c u left × IsTest t left k
behind_axis {k = k} named T M =
    let r = out_test T M in
    elim r.leads [
      | inl same ↦ (r.left, r.flag, r.more, subst (λ z. IsTest z r.left k) (sym same) r.passes)
      | inr inserted ↦ let bad : true ≡ false = sym named ∙ inserted.0 in absurd (cc)
    ]

axis_at : (offset : ℕ) (a : AxisName) (s : List Placed) →
    IsAxis (placed_at offset (token.Axis a ∷ token.DoubleColon ∷ []) ++ s) s a
axis_at offset a s = named_axis (one_at offset (token.Axis a)) (one_at offset token.DoubleColon) s a refl refl

unnamed : {b : Bool} {t x : List Placed} → Tested b t x → IsAxis t x axis.Child
unnamed {t = t} {x = x} L =
    elim L [
      | inl same ↦ subst (λ z. IsAxis z x axis.Child) (sym same) (no_axis x)
      | inr inserted ↦ subst (λ z. IsAxis z x axis.Child) (sym inserted.1) (axis_at (offset_at x) axis.Child x)
    ]

out_axis : {b : Bool} {s m t u : List Placed} {a : AxisName} {k : StepTest} → IsAxis s m a → IsTest m u k → Out b s t → StepOut m t u a k
out_axis (no_axis s) T M =
    let r = out_test T M in
    record { from = r.from; left = r.left; flag = r.flag; more = r.more; on_axis = unnamed r.leads; passes = r.passes; place = r.place }
out_axis {t = t} (at_sign p s is) T M =
    let (from, N, either) = abbreviated token.At (token.Axis axis.Attribute ∷ token.DoubleColon ∷ []) refl refl is M in
    let (left, c, O, E) = behind_axis (ap ends_axis is) T N in
    let on : IsAxis t from axis.Attribute =
    either_way (λ z. IsAxis z from axis.Attribute) either (at_sign p from is) (axis_at p.offset axis.Attribute from) in
    record { from = from; left = left; flag = c; more = O; on_axis = on; passes = E; place = same_offset N }
out_axis {t = t} (named_axis p q s a is colons) T M =
    let (first, same, N) = plain (token.Axis a) refl refl is M in
    let (from, also, O) = plain token.DoubleColon refl refl colons N in
    let (left, c, Q, E) = behind_axis (ap ends_axis colons) T O in
    let on : IsAxis t from a = subst (λ z. IsAxis z from a) (sym (same ∙ ap (λ z. p ∷ z) also)) (named_axis p q from a is colons) in
    record { from = from; left = left; flag = c; more = Q; on_axis = on; passes = E; place = same_offset O }

-- `node()` on an axis
any_step : (limit d offset : ℕ) (a : AxisName) {s u : List Placed} {rest : Steps} → IsMoreSteps limit d s u rest →
    IsSteps limit d (placed_at offset (any_on a []) ++ s) u (step offset a test.Node offset no_trees rest)
any_step limit d offset a {s} {u} {rest} M =
    let any : List Placed = placed_at offset any_node ++ s in
    let node : Placed = one_at offset (token.NodeType node_type.Node) in
    let T : IsTest any s test.Node =
    typed_test node (one_at offset token.OpenParen) (one_at offset token.CloseParen) s node_type.Node refl refl refl in
    tested_step d (placed_at offset (any_on a []) ++ s) any s s u a test.Node no_trees rest (axis_at offset a any) T (no_predicate d s) M

-- all of it between two slashes, after the first one
any_slash : (limit d offset : ℕ) {s u : List Placed} {ss : Steps} → IsSteps limit d s u ss →
    IsSteps limit d (placed_at offset all_between ++ s) u (everywhere offset ss)
any_slash limit d offset {s} {u} {ss} D =
    any_step limit d offset axis.DescendantOrSelf (slash_steps d (one_at offset token.Slash) s u ss refl D)

-- ---- expressions

mutual
  pub out_chain : (limit : ℕ) {n : Level} {d : ℕ} {s u : List Placed} {e : Tree} → IsChain limit n d s u e →
      {b : Bool} {t : List Placed} → Out b s t → Onward u (λ v. IsChain limit n d t v e)
  out_chain limit (chained n d s m u first rest D T) {t = t} M =
      let (c, k, N, E) = out_operand limit D M in
      let (f, v, O, F) = out_operands limit T N in
      (f, v, O, subst (λ o. IsChain limit n d t v (joined n o first rest)) (sym (same_offset M)) (chained n d t k v first rest E F))

  out_operand : (limit : ℕ) {n : Level} {d : ℕ} {s u : List Placed} {e : Tree} → IsOperand limit n d s u e →
      {b : Bool} {t : List Placed} → Out b s t → Onward u (λ v. IsOperand limit n d t v e)
  out_operand limit (tighter_chain n inner d s u e is D) {t = t} M =
      let (c, v, N, E) = out_chain limit D M in (c, v, N, tighter_chain n inner d t v e is E)
  out_operand limit (signed d count s m u e S fits D) {t = t} M =
      let (c, k, N, E) = out_signs S M in
      let (f, v, O, F) = out_chain limit D N in
      (f, v, O, subst (λ o. IsOperand limit level.Prod d t v (with_signs o count e)) (sym (same_offset M)) (signed d count t k v e E fits F))
  out_operand limit (one_path d s u e D) {t = t} M =
      let (c, v, N, E) = out_path limit D M in (c, v, N, one_path d t v e E)

  out_operands : (limit : ℕ) {n : Level} {d : ℕ} {s u : List Placed} {e : Operands} → IsOperands limit n d s u e →
      {b : Bool} {t : List Placed} → Out b s t → Onward u (λ v. IsOperands limit n d t v e)
  out_operands limit (no_more n d s) {b = b} {t = t} M = (b, t, M, no_more n d t)
  out_operands limit (one_more n d p s m u o e rest is at_level D T) M =
      let (left, same, N) = plain (token.Operator o) refl refl is M in
      let (c, k, O, E) = out_operand limit D N in
      let (f, v, Q, F) = out_operands limit T O in
      (f, v, Q, subst (λ z. IsOperands limit n d z v (operand o p.offset e rest)) (sym same) (one_more n d p left k v o e rest is at_level E F))

  out_path : (limit : ℕ) {d : ℕ} {s u : List Placed} {e : Tree} → IsPath limit d s u e →
      {b : Bool} {t : List Placed} → Out b s t → Onward u (λ v. IsPath limit d t v e)
  out_path limit (root_alone d p s is) M =
      let (left, same, N) = plain token.Slash refl refl is M in
      (ends_axis p.token, left, N, subst (λ z. IsPath limit d z left (path p.offset root no_steps)) (sym same) (root_alone d p left is))
  out_path limit (from_root d p s u steps is D) M =
      let (left, same, N) = plain token.Slash refl refl is M in
      let (c, v, O, E) = out_steps limit D N in
      (c, v, O, subst (λ z. IsPath limit d z v (path p.offset root steps)) (sym same) (from_root d p left v steps is E))
  out_path limit (from_anywhere d p s u steps is D) M =
      let (left, N, either) = abbreviated token.DoubleSlash (token.Slash ∷ all_between) refl refl is M in
      let (c, v, O, E) = out_steps limit D N in
      let all : Steps = everywhere p.offset steps in
      let behind : List Placed = placed_at p.offset all_between ++ left in
      let slash : Placed = one_at p.offset token.Slash in
      let long : IsPath limit d (slash ∷ behind) v (path p.offset root all) =
      from_root d slash behind v all refl (any_slash limit d p.offset E) in
      let short : IsPath limit d (p ∷ left) v (path p.offset root all) = from_anywhere d p left v steps is E in
      (c, v, O, either_way (λ z. IsPath limit d z v (path p.offset root all)) either short long)
  out_path limit (from_here d s u steps D) {t = t} M =
      let (c, v, N, E) = out_steps limit D M in
      (c, v, N, subst (λ o. IsPath limit d t v (path o here steps)) (sym (same_offset M)) (from_here d t v steps E))
  out_path limit (from_filter d s m u e steps D T) {t = t} M =
      let (c, k, N, E) = out_filter limit D M in
      let (f, v, O, F) = out_more_steps limit T N in
      (f, v, O, subst (λ o. IsPath limit d t v (with_steps o e steps)) (sym (same_offset M)) (from_filter d t k v e steps E F))

  out_steps : (limit : ℕ) {d : ℕ} {s u : List Placed} {ss : Steps} → IsSteps limit d s u ss →
      {b : Bool} {t : List Placed} → Out b s t → Onward u (λ v. IsSteps limit d t v ss)
  out_steps limit (dot_step d p s u rest is D) M =
      let (left, N, either) = abbreviated token.Dot (any_on axis.SelfNode []) refl refl is M in
      let (c, v, O, E) = out_more_steps limit D N in
      let all : Steps = step p.offset axis.SelfNode test.Node p.offset no_trees rest in
      let long : IsSteps limit d (placed_at p.offset (any_on axis.SelfNode []) ++ left) v all = any_step limit d p.offset axis.SelfNode E in
      (c, v, O, either_way (λ z. IsSteps limit d z v all) either (dot_step d p left v rest is E) long)
  out_steps limit (parent_step d p s u rest is D) M =
      let (left, N, either) = abbreviated token.DoubleDot (any_on axis.Parent []) refl refl is M in
      let (c, v, O, E) = out_more_steps limit D N in
      let all : Steps = step p.offset axis.Parent test.Node p.offset no_trees rest in
      let long : IsSteps limit d (placed_at p.offset (any_on axis.Parent []) ++ left) v all = any_step limit d p.offset axis.Parent E in
      (c, v, O, either_way (λ z. IsSteps limit d z v all) either (parent_step d p left v rest is E) long)
  out_steps limit (tested_step d s m w x u a k ps rest A T P D) {t = t} M =
      let r = out_axis A T M in
      let (c, y, N, E) = out_predicates limit P r.more in
      let (f, v, O, F) = out_more_steps limit D N in
      let there : IsSteps limit d t v (step (offset_at t) a k (offset_at r.from) ps rest) =
      tested_step d t r.from r.left y v a k ps rest r.on_axis r.passes E F in
      let tested : IsSteps limit d t v (step (offset_at t) a k (offset_at m) ps rest) =
      subst (λ o. IsSteps limit d t v (step (offset_at t) a k o ps rest)) (sym r.place) there in
      (f, v, O, subst (λ o. IsSteps limit d t v (step o a k (offset_at m) ps rest)) (sym (same_offset M)) tested)

  out_more_steps : (limit : ℕ) {d : ℕ} {s u : List Placed} {ss : Steps} → IsMoreSteps limit d s u ss →
      {b : Bool} {t : List Placed} → Out b s t → Onward u (λ v. IsMoreSteps limit d t v ss)
  out_more_steps limit (no_more_steps d s) {b = b} {t = t} M = (b, t, M, no_more_steps d t)
  out_more_steps limit (slash_steps d p s u steps is D) M =
      let (left, same, N) = plain token.Slash refl refl is M in
      let (c, v, O, E) = out_steps limit D N in
      (c, v, O, subst (λ z. IsMoreSteps limit d z v steps) (sym same) (slash_steps d p left v steps is E))
  out_more_steps limit (double_slash_steps d p s u steps is D) M =
      let (left, N, either) = abbreviated token.DoubleSlash (token.Slash ∷ all_between) refl refl is M in
      let (c, v, O, E) = out_steps limit D N in
      let all : Steps = everywhere p.offset steps in
      let behind : List Placed = placed_at p.offset all_between ++ left in
      let slash : Placed = one_at p.offset token.Slash in
      let long : IsMoreSteps limit d (slash ∷ behind) v all = slash_steps d slash behind v all refl (any_slash limit d p.offset E) in
      let short : IsMoreSteps limit d (p ∷ left) v all = double_slash_steps d p left v steps is E in
      (c, v, O, either_way (λ z. IsMoreSteps limit d z v all) either short long)

  out_predicates : (limit : ℕ) {d : ℕ} {s u : List Placed} {es : Trees} → IsPredicates limit d s u es →
      {b : Bool} {t : List Placed} → Out b s t → Onward u (λ v. IsPredicates limit d t v es)
  out_predicates limit (no_predicate d s) {b = b} {t = t} M = (b, t, M, no_predicate d t)
  out_predicates limit (predicate d p q s m u e rest is fits D closes T) M =
      let (left, same, N) = plain token.OpenBracket refl refl is M in
      let (c, k, O, E) = out_chain limit D N in
      let (behind, also, Q) = plain token.CloseBracket refl refl closes O in
      let (f, v, R, F) = out_predicates limit T Q in
      let inner : IsChain limit level.Or (suc d) left (q ∷ behind) e = subst (λ z. IsChain limit level.Or (suc d) left z e) also E in
      let there : IsPredicates limit d (p ∷ left) v (tree e rest) = predicate d p q left behind v e rest is fits inner closes F in
      (f, v, R, subst (λ z. IsPredicates limit d z v (tree e rest)) (sym same) there)

  out_filter : (limit : ℕ) {d : ℕ} {s u : List Placed} {e : Tree} → IsFilter limit d s u e →
      {b : Bool} {t : List Placed} → Out b s t → Onward u (λ v. IsFilter limit d t v e)
  out_filter limit (filter d s m u e ps D P) {t = t} M =
      let (c, k, N, E) = out_primary limit D M in
      let (f, v, O, F) = out_predicates limit P N in
      (f, v, O, subst (λ o. IsFilter limit d t v (with_predicates o e ps)) (sym (same_offset M)) (filter d t k v e ps E F))

  out_primary : (limit : ℕ) {d : ℕ} {s u : List Placed} {e : Tree} → IsPrimary limit d s u e →
      {b : Bool} {t : List Placed} → Out b s t → Onward u (λ v. IsPrimary limit d t v e)
  out_primary limit (a_variable d p s name is) M =
      let (left, same, N) = plain (token.Variable name) refl refl is M in
      (ends_axis p.token, left, N, subst (λ z. IsPrimary limit d z left (variable p.offset name)) (sym same) (a_variable d p left name is))
  out_primary limit (a_literal d p s value is) M =
      let (left, same, N) = plain (token.Literal value) refl refl is M in
      (ends_axis p.token, left, N, subst (λ z. IsPrimary limit d z left (literal p.offset value)) (sym same) (a_literal d p left value is))
  out_primary limit (a_number d p s digits is) M =
      let (left, same, N) = plain (token.Number digits) refl refl is M in
      (ends_axis p.token, left, N, subst (λ z. IsPrimary limit d z left (number p.offset digits)) (sym same) (a_number d p left digits is))
  out_primary limit (in_parens d p q s u e is fits D closes) M =
      let (left, same, N) = plain token.OpenParen refl refl is M in
      let (c, k, O, E) = out_chain limit D N in
      let (v, also, Q) = plain token.CloseParen refl refl closes O in
      let inner : IsChain limit level.Or (suc d) left (q ∷ v) e = subst (λ z. IsChain limit level.Or (suc d) left z e) also E in
      (ends_axis q.token, v, Q, subst (λ z. IsPrimary limit d z v e) (sym same) (in_parens d p q left v e is fits inner closes))
  out_primary limit (a_call d p q r s u name args is opens fits D closes) M =
      let (first, same, N) = plain (token.Function name) refl refl is M in
      let (left, also, O) = plain token.OpenParen refl refl opens N in
      let (c, k, Q, E) = out_arguments limit D O in
      let (v, too, R) = plain token.CloseParen refl refl closes Q in
      let inner : IsArguments limit (suc d) left (r ∷ v) args = subst (λ z. IsArguments limit (suc d) left z args) too E in
      let there : IsPrimary limit d (p ∷ q ∷ left) v (call p.offset name args) =
      a_call d p q r left v name args is opens fits inner closes in
      let all : _ ≡ p ∷ q ∷ left = same ∙ ap (λ z. p ∷ z) also in
      (ends_axis r.token, v, R, subst (λ z. IsPrimary limit d z v (call p.offset name args)) (sym all) there)

  out_arguments : (limit : ℕ) {d : ℕ} {s u : List Placed} {es : Trees} → IsArguments limit d s u es →
      {b : Bool} {t : List Placed} → Out b s t → Onward u (λ v. IsArguments limit d t v es)
  out_arguments limit (no_argument d s) {b = b} {t = t} M = (b, t, M, no_argument d t)
  out_arguments limit (arguments d s m u e rest D T) {t = t} M =
      let (c, k, N, E) = out_chain limit D M in
      let (f, v, O, F) = out_more_arguments limit T N in
      (f, v, O, arguments d t k v e rest E F)

  out_more_arguments : (limit : ℕ) {d : ℕ} {s u : List Placed} {es : Trees} → IsMoreArguments limit d s u es →
      {b : Bool} {t : List Placed} → Out b s t → Onward u (λ v. IsMoreArguments limit d t v es)
  out_more_arguments limit (no_more_arguments d s) {b = b} {t = t} M = (b, t, M, no_more_arguments d t)
  out_more_arguments limit (one_more_argument d p s m u e rest is D T) M =
      let (left, same, N) = plain token.Comma refl refl is M in
      let (c, k, O, E) = out_chain limit D N in
      let (f, v, Q, F) = out_more_arguments limit T O in
      (f, v, Q, subst (λ z. IsMoreArguments limit d z v (tree e rest)) (sym same) (one_more_argument d p left k v e rest is E F))
