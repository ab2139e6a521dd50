-- What tokens derive fits: an operand that is printed in parentheses stands in parentheses in the tokens too.
use Rattle.std.proofs.Common.{◌≡◌, ℕ, suc, ◌+◌, ◌≤◌, ◌<◌, ◌⊎◌, Bool, true, false, None, Some, Option, List, [], ◌∷◌, ◌++◌, zero, length, get_or, cond, refl, sym, subst, ap, ◌∙◌, inl, inr, le_of_eq, arith}
use Rattle.std.specs.List.{list_any, before_first, after_first, position_or_len}
use Rattle.std.proofs.lemmas.Grind.{common_steps}
use Rattle.std.proofs.lemmas.List.Sums.{split_at_first, passes_at_first}
use Rattle.sch_base.specs.Names.{is_colon}
use Rattle.xp_tree.specs.Tree.{Tree, Steps, Operands, Trees, chain, negated, path, filtered, variable, literal, number, call, root, here, no_steps, step, no_operands, operand, no_trees, tree}
use Rattle.xp_tree.specs.declared.terms.Level.{Level}
use Rattle.xp_tree.specs.declared.terms.Level.TheVariants as level
use Rattle.xp_tree.specs.declared.terms.AxisName.{AxisName}
use Rattle.xp_tree.specs.declared.terms.AxisName.TheVariants as axis
use Rattle.xp_tree.specs.declared.terms.StepTest.{StepTest}
use Rattle.xp_tree.specs.declared.terms.StepTest.TheVariants as test
use Rattle.xp_grammar.specs.declared.token.NodeType.{NodeType}
use Rattle.xp_grammar.specs.declared.token.NodeType.TheVariants as node_type
use Rattle.xp_grammar.specs.declared.token.Placed.{Placed}
use Rattle.xp_grammar.specs.declared.token.Token.{Token}
use Rattle.xp_grammar.specs.declared.token.Token.TheVariants as token
use Rattle.xp_grammar.specs.Parts.{offset_at, joined, with_signs, with_predicates, with_steps, everywhere, name_test, type_test}
use Rattle.xp_grammar.specs.Grammar.{tighter, IsSigns, no_sign, sign, IsAxis, no_axis, at_sign, named_axis, IsTest, star_test, prefix_test, named_test, typed_test, target_test, IsChain, chained, IsOperand, tighter_chain, signed, one_path, IsOperands, no_more, one_more, IsPath, root_alone, from_root, from_anywhere, from_here, from_filter, IsSteps, dot_step, parent_step, tested_step, IsMoreSteps, no_more_steps, slash_steps, double_slash_steps, IsPredicates, no_predicate, predicate, IsFilter, filter, IsPrimary, a_variable, a_literal, a_number, in_parens, a_call, IsArguments, no_argument, arguments, IsMoreArguments, no_more_arguments, one_more_argument}
use Rattle.xp_print.specs.Printed.{binding, binding_of, is_name_like, name_like_next, is_base, is_path_base, test_text}
use Rattle.xp_print_laws.specs.Reprinted.{BeginsNameLike}
use Rattle.xp_print_laws.proofs.Fronts.{is_equal}
use Rattle.xp_print_laws.proofs.Fits.{FitsTest, fits_star, fits_prefix, fits_named, fits_node, fits_chars, fits_comment, fits_pi, fits_target, Fits, fits_chain, fits_negated, fits_root, fits_from_root, fits_from_here, fits_from_base, fits_filtered, fits_variable, fits_literal, fits_number, fits_call, FitsAround, around_bare, around_within, FitsOperands, fits_no_more, fits_one_more, FitsBase, base_bare, base_within, FitsSteps, fits_step, FitsMoreSteps, fits_no_more_steps, fits_more_steps, FitsPredicates, fits_no_predicate, fits_predicate, FitsArguments, fits_no_argument, fits_argument, lower}

-- tokens that are known, none of them an operator misread after `/`
abbrev pub Sound : (Token → Type 0) → List Placed → Type 0
Sound Known [] = Unit {0}
Sound Known (p ∷ s) = Known p.token × (p.token ≡ token.Slash → BeginsNameLike s → ⊥) × Sound Known s

-- what stands after an expression
abbrev pub Ends : Bool → List Placed → Type 0
Ends false s = Unit {0}
Ends true s = BeginsNameLike s

-- the expression binds this tightly, or stands in parentheses
pub data Stands (Known : Token → Type 0) (limit d bound : ℕ) (b : Bool) (e : Tree) : Type 0 where
  stands_bare : bound ≤ binding_of e → Fits Known limit d b e → Stands Known limit d bound b e
  stands_within : suc d ≤ limit → Fits Known limit (suc d) false e → Stands Known limit d bound b e

-- the expression needs no parentheses as a base, or stands in them
pub data StandsAsBase (Known : Token → Type 0) (limit d : ℕ) (b bare : Bool) (e : Tree) : Type 0 where
  base_stands : bare ≡ true → Fits Known limit d b e → StandsAsBase Known limit d b bare e
  base_stands_within : suc d ≤ limit → Fits Known limit (suc d) false e → StandsAsBase Known limit d b bare e

pub weaker : {Known : Token → Type 0} {limit d strong : ℕ} {b : Bool} {e : Tree} → Stands Known limit d strong b e → (weak : ℕ) → weak ≤ strong →
    Stands Known limit d weak b e
weaker (stands_bare tight F) weak le = stands_bare (omega (arith, tight, le)) F
weaker (stands_within room F) weak le = stands_within room F

pub whole : {Known : Token → Type 0} {limit d bound : ℕ} {b : Bool} {e : Tree} → Stands Known limit d bound b e → Fits Known limit d b e
whole {Known} {limit} {d} {bound} {b} {e} (stands_bare tight F) = F
whole {Known} {limit} {d} {bound} {b} {e} (stands_within room F) = lower Known limit d F refl room b

le_or_lt : (a b : ℕ) → (a ≤ b) ⊎ (b < a)
le_or_lt a b = grind arith

pub around : {Known : Token → Type 0} {limit d : ℕ} (bound : ℕ) {b : Bool} {e : Tree} → Stands Known limit d (suc bound) b e → FitsAround Known limit d bound b e
around {Known} {limit} {d} bound {b} {e} (stands_bare tight F) = around_bare d bound b e tight F
around {Known} {limit} {d} bound {b} {e} (stands_within room F) =
    elim (le_or_lt (binding_of e) bound) [
      | inl loose ↦ around_within d bound b e loose room F
      | inr tight ↦ around_bare d bound b e tight (lower Known limit d F refl room b)
    ]

as_base : {Known : Token → Type 0} {limit d : ℕ} (bare : Bool) {e : Tree} → StandsAsBase Known limit d false bare e → FitsBase Known limit d bare e
as_base {Known} {limit} {d} bare {e} (base_stands stands F) = base_bare d bare e stands F
as_base {Known} {limit} {d} true {e} (base_stands_within room F) = base_bare d true e refl (lower Known limit d F refl room false)
as_base {Known} {limit} {d} false {e} (base_stands_within room F) = base_within d false e refl room F

-- ---- names

some_passes : {X : Type 0} (p : X → Bool) (xs : List X) → list_any p xs ≡ true → position_or_len p xs < length xs
some_passes p [] has = absurd (cc)
some_passes p (x ∷ xs) has = grind (arith, common_steps, some_passes p xs)

named-text : (name : List ℕ) → list_any is_colon name ≡ true → before_first is_colon name ++ (58 ∷ after_first is_colon name) ≡ name
named-text name has =
    let lt = some_passes is_colon name has in
    let colon : get_or name (position_or_len is_colon name) 58 ≡ 58 = is_equal _ _ (passes_at_first is_colon name 58 lt) in
    ap (λ c. before_first is_colon name ++ (c ∷ after_first is_colon name)) (sym colon) ∙ sym (split_at_first is_colon name 58 lt)

text-of-test : (name : List ℕ) (b : Bool) → list_any is_colon name ≡ b →
    test_text (cond b (test.Named (Some (before_first is_colon name)) (after_first is_colon name)) (test.Named None name)) ≡ name
text-of-test name true has = named-text name has
text-of-test name false has = refl

name-test-fits : (Known : Token → Type 0) (name : List ℕ) (b : Bool) → list_any is_colon name ≡ b → Known (token.Name name) →
    FitsTest Known (cond b (test.Named (Some (before_first is_colon name)) (after_first is_colon name)) (test.Named None name))
name-test-fits Known name true has known =
    let spelled = text-of-test name true has in
    fits_named (Some (before_first is_colon name)) (after_first is_colon name) (subst (λ n. Known (token.Name n)) (sym spelled) known)
    (ap name_test spelled ∙ ap (λ b. cond b (test.Named (Some (before_first is_colon name)) (after_first is_colon name)) (test.Named None name)) has)
name-test-fits Known name false has known =
    fits_named None name known (ap (λ b. cond b (test.Named (Some (before_first is_colon name)) (after_first is_colon name)) (test.Named None name)) has)

-- ---- parts without expressions

signs-sound : (Known : Token → Type 0) {count : ℕ} {s m : List Placed} → IsSigns count s m → Sound Known s → Sound Known m
signs-sound Known (no_sign s) w = w
signs-sound Known (sign k p s u is more) w = signs-sound Known more w.2

axis-sound : (Known : Token → Type 0) {a : AxisName} {s t : List Placed} → IsAxis s t a → Sound Known s → Sound Known t
axis-sound Known (no_axis s) w = w
axis-sound Known (at_sign p s is) w = w.2
axis-sound Known (named_axis p q s a is colons) w = w.2.2

fit_type : {Known : Token → Type 0} (t : NodeType) → FitsTest Known (type_test t)
fit_type node_type.Comment = fits_comment
fit_type node_type.Chars = fits_chars
fit_type node_type.Pi = fits_pi
fit_type node_type.Node = fits_node

fit_test : (Known : Token → Type 0) {k : StepTest} {t v : List Placed} → IsTest t v k → Sound Known t → FitsTest Known k × Sound Known v
fit_test Known (star_test p s is) w = (fits_star, w.2)
fit_test Known (prefix_test p s prefix is) w = (fits_prefix prefix (subst Known is w.0), w.2)
fit_test Known (named_test p s name is) w = (name-test-fits Known name (list_any is_colon name) refl (subst Known is w.0), w.2)
fit_test Known (typed_test p q r s t is opens closes) w = (fit_type t, w.2.2.2)
fit_test Known (target_test p q l r s target is opens spelled closes) w = (fits_target target (subst Known spelled w.2.2.0), w.2.2.2.2)

-- ---- levels

within_binding : Option Level → ℕ
within_binding None = 0
within_binding (Some inner) = binding inner

inner-binding : (n inner : Level) → tighter n ≡ Some inner → binding inner ≡ suc (binding n)
unfolding within_binding
inner-binding level.Or inner is = sym (ap within_binding is)
inner-binding level.And inner is = sym (ap within_binding is)
inner-binding level.Equal inner is = sym (ap within_binding is)
inner-binding level.Rel inner is = sym (ap within_binding is)
inner-binding level.Sum inner is = sym (ap within_binding is)
inner-binding level.Prod inner is = absurd (cc)
inner-binding level.Union inner is = absurd (cc)

-- the token after an operand
ends_next : {limit : ℕ} {n : Level} {d : ℕ} {m u : List Placed} {rest : Operands} → IsOperands limit n d m u rest → (b : Bool) → Ends b u → Ends (name_like_next b rest) m
ends_next (no_more n d s) b ends = ends
ends_next (one_more n d p s m u o e rest is at_level D T) b ends = at_front (is_name_like o) refl
  where
    at_front : (x : Bool) → is_name_like o ≡ x → Ends x (p ∷ s)
    at_front true named = (o, is, named)
    at_front false named = tt

-- a chain of what fits
chain-stands : {Known : Token → Type 0} {limit : ℕ} (n : Level) (d : ℕ) (b : Bool) (offset : ℕ) (first : Tree) (rest : Operands) →
    Stands Known limit d (suc (binding n)) (name_like_next b rest) first → FitsOperands Known limit n d b rest →
    Stands Known limit d (binding n) b (joined n offset first rest)
chain-stands n d b offset first no_operands F T = weaker F (binding n) (omega arith)
chain-stands n d b offset first (operand o at second rest) F T =
    stands_bare (omega arith) (fits_chain d b n offset first o at second rest (around (binding n) F) T)

signs-stand : {Known : Token → Type 0} {limit : ℕ} (d : ℕ) (b : Bool) (offset count : ℕ) (e : Tree) → d + count ≤ limit →
    Stands Known limit d 7 b e → Stands Known limit d 6 b (with_signs offset count e)
signs-stand d b offset zero e fits F = weaker F 6 (omega arith)
signs-stand d b offset (suc count) e fits F = stands_bare (omega arith) (fits_negated d b offset count e fits (around 6 F))

pub path-base : (e : Tree) → is_base e ≡ true → is_path_base e ≡ true
path-base (filtered offset base predicates) is = refl
path-base e is = is

bound-path-base : (e : Tree) → is_path_base e ≡ true → 8 ≤ binding_of e
bound-path-base (filtered offset base predicates) is = omega arith
bound-path-base (variable offset name) is = omega arith
bound-path-base (literal offset value) is = omega arith
bound-path-base (number offset digits) is = omega arith
bound-path-base (call offset name args) is = omega arith
bound-path-base (chain level offset first rest) is = absurd (cc)
bound-path-base (negated offset count e) is = absurd (cc)
bound-path-base (path offset start steps) is = absurd (cc)

predicates-stand : {Known : Token → Type 0} {limit : ℕ} (d : ℕ) (b : Bool) (offset : ℕ) (base : Tree) (ps : Trees) →
    StandsAsBase Known limit d b (is_base base) base → StandsAsBase Known limit d false (is_base base) base → FitsPredicates Known limit d ps →
    StandsAsBase Known limit d b (is_path_base (with_predicates offset base ps)) (with_predicates offset base ps)
predicates-stand d b offset base no_trees (base_stands stands F) C P = base_stands (path-base base stands) F
predicates-stand d b offset base no_trees (base_stands_within room F) C P = base_stands_within room F
predicates-stand d b offset base (tree first rest) B C P =
    base_stands refl (fits_filtered d b offset base first rest (as_base (is_base base) C) P)

steps-stand : {Known : Token → Type 0} {limit : ℕ} (d : ℕ) (b : Bool) (offset : ℕ) (base : Tree) (ss : Steps) →
    StandsAsBase Known limit d b (is_path_base base) base → StandsAsBase Known limit d false (is_path_base base) base → FitsMoreSteps Known limit d ss →
    Stands Known limit d 8 b (with_steps offset base ss)
steps-stand d b offset base no_steps (base_stands stands F) C M = stands_bare (bound-path-base base stands) F
steps-stand d b offset base no_steps (base_stands_within room F) C M = stands_within room F
steps-stand d b offset base (step o a k at ps rest) B C (fits_more_steps _ _ _ _ _ _ _ F) =
    stands_bare (omega arith) (fits_from_base d b offset base o a k at ps rest (as_base (is_path_base base) C) F)

root-stands : {Known : Token → Type 0} {limit : ℕ} (d : ℕ) (b : Bool) (offset : ℕ) (ss : Steps) → FitsSteps Known limit d ss →
    Stands Known limit d 8 b (path offset root ss)
root-stands d b offset ss (fits_step _ o a k at ps rest K P M) =
    stands_bare (omega arith) (fits_from_root d b offset o a k at ps rest (fits_step d o a k at ps rest K P M))

here-stands : {Known : Token → Type 0} {limit : ℕ} (d : ℕ) (b : Bool) (offset : ℕ) (ss : Steps) → FitsSteps Known limit d ss →
    Stands Known limit d 8 b (path offset here ss)
here-stands d b offset ss (fits_step _ o a k at ps rest K P M) =
    stands_bare (omega arith) (fits_from_here d b offset o a k at ps rest (fits_step d o a k at ps rest K P M))

more-steps-fit : {Known : Token → Type 0} {limit : ℕ} (d : ℕ) (ss : Steps) → FitsSteps Known limit d ss → FitsMoreSteps Known limit d ss
more-steps-fit d ss (fits_step _ o a k at ps rest K P M) = fits_more_steps d o a k at ps rest (fits_step d o a k at ps rest K P M)

everywhere-fits : {Known : Token → Type 0} {limit : ℕ} (d offset : ℕ) (ss : Steps) → FitsSteps Known limit d ss →
    FitsSteps Known limit d (everywhere offset ss)
everywhere-fits d offset ss F =
    fits_step d offset axis.DescendantOrSelf test.Node offset no_trees ss fits_node (fits_no_predicate d) (more-steps-fit d ss F)

mutual
  pub fit_chain : (Known : Token → Type 0) (limit : ℕ) {n : Level} {d : ℕ} {s u : List Placed} {e : Tree} → IsChain limit n d s u e →
      (b : Bool) → Ends b u → Sound Known s → Stands Known limit d (binding n) b e × Sound Known u
  fit_chain Known limit (chained n d s m u first rest D T) b ends w =
      let (F, w1) = fit_operand Known limit D (name_like_next b rest) (ends_next T b ends) w in
      let (R, w2) = fit_operands Known limit T b ends w1 in
      (chain-stands n d b (offset_at s) first rest F R, w2)

  pub fit_operand : (Known : Token → Type 0) (limit : ℕ) {n : Level} {d : ℕ} {s u : List Placed} {e : Tree} → IsOperand limit n d s u e →
      (b : Bool) → Ends b u → Sound Known s → Stands Known limit d (suc (binding n)) b e × Sound Known u
  fit_operand Known limit (tighter_chain n inner d s u e is D) b ends w =
      let (F, w1) = fit_chain Known limit D b ends w in
      (weaker F (suc (binding n)) (le_of_eq (sym (inner-binding n inner is))), w1)
  fit_operand Known limit (signed d count s m u e S fits D) b ends w =
      let (F, w1) = fit_chain Known limit D b ends (signs-sound Known S w) in
      (signs-stand d b (offset_at s) count e fits F, w1)
  fit_operand Known limit (one_path d s u e D) b ends w = fit_path Known limit D b ends w

  pub fit_operands : (Known : Token → Type 0) (limit : ℕ) {n : Level} {d : ℕ} {s u : List Placed} {rest : Operands} → IsOperands limit n d s u rest →
      (b : Bool) → Ends b u → Sound Known s → FitsOperands Known limit n d b rest × Sound Known u
  fit_operands Known limit (no_more n d s) b ends w = (fits_no_more n d b, w)
  fit_operands Known limit (one_more n d p s m u o e rest is at_level D T) b ends w =
      let (F, w1) = fit_operand Known limit D (name_like_next b rest) (ends_next T b ends) w.2 in
      let (R, w2) = fit_operands Known limit T b ends w1 in
      (fits_one_more n d b o p.offset e rest at_level (around (binding n) F) R, w2)

  pub fit_path : (Known : Token → Type 0) (limit : ℕ) {d : ℕ} {s u : List Placed} {e : Tree} → IsPath limit d s u e →
      (b : Bool) → Ends b u → Sound Known s → Stands Known limit d 8 b e × Sound Known u
  fit_path Known limit (root_alone d p s is) true ends w = absurd (w.1 is ends)
  fit_path Known limit (root_alone d p s is) false ends w = (stands_bare (omega arith) (fits_root d p.offset), w.2)
  fit_path Known limit (from_root d p s u steps is D) b ends w =
      let (F, w1) = fit_steps Known limit D w.2 in (root-stands d b p.offset steps F, w1)
  fit_path Known limit (from_anywhere d p s u steps is D) b ends w =
      let (F, w1) = fit_steps Known limit D w.2 in (root-stands d b p.offset (everywhere p.offset steps) (everywhere-fits d p.offset steps F), w1)
  fit_path Known limit (from_here d s u steps D) b ends w =
      let (F, w1) = fit_steps Known limit D w in (here-stands d b (offset_at s) steps F, w1)
  fit_path Known limit (from_filter d s m u e steps D T) b ends w =
      let (B, C, w1) = fit_filter Known limit D b w in
      let (M, w2) = fit_more_steps Known limit T w1 in
      (steps-stand d b (offset_at s) e steps B C M, w2)

  pub fit_steps : (Known : Token → Type 0) (limit : ℕ) {d : ℕ} {s u : List Placed} {ss : Steps} → IsSteps limit d s u ss →
      Sound Known s → FitsSteps Known limit d ss × Sound Known u
  fit_steps Known limit (dot_step d p s u rest is T) w =
      let (M, w1) = fit_more_steps Known limit T w.2 in
      (fits_step d p.offset axis.SelfNode test.Node p.offset no_trees rest fits_node (fits_no_predicate d) M, w1)
  fit_steps Known limit (parent_step d p s u rest is T) w =
      let (M, w1) = fit_more_steps Known limit T w.2 in
      (fits_step d p.offset axis.Parent test.Node p.offset no_trees rest fits_node (fits_no_predicate d) M, w1)
  fit_steps Known limit (tested_step d s t v m u a k ps rest A Q P T) w =
      let (K, w1) = fit_test Known Q (axis-sound Known A w) in
      let (R, w2) = fit_predicates Known limit P w1 in
      let (M, w3) = fit_more_steps Known limit T w2 in
      (fits_step d (offset_at s) a k (offset_at t) ps rest K R M, w3)

  pub fit_more_steps : (Known : Token → Type 0) (limit : ℕ) {d : ℕ} {s u : List Placed} {ss : Steps} → IsMoreSteps limit d s u ss →
      Sound Known s → FitsMoreSteps Known limit d ss × Sound Known u
  fit_more_steps Known limit (no_more_steps d s) w = (fits_no_more_steps d, w)
  fit_more_steps Known limit (slash_steps d p s u steps is D) w =
      let (F, w1) = fit_steps Known limit D w.2 in (more-steps-fit d steps F, w1)
  fit_more_steps Known limit (double_slash_steps d p s u steps is D) w =
      let (F, w1) = fit_steps Known limit D w.2 in
      (more-steps-fit d (everywhere p.offset steps) (everywhere-fits d p.offset steps F), w1)

  pub fit_predicates : (Known : Token → Type 0) (limit : ℕ) {d : ℕ} {s u : List Placed} {es : Trees} → IsPredicates limit d s u es →
      Sound Known s → FitsPredicates Known limit d es × Sound Known u
  fit_predicates Known limit (no_predicate d s) w = (fits_no_predicate d, w)
  fit_predicates Known limit (predicate d p q s m u e rest is inner D closes P) w =
      let (F, w1) = fit_chain Known limit D false tt w.2 in
      let (R, w2) = fit_predicates Known limit P w1.2 in
      (fits_predicate d e rest inner (whole F) R, w2)

  pub fit_filter : (Known : Token → Type 0) (limit : ℕ) {d : ℕ} {s u : List Placed} {e : Tree} → IsFilter limit d s u e →
      (b : Bool) → Sound Known s →
      StandsAsBase Known limit d b (is_path_base e) e × StandsAsBase Known limit d false (is_path_base e) e × Sound Known u
  fit_filter Known limit (filter d s m u e ps D P) b w =
      let (B, C, w1) = fit_primary Known limit D b w in
      let (R, w2) = fit_predicates Known limit P w1 in
      (predicates-stand d b (offset_at s) e ps B C R, predicates-stand d false (offset_at s) e ps C C R, w2)

  pub fit_primary : (Known : Token → Type 0) (limit : ℕ) {d : ℕ} {s u : List Placed} {e : Tree} → IsPrimary limit d s u e →
      (b : Bool) → Sound Known s →
      StandsAsBase Known limit d b (is_base e) e × StandsAsBase Known limit d false (is_base e) e × Sound Known u
  fit_primary Known limit (a_variable d p s name is) b w =
      let known = subst Known is w.0 in
      (base_stands refl (fits_variable d b p.offset name known), base_stands refl (fits_variable d false p.offset name known), w.2)
  fit_primary Known limit (a_literal d p s value is) b w =
      let known = subst Known is w.0 in
      (base_stands refl (fits_literal d b p.offset value known), base_stands refl (fits_literal d false p.offset value known), w.2)
  fit_primary Known limit (a_number d p s digits is) b w =
      let known = subst Known is w.0 in
      (base_stands refl (fits_number d b p.offset digits known), base_stands refl (fits_number d false p.offset digits known), w.2)
  fit_primary Known limit (in_parens d p q s u e is inner D closes) b w =
      let (F, w1) = fit_chain Known limit D false tt w.2 in
      (base_stands_within inner (whole F), base_stands_within inner (whole F), w1.2)
  fit_primary Known limit (a_call d p q r s u name args is opens inner D closes) b w =
      let known = subst Known is w.0 in
      let (A, w1) = fit_arguments Known limit D w.2.2 in (
        base_stands refl (fits_call d b p.offset name args known inner A),
        base_stands refl (fits_call d false p.offset name args known inner A),
        w1.2,
      )

  pub fit_arguments : (Known : Token → Type 0) (limit : ℕ) {d : ℕ} {s u : List Placed} {es : Trees} → IsArguments limit d s u es →
      Sound Known s → FitsArguments Known limit d es × Sound Known u
  fit_arguments Known limit (no_argument d s) w = (fits_no_argument d, w)
  fit_arguments Known limit (arguments d s m u e rest D T) w =
      let (F, w1) = fit_chain Known limit D false tt w in
      let (R, w2) = fit_more_arguments Known limit T w1 in
      (fits_argument d e rest (whole F) R, w2)

  pub fit_more_arguments : (Known : Token → Type 0) (limit : ℕ) {d : ℕ} {s u : List Placed} {es : Trees} → IsMoreArguments limit d s u es →
      Sound Known s → FitsArguments Known limit d es × Sound Known u
  fit_more_arguments Known limit (no_more_arguments d s) w = (fits_no_argument d, w)
  fit_more_arguments Known limit (one_more_argument d p s m u e rest is D T) w =
      let (F, w1) = fit_chain Known limit D false tt w.2 in
      let (R, w2) = fit_more_arguments Known limit T w1 in
      (fits_argument d e rest (whole F) R, w2)
