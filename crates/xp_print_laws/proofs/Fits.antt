-- Expressions whose printed tokens derive them again, within the limit of nesting: each operand binds tighter than the
-- operators round it or stands in parentheses, chains have operators, signs, predicates and steps are there.
use Rattle.std.proofs.Common.{◌≡◌, ℕ, suc, ◌+◌, ◌≤◌, ◌<◌, Bool, true, false, Option, List, arith}
use Rattle.xp_tree.specs.Tree.{Tree, Steps, Operands, Trees, chain, negated, path, filtered, variable, literal, number, call, root, here, from, no_steps, step, no_operands, operand, no_trees, tree}
use Rattle.xp_tree.specs.declared.terms.Level.{Level}
use Rattle.xp_tree.specs.declared.terms.Operator.{Operator}
use Rattle.xp_tree.specs.declared.terms.AxisName.{AxisName}
use Rattle.xp_tree.specs.declared.terms.StepTest.{StepTest}
use Rattle.xp_tree.specs.declared.terms.StepTest.TheVariants as test
use Rattle.xp_grammar.specs.declared.token.Token.{Token}
use Rattle.xp_grammar.specs.declared.token.Token.TheVariants as token
use Rattle.xp_grammar.specs.Parts.{level_of, name_test}
use Rattle.xp_print.specs.Printed.{binding, binding_of, sign_binding, name_like_next, is_base, is_path_base, test_text}

pub data FitsTest (Known : Token → Type 0) : StepTest → Type 0 where
  fits_star : FitsTest Known test.Star
  fits_prefix : (prefix : List ℕ) → Known (token.PrefixStar prefix) → FitsTest Known (test.InPrefix prefix)
  fits_named : (prefix : Option (List ℕ)) (local : List ℕ) → Known (token.Name (test_text (test.Named prefix local))) →
      name_test (test_text (test.Named prefix local)) ≡ test.Named prefix local → FitsTest Known (test.Named prefix local)
  fits_node : FitsTest Known test.Node
  fits_chars : FitsTest Known test.Chars
  fits_comment : FitsTest Known test.Comment
  fits_pi : FitsTest Known test.Pi
  fits_target : (target : List ℕ) → Known (token.Literal target) → FitsTest Known (test.PiNamed target)

mutual
  -- an expression at a depth; whether a name-like operator stands after it
  pub data Fits (Known : Token → Type 0) (limit : ℕ) : ℕ → Bool → Tree → Type 0 where
    fits_chain : (depth : ℕ) (behind : Bool) (n : Level) (offset : ℕ) (first : Tree) (o : Operator) (at : ℕ) (second : Tree) (rest : Operands) →
        FitsAround Known limit depth (binding n) (name_like_next behind (operand o at second rest)) first →
        FitsOperands Known limit n depth behind (operand o at second rest) →
        Fits Known limit depth behind (chain n offset first (operand o at second rest))
    fits_negated : (depth : ℕ) (behind : Bool) (offset count : ℕ) (e : Tree) → depth + suc count ≤ limit →
        FitsAround Known limit depth sign_binding behind e → Fits Known limit depth behind (negated offset (suc count) e)
    fits_root : (depth offset : ℕ) → Fits Known limit depth false (path offset root no_steps)
    fits_root_within : (depth offset : ℕ) → suc depth ≤ limit → Fits Known limit depth true (path offset root no_steps)
    fits_from_root : (depth : ℕ) (behind : Bool) (offset at : ℕ) (a : AxisName) (k : StepTest) (k_at : ℕ) (ps : Trees) (rest : Steps) →
        FitsSteps Known limit depth (step at a k k_at ps rest) →
        Fits Known limit depth behind (path offset root (step at a k k_at ps rest))
    fits_from_here : (depth : ℕ) (behind : Bool) (offset at : ℕ) (a : AxisName) (k : StepTest) (k_at : ℕ) (ps : Trees) (rest : Steps) →
        FitsSteps Known limit depth (step at a k k_at ps rest) →
        Fits Known limit depth behind (path offset here (step at a k k_at ps rest))
    fits_from_base : (depth : ℕ) (behind : Bool) (offset : ℕ) (base : Tree) (at : ℕ) (a : AxisName) (k : StepTest) (k_at : ℕ) (ps : Trees) (rest : Steps) →
        FitsBase Known limit depth (is_path_base base) base → FitsSteps Known limit depth (step at a k k_at ps rest) →
        Fits Known limit depth behind (path offset (from base) (step at a k k_at ps rest))
    fits_filtered : (depth : ℕ) (behind : Bool) (offset : ℕ) (base first : Tree) (rest : Trees) →
        FitsBase Known limit depth (is_base base) base → FitsPredicates Known limit depth (tree first rest) →
        Fits Known limit depth behind (filtered offset base (tree first rest))
    fits_variable : (depth : ℕ) (behind : Bool) (offset : ℕ) (name : List ℕ) →
        Known (token.Variable name) → Fits Known limit depth behind (variable offset name)
    fits_literal : (depth : ℕ) (behind : Bool) (offset : ℕ) (value : List ℕ) →
        Known (token.Literal value) → Fits Known limit depth behind (literal offset value)
    fits_number : (depth : ℕ) (behind : Bool) (offset : ℕ) (digits : List ℕ) →
        Known (token.Number digits) → Fits Known limit depth behind (number offset digits)
    fits_call : (depth : ℕ) (behind : Bool) (offset : ℕ) (name : List ℕ) (args : Trees) →
        Known (token.Function name) → suc depth ≤ limit → FitsArguments Known limit (suc depth) args →
        Fits Known limit depth behind (call offset name args)

  -- an operand among operators that bind as said
  pub data FitsAround (Known : Token → Type 0) (limit : ℕ) : ℕ → ℕ → Bool → Tree → Type 0 where
    around_bare : (depth around : ℕ) (behind : Bool) (e : Tree) →
        around < binding_of e → Fits Known limit depth behind e → FitsAround Known limit depth around behind e
    around_within : (depth around : ℕ) (behind : Bool) (e : Tree) →
        binding_of e ≤ around → suc depth ≤ limit → Fits Known limit (suc depth) false e → FitsAround Known limit depth around behind e

  pub data FitsOperands (Known : Token → Type 0) (limit : ℕ) : Level → ℕ → Bool → Operands → Type 0 where
    fits_no_more : (n : Level) (depth : ℕ) (behind : Bool) → FitsOperands Known limit n depth behind no_operands
    fits_one_more : (n : Level) (depth : ℕ) (behind : Bool) (o : Operator) (at : ℕ) (e : Tree) (rest : Operands) →
        level_of o ≡ n → FitsAround Known limit depth (binding n) (name_like_next behind rest) e →
        FitsOperands Known limit n depth behind rest → FitsOperands Known limit n depth behind (operand o at e rest)

  -- the base of predicates or of a path, bare or in parentheses
  pub data FitsBase (Known : Token → Type 0) (limit : ℕ) : ℕ → Bool → Tree → Type 0 where
    base_bare : (depth : ℕ) (bare : Bool) (e : Tree) → bare ≡ true → Fits Known limit depth false e → FitsBase Known limit depth bare e
    base_within : (depth : ℕ) (bare : Bool) (e : Tree) → bare ≡ false → suc depth ≤ limit → Fits Known limit (suc depth) false e →
        FitsBase Known limit depth bare e

  -- one step or more
  pub data FitsSteps (Known : Token → Type 0) (limit : ℕ) : ℕ → Steps → Type 0 where
    fits_step : (depth offset : ℕ) (a : AxisName) (k : StepTest) (at : ℕ) (ps : Trees) (rest : Steps) →
        FitsTest Known k → FitsPredicates Known limit depth ps → FitsMoreSteps Known limit depth rest →
        FitsSteps Known limit depth (step offset a k at ps rest)

  pub data FitsMoreSteps (Known : Token → Type 0) (limit : ℕ) : ℕ → Steps → Type 0 where
    fits_no_more_steps : (depth : ℕ) → FitsMoreSteps Known limit depth no_steps
    fits_more_steps : (depth offset : ℕ) (a : AxisName) (k : StepTest) (at : ℕ) (ps : Trees) (rest : Steps) →
        FitsSteps Known limit depth (step offset a k at ps rest) → FitsMoreSteps Known limit depth (step offset a k at ps rest)

  pub data FitsPredicates (Known : Token → Type 0) (limit : ℕ) : ℕ → Trees → Type 0 where
    fits_no_predicate : (depth : ℕ) → FitsPredicates Known limit depth no_trees
    fits_predicate : (depth : ℕ) (e : Tree) (rest : Trees) → suc depth ≤ limit → Fits Known limit (suc depth) false e →
        FitsPredicates Known limit depth rest → FitsPredicates Known limit depth (tree e rest)

  pub data FitsArguments (Known : Token → Type 0) (limit : ℕ) : ℕ → Trees → Type 0 where
    fits_no_argument : (depth : ℕ) → FitsArguments Known limit depth no_trees
    fits_argument : (depth : ℕ) (e : Tree) (rest : Trees) → Fits Known limit depth false e →
        FitsArguments Known limit depth rest → FitsArguments Known limit depth (tree e rest)

-- what fits one deeper fits here too, whatever stands after it
mutual
  pub lower : (Known : Token → Type 0) (limit d : ℕ) {d' : ℕ} {b : Bool} {e : Tree} → Fits Known limit d' b e → d' ≡ suc d → suc d ≤ limit →
      (c : Bool) → Fits Known limit d c e
  lower Known limit d (fits_chain d' b n offset first o at second rest F T) is room c =
      fits_chain d c n offset first o at second rest
      (lower_around Known limit d F is room (name_like_next c (operand o at second rest))) (lower_operands Known limit d T is room c)
  lower Known limit d (fits_negated d' b offset count e fits F) is room c =
      fits_negated d c offset count e (omega (arith, fits, is)) (lower_around Known limit d F is room c)
  lower Known limit d (fits_root d' offset) is room true = fits_root_within d offset room
  lower Known limit d (fits_root d' offset) is room false = fits_root d offset
  lower Known limit d (fits_root_within d' offset inner) is room true = fits_root_within d offset room
  lower Known limit d (fits_root_within d' offset inner) is room false = fits_root d offset
  lower Known limit d (fits_from_root d' b offset at a k k_at ps rest F) is room c =
      fits_from_root d c offset at a k k_at ps rest (lower_steps Known limit d F is room)
  lower Known limit d (fits_from_here d' b offset at a k k_at ps rest F) is room c =
      fits_from_here d c offset at a k k_at ps rest (lower_steps Known limit d F is room)
  lower Known limit d (fits_from_base d' b offset base at a k k_at ps rest B F) is room c =
      fits_from_base d c offset base at a k k_at ps rest (lower_base Known limit d B is room) (lower_steps Known limit d F is room)
  lower Known limit d (fits_filtered d' b offset base first rest B P) is room c =
      fits_filtered d c offset base first rest (lower_base Known limit d B is room) (lower_predicates Known limit d P is room)
  lower Known limit d (fits_variable d' b offset name known) is room c = fits_variable d c offset name known
  lower Known limit d (fits_literal d' b offset value known) is room c = fits_literal d c offset value known
  lower Known limit d (fits_number d' b offset digits known) is room c = fits_number d c offset digits known
  lower Known limit d (fits_call d' b offset name args known inner A) is room c =
      fits_call d c offset name args known room (lower_arguments Known limit (suc d) A (λ i. suc (is i)) (omega (arith, inner, is)))

  pub lower_around : (Known : Token → Type 0) (limit d : ℕ) {d' around : ℕ} {b : Bool} {e : Tree} → FitsAround Known limit d' around b e →
      d' ≡ suc d → suc d ≤ limit → (c : Bool) → FitsAround Known limit d around c e
  lower_around Known limit d (around_bare d' around b e tighter F) is room c = around_bare d around c e tighter (lower Known limit d F is room c)
  lower_around Known limit d (around_within d' around b e looser inner F) is room c =
      around_within d around c e looser room (lower Known limit (suc d) F (λ i. suc (is i)) (omega (arith, inner, is)) false)

  pub lower_operands : (Known : Token → Type 0) (limit d : ℕ) {n : Level} {d' : ℕ} {b : Bool} {rest : Operands} → FitsOperands Known limit n d' b rest →
      d' ≡ suc d → suc d ≤ limit → (c : Bool) → FitsOperands Known limit n d c rest
  lower_operands Known limit d (fits_no_more n d' b) is room c = fits_no_more n d c
  lower_operands Known limit d (fits_one_more n d' b o at e rest level F T) is room c =
      fits_one_more n d c o at e rest level (lower_around Known limit d F is room (name_like_next c rest)) (lower_operands Known limit d T is room c)

  pub lower_base : (Known : Token → Type 0) (limit d : ℕ) {d' : ℕ} {bare : Bool} {e : Tree} → FitsBase Known limit d' bare e →
      d' ≡ suc d → suc d ≤ limit → FitsBase Known limit d bare e
  lower_base Known limit d (base_bare d' bare e stands F) is room = base_bare d bare e stands (lower Known limit d F is room false)
  lower_base Known limit d (base_within d' bare e stands inner F) is room =
      base_within d bare e stands room (lower Known limit (suc d) F (λ i. suc (is i)) (omega (arith, inner, is)) false)

  pub lower_steps : (Known : Token → Type 0) (limit d : ℕ) {d' : ℕ} {ss : Steps} → FitsSteps Known limit d' ss →
      d' ≡ suc d → suc d ≤ limit → FitsSteps Known limit d ss
  lower_steps Known limit d (fits_step d' offset a k at ps rest T P M) is room =
      fits_step d offset a k at ps rest T (lower_predicates Known limit d P is room) (lower_more_steps Known limit d M is room)

  pub lower_more_steps : (Known : Token → Type 0) (limit d : ℕ) {d' : ℕ} {ss : Steps} → FitsMoreSteps Known limit d' ss →
      d' ≡ suc d → suc d ≤ limit → FitsMoreSteps Known limit d ss
  lower_more_steps Known limit d (fits_no_more_steps d') is room = fits_no_more_steps d
  lower_more_steps Known limit d (fits_more_steps d' offset a k at ps rest F) is room =
      fits_more_steps d offset a k at ps rest (lower_steps Known limit d F is room)

  pub lower_predicates : (Known : Token → Type 0) (limit d : ℕ) {d' : ℕ} {es : Trees} → FitsPredicates Known limit d' es →
      d' ≡ suc d → suc d ≤ limit → FitsPredicates Known limit d es
  lower_predicates Known limit d (fits_no_predicate d') is room = fits_no_predicate d
  lower_predicates Known limit d (fits_predicate d' e rest inner F P) is room =
      fits_predicate d e rest room (lower Known limit (suc d) F (λ i. suc (is i)) (omega (arith, inner, is)) false) (lower_predicates Known limit d P is room)

  pub lower_arguments : (Known : Token → Type 0) (limit d : ℕ) {d' : ℕ} {es : Trees} → FitsArguments Known limit d' es →
      d' ≡ suc d → suc d ≤ limit → FitsArguments Known limit d es
  lower_arguments Known limit d (fits_no_argument d') is room = fits_no_argument d
  lower_arguments Known limit d (fits_argument d' e rest F A) is room =
      fits_argument d e rest (lower Known limit d F is room false) (lower_arguments Known limit d A is room)
