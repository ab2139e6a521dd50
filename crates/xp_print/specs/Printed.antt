-- The text of an expression, without abbreviations: XPath 1.0, sections 2 and 3.
use Rattle.std.specs.Prelude.{ℕ, Bool, true, false, List, [], ◌∷◌, ◌++◌, None, Some, if◌then◌else◌, nat_le, ◌==◌, replicate, codes}
use Rattle.std.specs.List.{list_any}
use Rattle.xp_tree.specs.declared.terms.Level.{Level}
use Rattle.xp_tree.specs.declared.terms.Level.TheVariants as levels
use Rattle.xp_tree.specs.declared.terms.Operator.{Operator}
use Rattle.xp_tree.specs.declared.terms.Operator.TheVariants as operators
use Rattle.xp_tree.specs.declared.terms.StepTest.{StepTest}
use Rattle.xp_tree.specs.declared.terms.StepTest.TheVariants as tests
use Rattle.xp_tree.specs.AxisNames.{axis_text}
use Rattle.xp_tree.specs.Tree.{Tree, PathStart, Steps, Operands, Trees, chain, negated, path, filtered, variable, literal, number, call, root, here, from, no_steps, step, no_operands, operand, no_trees, tree}

-- how tightly the operators of a level bind; a sign binds tighter than all but `|`
abbrev pub binding : Level → ℕ
binding levels.Or = 0
binding levels.And = 1
binding levels.Equal = 2
binding levels.Rel = 3
binding levels.Sum = 4
binding levels.Prod = 5
binding levels.Union = 7

abbrev pub sign_binding : ℕ
sign_binding = 6

abbrev pub binding_of : Tree → ℕ
binding_of (chain level offset first rest) = binding level
binding_of (negated offset count e) = sign_binding
binding_of _ = 8

abbrev pub operator_text : Operator → List ℕ
operator_text operators.Or = codes " or "
operator_text operators.And = codes " and "
operator_text operators.Equal = codes " = "
operator_text operators.NotEqual = codes " != "
operator_text operators.Less = codes " < "
operator_text operators.AtMost = codes " <= "
operator_text operators.Greater = codes " > "
operator_text operators.AtLeast = codes " >= "
operator_text operators.Plus = codes " + "
operator_text operators.Minus = codes " - "
operator_text operators.Times = codes " * "
operator_text operators.Div = codes " div "
operator_text operators.Mod = codes " mod "
operator_text operators.Union = codes " | "

-- the operator would be read as a name test after a `/`
abbrev pub is_name_like : Operator → Bool
is_name_like operators.Or = true
is_name_like operators.And = true
is_name_like operators.Times = true
is_name_like operators.Div = true
is_name_like operators.Mod = true
is_name_like _ = false

-- the token after an operand is such an operator: the next one, or what stands after the chain
abbrev pub name_like_next : Bool → Operands → Bool
name_like_next behind no_operands = behind
name_like_next behind (operand operator offset e rest) = is_name_like operator

-- single quotes, or double ones for a text that holds a single one
abbrev pub quote_of : List ℕ → List ℕ
quote_of value = if list_any (λ c. c == 39) value then 34 ∷ [] else 39 ∷ []

abbrev pub quoted : List ℕ → List ℕ
quoted value = quote_of value ++ (value ++ quote_of value)

abbrev pub test_text : StepTest → List ℕ
test_text tests.Star = codes "*"
test_text (tests.InPrefix prefix) = prefix ++ codes ":*"
test_text (tests.Named None local) = local
test_text (tests.Named (Some prefix) local) = prefix ++ (codes ":" ++ local)
test_text tests.Node = codes "node()"
test_text tests.Chars = codes "text()"
test_text tests.Comment = codes "comment()"
test_text tests.Pi = codes "processing-instruction()"
test_text (tests.PiNamed target) = codes "processing-instruction(" ++ (quoted target ++ codes ")")

abbrev pub bracketed : List ℕ → List ℕ
bracketed text = codes "(" ++ (text ++ codes ")")

-- an operand: in parentheses where its operators bind as loosely as those round it, or more so
abbrev pub operand_text : ℕ → Tree → List ℕ → List ℕ → List ℕ
operand_text around e within bare = if nat_le (binding_of e) around then bracketed within else bare

-- what stands bare as the base of predicates: a variable, a literal, a number, a call
abbrev pub is_base : Tree → Bool
is_base (variable offset name) = true
is_base (literal offset value) = true
is_base (number offset digits) = true
is_base (call offset name args) = true
is_base _ = false

-- as the base of a path also an expression with predicates
abbrev pub is_path_base : Tree → Bool
is_path_base (filtered offset base predicates) = true
is_path_base e = is_base e

abbrev pub enclosed : Bool → List ℕ → List ℕ
enclosed bare text = if bare then text else bracketed text

-- `/` alone stands in parentheses before what would be read as a name test after it
abbrev pub is_bare_path : Bool → PathStart → Steps → Bool
is_bare_path true root no_steps = false
is_bare_path _ _ _ = true

-- a text but for one case
abbrev pub unless : Bool → List ℕ → List ℕ
unless true text = []
unless false text = text

abbrev mutual
  -- the text of an expression; whether a name-like operator stands after it
  pub printed : Bool → Tree → List ℕ
  printed behind (chain level offset first rest) =
      operand_text (binding level) first (printed false first) (printed (name_like_next behind rest) first) ++ printed_rest (binding level) behind rest
  printed behind (negated offset count e) = replicate count 45 ++ operand_text sign_binding e (printed false e) (printed behind e)
  printed behind (path offset start steps) = enclosed (is_bare_path behind start steps) (printed_start start ++ printed_steps true steps)
  printed behind (filtered offset base predicates) = enclosed (is_base base) (printed false base) ++ printed_predicates predicates
  printed behind (variable offset name) = codes "$" ++ name
  printed behind (literal offset value) = quoted value
  printed behind (number offset digits) = digits
  printed behind (call offset name args) = name ++ (codes "(" ++ (printed_args true args ++ codes ")"))

  pub printed_start : PathStart → List ℕ
  printed_start root = codes "/"
  printed_start here = []
  printed_start (from base) = enclosed (is_path_base base) (printed false base) ++ codes "/"

  -- steps joined by `/`
  pub printed_steps : Bool → Steps → List ℕ
  printed_steps first no_steps = []
  printed_steps first (step offset axis node_test test_offset predicates rest) =
      unless first (codes "/") ++ (axis_text axis ++ (codes "::" ++ (test_text node_test ++ (printed_predicates predicates ++ printed_steps false rest))))

  -- the later operands of a chain, each with the operator before it
  pub printed_rest : ℕ → Bool → Operands → List ℕ
  printed_rest around behind no_operands = []
  printed_rest around behind (operand operator offset e rest) =
      operator_text operator ++ (operand_text around e (printed false e) (printed (name_like_next behind rest) e) ++ printed_rest around behind rest)

  pub printed_predicates : Trees → List ℕ
  printed_predicates no_trees = []
  printed_predicates (tree e es) = codes "[" ++ (printed false e ++ (codes "]" ++ printed_predicates es))

  -- arguments joined by `, `
  pub printed_args : Bool → Trees → List ℕ
  printed_args first no_trees = []
  printed_args first (tree e es) = unless first (codes ", ") ++ (printed false e ++ printed_args false es)

-- the operands of a chain with the operators between them
abbrev pub printed_chain : ℕ → Bool → Tree → Operands → List ℕ
printed_chain around behind first rest = operand_text around first (printed false first) (printed (name_like_next behind rest) first) ++ printed_rest around behind rest
