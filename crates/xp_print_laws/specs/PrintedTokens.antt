-- The tokens of the printed text of an expression, without abbreviations: XPath 1.0, section 3.7.
use Rattle.std.specs.Prelude.{ℕ, Bool, true, false, List, [], ◌∷◌, ◌++◌, if◌then◌else◌, nat_le, replicate}
use Rattle.xp_tree.specs.declared.terms.Operator.TheVariants as operators
use Rattle.xp_tree.specs.declared.terms.StepTest.{StepTest}
use Rattle.xp_tree.specs.declared.terms.StepTest.TheVariants as tests
use Rattle.xp_tree.specs.Tree.{Tree, PathStart, Steps, Operands, Trees, chain, negated, path, filtered, variable, literal, number, call, root, here, from, no_steps, step, no_operands, operand, no_trees, tree}
use Rattle.xp_grammar.specs.declared.token.Token.{Token}
use Rattle.xp_grammar.specs.declared.token.Token.TheVariants as token
use Rattle.xp_grammar.specs.declared.token.NodeType.TheVariants as node_type
use Rattle.xp_print.specs.Printed.{binding, binding_of, sign_binding, name_like_next, is_bare_path, is_base, is_path_base, test_text}

abbrev pub in_parens : List Token → List Token
in_parens tokens = token.OpenParen ∷ (tokens ++ (token.CloseParen ∷ []))

-- an operand: in parentheses where its operators bind as loosely as those round it, or more so
abbrev pub operand_tokens : ℕ → Tree → List Token → List Token → List Token
operand_tokens around e within bare = if nat_le (binding_of e) around then in_parens within else bare

abbrev pub enclosed_tokens : Bool → List Token → List Token
enclosed_tokens bare tokens = if bare then tokens else in_parens tokens

-- a token but for one case
abbrev pub unless_token : Bool → Token → List Token
unless_token true t = []
unless_token false t = t ∷ []

abbrev pub test_tokens : StepTest → List Token
test_tokens tests.Star = token.Star ∷ []
test_tokens (tests.InPrefix prefix) = token.PrefixStar prefix ∷ []
test_tokens (tests.Named prefix local) = token.Name (test_text (tests.Named prefix local)) ∷ []
test_tokens tests.Node = token.NodeType node_type.Node ∷ token.OpenParen ∷ token.CloseParen ∷ []
test_tokens tests.Chars = token.NodeType node_type.Chars ∷ token.OpenParen ∷ token.CloseParen ∷ []
test_tokens tests.Comment = token.NodeType node_type.Comment ∷ token.OpenParen ∷ token.CloseParen ∷ []
test_tokens tests.Pi = token.NodeType node_type.Pi ∷ token.OpenParen ∷ token.CloseParen ∷ []
test_tokens (tests.PiNamed target) =
    token.NodeType node_type.Pi ∷ token.OpenParen ∷ token.Literal target ∷ token.CloseParen ∷ []

abbrev mutual
  -- the tokens of an expression; whether a name-like operator stands after it
  pub tokens_printed : Bool → Tree → List Token
  tokens_printed behind (chain level offset first rest) =
      operand_tokens (binding level) first (tokens_printed false first) (tokens_printed (name_like_next behind rest) first)
      ++ rest_tokens (binding level) behind rest
  tokens_printed behind (negated offset count e) =
      replicate count (token.Operator operators.Minus) ++ operand_tokens sign_binding e (tokens_printed false e) (tokens_printed behind e)
  tokens_printed behind (path offset start steps) =
      enclosed_tokens (is_bare_path behind start steps) (start_tokens start ++ steps_tokens true steps)
  tokens_printed behind (filtered offset base predicates) =
      enclosed_tokens (is_base base) (tokens_printed false base) ++ predicates_tokens predicates
  tokens_printed behind (variable offset name) = token.Variable name ∷ []
  tokens_printed behind (literal offset value) = token.Literal value ∷ []
  tokens_printed behind (number offset digits) = token.Number digits ∷ []
  tokens_printed behind (call offset name args) =
      token.Function name ∷ token.OpenParen ∷ (arguments_tokens true args ++ (token.CloseParen ∷ []))

  pub start_tokens : PathStart → List Token
  start_tokens root = token.Slash ∷ []
  start_tokens here = []
  start_tokens (from base) = enclosed_tokens (is_path_base base) (tokens_printed false base) ++ (token.Slash ∷ [])

  -- steps joined by `/`
  pub steps_tokens : Bool → Steps → List Token
  steps_tokens first no_steps = []
  steps_tokens first (step offset axis node_test test_offset predicates rest) =
      unless_token first token.Slash
      ++ (token.Axis axis ∷ token.DoubleColon ∷ (test_tokens node_test ++ (predicates_tokens predicates ++ steps_tokens false rest)))

  -- the later operands of a chain, each with the operator before it
  pub rest_tokens : ℕ → Bool → Operands → List Token
  rest_tokens around behind no_operands = []
  rest_tokens around behind (operand operator offset e rest) =
      token.Operator operator ∷ (operand_tokens around e (tokens_printed false e) (tokens_printed (name_like_next behind rest) e) ++ rest_tokens around behind rest)

  pub predicates_tokens : Trees → List Token
  predicates_tokens no_trees = []
  predicates_tokens (tree e es) = token.OpenBracket ∷ (tokens_printed false e ++ (token.CloseBracket ∷ predicates_tokens es))

  -- arguments joined by `,`
  pub arguments_tokens : Bool → Trees → List Token
  arguments_tokens first no_trees = []
  arguments_tokens first (tree e es) = unless_token first token.Comma ++ (tokens_printed false e ++ arguments_tokens false es)
