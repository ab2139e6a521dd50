-- The kinds of tokens, by which derivations are told apart.
use Rattle.std.proofs.Common.{◌≡◌, ℕ, suc, ◌<◌, ◌≤◌, List, [], ◌∷◌, Option, None, Some, refl, subst, arith}
use Rattle.xp_tree.specs.declared.terms.Level.{Level}
use Rattle.xp_tree.specs.declared.terms.Level.TheVariants as level
use Rattle.xp_tree.specs.declared.terms.AxisName.{AxisName}
use Rattle.xp_grammar.specs.declared.token.Placed.{Placed}
use Rattle.xp_grammar.specs.declared.token.Token.{Token}
use Rattle.xp_grammar.specs.declared.token.Token.TheVariants as token
use Rattle.xp_grammar.specs.Parts.{level_of}
use Rattle.xp_grammar.specs.Grammar.{tighter}

-- how a step with a node test begins
pub data TestKind : Type 0 where
  from_at : TestKind
  from_axis : AxisName → TestKind
  from_test : TestKind

pub data StepKind : Type 0 where
  dot_kind : StepKind
  parent_kind : StepKind
  tested_kind : TestKind → StepKind

pub data Kind : Type 0 where
  step_kind : StepKind → Kind
  primary_kind : Kind
  slash_kind : Kind
  double_slash_kind : Kind
  bracket_kind : Kind
  -- an operator, by the rank of its level
  operator_kind : ℕ → Kind
  comma_kind : Kind
  end_kind : Kind

-- the levels, loosest first
abbrev pub rank : Level → ℕ
rank level.Or = 0
rank level.And = 1
rank level.Equal = 2
rank level.Rel = 3
rank level.Sum = 4
rank level.Prod = 5
rank level.Union = 6

abbrev pub kind_of : Token → Kind
kind_of token.OpenParen = primary_kind
kind_of token.CloseParen = end_kind
kind_of token.OpenBracket = bracket_kind
kind_of token.CloseBracket = end_kind
kind_of token.Dot = step_kind dot_kind
kind_of token.DoubleDot = step_kind parent_kind
kind_of token.At = step_kind (tested_kind from_at)
kind_of token.Comma = comma_kind
kind_of token.DoubleColon = end_kind
kind_of token.Slash = slash_kind
kind_of token.DoubleSlash = double_slash_kind
kind_of (token.Operator o) = operator_kind (rank (level_of o))
kind_of token.Star = step_kind (tested_kind from_test)
kind_of (token.PrefixStar prefix) = step_kind (tested_kind from_test)
kind_of (token.Name name) = step_kind (tested_kind from_test)
kind_of (token.Axis a) = step_kind (tested_kind (from_axis a))
kind_of (token.NodeType t) = step_kind (tested_kind from_test)
kind_of (token.Function name) = primary_kind
kind_of (token.Literal value) = primary_kind
kind_of (token.Number digits) = primary_kind
kind_of (token.Variable name) = primary_kind

-- the kind of the first of the tokens; the end of all counts as an end
abbrev pub head_kind : List Placed → Kind
head_kind [] = end_kind
head_kind (p ∷ s) = kind_of p.token

-- after the first token
abbrev pub rest_of : List Placed → List Placed
rest_of [] = []
rest_of (p ∷ s) = s

-- what may follow operands of ranks from k on: no operator among them joins it to more
abbrev pub Follows : ℕ → Kind → Type 0
Follows k (operator_kind r) = r < k
Follows k comma_kind = Unit {0}
Follows k end_kind = Unit {0}
Follows k _ = ⊥

-- what may follow predicates
abbrev pub NoBracket : Kind → Type 0
NoBracket bracket_kind = ⊥
NoBracket _ = Unit {0}

-- what may follow arguments
abbrev pub IsEnd : Kind → Type 0
IsEnd end_kind = Unit {0}
IsEnd _ = ⊥

-- what begins a path
abbrev pub BeginsPath : Kind → Type 0
BeginsPath (step_kind k) = Unit {0}
BeginsPath primary_kind = Unit {0}
BeginsPath slash_kind = Unit {0}
BeginsPath double_slash_kind = Unit {0}
BeginsPath _ = ⊥

-- what begins an expression
abbrev pub Begins : Kind → Type 0
Begins bracket_kind = ⊥
Begins comma_kind = ⊥
Begins end_kind = ⊥
Begins _ = Unit {0}

-- what is so of the kind of a token that is known
pub at_token : (P : Kind → Type 0) {t u : Token} → t ≡ u → P (kind_of t) → P (kind_of u)
at_token P is h = subst (λ x. P (kind_of x)) is h

pub looser : (j k : ℕ) (x : Kind) → j ≤ k → Follows j x → Follows k x
looser j k (operator_kind r) le h = omega (arith, le, h)
looser j k comma_kind le h = tt
looser j k end_kind le h = tt
looser j k _ le h = absurd h

pub no_bracket : (k : ℕ) (x : Kind) → Follows k x → NoBracket x
no_bracket k bracket_kind h = absurd h
no_bracket k _ h = tt

pub end_follows : (k : ℕ) (x : Kind) → IsEnd x → Follows k x
end_follows k end_kind h = tt
end_follows k _ h = absurd h

pub path_begins : (x : Kind) → BeginsPath x → Begins x
path_begins (step_kind k) h = tt
path_begins primary_kind h = tt
path_begins slash_kind h = tt
path_begins double_slash_kind h = tt
path_begins _ h = absurd h

-- the level within is one rank tighter
abbrev pub IsNext : Level → Option Level → Type 0
IsNext n None = Unit {0}
IsNext n (Some inner) = rank inner ≡ suc (rank n)

next_rank : (n : Level) → IsNext n (tighter n)
next_rank level.Or = refl
next_rank level.And = refl
next_rank level.Equal = refl
next_rank level.Rel = refl
next_rank level.Sum = refl
next_rank level.Prod = tt
next_rank level.Union = tt

pub tighter_rank : (n inner : Level) → tighter n ≡ Some inner → rank inner ≡ suc (rank n)
tighter_rank n inner is = subst (IsNext n) is (next_rank n)
