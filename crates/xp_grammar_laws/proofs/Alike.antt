-- A derivation that begins as another one has that one's form.
use Rattle.std.proofs.Common.{◌≡◌, ℕ, suc, ◌⊎◌, List, [], ◌∷◌, Option, None, Some, refl, sym, subst, inl, inr}
use Rattle.xp_tree.specs.Tree.{Tree, Steps, Operands, Trees, path, variable, literal, number, call, root, here, no_steps, step, no_trees}
use Rattle.xp_tree.specs.declared.terms.Level.{Level}
use Rattle.xp_tree.specs.declared.terms.Level.TheVariants as level
use Rattle.xp_tree.specs.declared.terms.AxisName.{AxisName}
use Rattle.xp_tree.specs.declared.terms.AxisName.TheVariants as axis
use Rattle.xp_tree.specs.declared.terms.StepTest.{StepTest}
use Rattle.xp_tree.specs.declared.terms.StepTest.TheVariants as test
use Rattle.xp_grammar.specs.declared.token.Placed.{Placed}
use Rattle.xp_grammar.specs.declared.token.Token.{Token}
use Rattle.xp_grammar.specs.declared.token.Token.TheVariants as token
use Rattle.xp_grammar.specs.Parts.{offset_at, with_signs, with_steps, everywhere}
use Rattle.xp_grammar.specs.Grammar.{tighter, IsSigns, IsAxis, IsTest, IsChain, IsOperand, tighter_chain, signed, one_path, IsOperands, IsPath, root_alone, from_root, from_anywhere, from_here, from_filter, IsSteps, dot_step, parent_step, tested_step, IsMoreSteps, no_more_steps, slash_steps, double_slash_steps, IsPredicates, IsFilter, IsPrimary, a_variable, a_literal, a_number, in_parens, a_call, IsArguments, IsMoreArguments}
use Rattle.xp_grammar_laws.proofs.TokenKinds.{dot_kind, parent_kind, tested_kind, Kind, step_kind, primary_kind, slash_kind, double_slash_kind, head_kind, rest_of, Follows, at_token}
use Rattle.xp_grammar_laws.proofs.NodeTests.{tested_heads}
use Rattle.xp_grammar_laws.proofs.Begins.{steps_heads, filter_heads}

-- an operand with its signs
abbrev pub SignedAs : ℕ → ℕ → List Placed → List Placed → Tree → Type 0
SignedAs limit d s v f =
    (count : ℕ) × (m : List Placed) × (e : Tree) × IsSigns count s m × IsChain limit level.Union d m v e
    × (with_signs (offset_at s) count e ≡ f)

-- an operand of a level, by the level within
abbrev OperandAs : ℕ → ℕ → List Placed → List Placed → Tree → Level → Option Level → Type 0
OperandAs limit d s v f n (Some inner) = IsChain limit inner d s v f
OperandAs limit d s v f level.Union None = IsPath limit d s v f
OperandAs limit d s v f _ None = SignedAs limit d s v f

operand_as : {limit d : ℕ} {n : Level} {s v : List Placed} {f : Tree} → IsOperand limit n d s v f →
    OperandAs limit d s v f n (tighter n)
operand_as {limit} (tighter_chain n inner d s v f is D) = subst (OperandAs limit d s v f n) (sym is) D
operand_as (signed d count s m v e S fits D) = (count, m, e, S, D, refl)
operand_as (one_path d s v f D) = D

pub chain_operand : {limit d : ℕ} {n inner : Level} {s v : List Placed} {f : Tree} → tighter n ≡ Some inner →
    IsOperand limit n d s v f → IsChain limit inner d s v f
chain_operand {limit} {d} {n} {inner} {s} {v} {f} is E = subst (OperandAs limit d s v f n) is (operand_as E)

pub signed_operand : {limit d : ℕ} {s v : List Placed} {f : Tree} → IsOperand limit level.Prod d s v f → SignedAs limit d s v f
signed_operand E = operand_as E

pub path_operand : {limit d : ℕ} {s v : List Placed} {f : Tree} → IsOperand limit level.Union d s v f → IsPath limit d s v f
path_operand E = operand_as E

-- the steps of a path from here
abbrev pub StepsAs : ℕ → ℕ → List Placed → List Placed → Tree → Type 0
StepsAs limit d s v f = (ss : Steps) × IsSteps limit d s v ss × (path (offset_at s) here ss ≡ f)

-- a filter with the steps after it
abbrev pub FilterAs : ℕ → ℕ → List Placed → List Placed → Tree → Type 0
FilterAs limit d s v f =
    (m : List Placed) × (e : Tree) × (ss : Steps) × IsFilter limit d s m e × IsMoreSteps limit d m v ss
    × (with_steps (offset_at s) e ss ≡ f)

-- after the slash of the root: nothing or steps
abbrev pub RootAs : ℕ → ℕ → ℕ → List Placed → List Placed → Tree → Type 0
RootAs limit d offset s v f =
    ((s ≡ v) × (path offset root no_steps ≡ f)) ⊎ ((ss : Steps) × IsSteps limit d s v ss × (path offset root ss ≡ f))

-- after the double slash of the root
abbrev pub AnywhereAs : ℕ → ℕ → ℕ → List Placed → List Placed → Tree → Type 0
AnywhereAs limit d offset s v f = (ss : Steps) × IsSteps limit d s v ss × (path offset root (everywhere offset ss) ≡ f)

abbrev PathAs : ℕ → ℕ → List Placed → List Placed → Tree → Kind → Type 0
PathAs limit d s v f (step_kind k) = StepsAs limit d s v f
PathAs limit d s v f primary_kind = FilterAs limit d s v f
PathAs limit d s v f slash_kind = RootAs limit d (offset_at s) (rest_of s) v f
PathAs limit d s v f double_slash_kind = AnywhereAs limit d (offset_at s) (rest_of s) v f
PathAs limit d s v f _ = ⊥

path_as : {limit d : ℕ} {s v : List Placed} {f : Tree} → IsPath limit d s v f → PathAs limit d s v f (head_kind s)
path_as {limit} (root_alone d p s is) =
    at_token (PathAs limit d (p ∷ s) s (path p.offset root no_steps)) (sym is) (inl (refl, refl))
path_as {limit} (from_root d p s v ss is D) =
    at_token (PathAs limit d (p ∷ s) v (path p.offset root ss)) (sym is) (inr (ss, D, refl))
path_as {limit} (from_anywhere d p s v ss is D) =
    at_token (PathAs limit d (p ∷ s) v (path p.offset root (everywhere p.offset ss))) (sym is) (ss, D, refl)
path_as {limit} (from_here d s v ss D) =
    let (k, is) = steps_heads D in subst (PathAs limit d s v (path (offset_at s) here ss)) (sym is) (ss, D, refl)
path_as {limit} (from_filter d s m v e ss D M) =
    subst (PathAs limit d s v (with_steps (offset_at s) e ss)) (sym (filter_heads D)) (m, e, ss, D, M, refl)

pub slash_path : {limit d : ℕ} {p : Placed} {s v : List Placed} {f : Tree} → p.token ≡ token.Slash →
    IsPath limit d (p ∷ s) v f → RootAs limit d p.offset s v f
slash_path {limit} {d} {p} {s} {v} {f} is E = at_token (PathAs limit d (p ∷ s) v f) is (path_as E)

pub double_slash_path : {limit d : ℕ} {p : Placed} {s v : List Placed} {f : Tree} → p.token ≡ token.DoubleSlash →
    IsPath limit d (p ∷ s) v f → AnywhereAs limit d p.offset s v f
double_slash_path {limit} {d} {p} {s} {v} {f} is E = at_token (PathAs limit d (p ∷ s) v f) is (path_as E)

pub steps_path : {limit higher c d : ℕ} {s u v : List Placed} {ss : Steps} {f : Tree} → IsSteps limit c s u ss →
    IsPath higher d s v f → StepsAs higher d s v f
steps_path {higher = higher} {d = d} {s = s} {v = v} {f = f} D E =
    let (k, is) = steps_heads D in subst (PathAs higher d s v f) is (path_as E)

pub filter_path : {limit higher c d : ℕ} {s u v : List Placed} {e f : Tree} → IsFilter limit c s u e →
    IsPath higher d s v f → FilterAs higher d s v f
filter_path {higher = higher} {d = d} {s = s} {v = v} {f = f} D E = subst (PathAs higher d s v f) (filter_heads D) (path_as E)

-- a step without a node test, and those after it
abbrev pub BareAs : ℕ → ℕ → ℕ → AxisName → List Placed → List Placed → Steps → Type 0
BareAs limit d offset a s v ss =
    (rest : Steps) × IsMoreSteps limit d s v rest × (step offset a test.Node offset no_trees rest ≡ ss)

-- a step with a node test, and those after it
pub record TestedAs (limit d : ℕ) (s v : List Placed) (ss : Steps) : Type 0 where
  pub t : List Placed
  pub w : List Placed
  pub x : List Placed
  pub name : AxisName
  pub kind : StepTest
  pub predicates : Trees
  pub rest : Steps
  pub on_axis : IsAxis s t name
  pub passes : IsTest t w kind
  pub filters : IsPredicates limit d w x predicates
  pub goes_on : IsMoreSteps limit d x v rest
  pub is : step (offset_at s) name kind (offset_at t) predicates rest ≡ ss

abbrev StepAs : ℕ → ℕ → List Placed → List Placed → Steps → Kind → Type 0
StepAs limit d s v ss (step_kind dot_kind) = BareAs limit d (offset_at s) axis.SelfNode (rest_of s) v ss
StepAs limit d s v ss (step_kind parent_kind) = BareAs limit d (offset_at s) axis.Parent (rest_of s) v ss
StepAs limit d s v ss (step_kind (tested_kind k)) = TestedAs limit d s v ss
StepAs limit d s v ss _ = ⊥

step_as : {limit d : ℕ} {s v : List Placed} {ss : Steps} → IsSteps limit d s v ss → StepAs limit d s v ss (head_kind s)
step_as {limit} (dot_step d p s v rest is M) =
    at_token (StepAs limit d (p ∷ s) v (step p.offset axis.SelfNode test.Node p.offset no_trees rest)) (sym is) (rest, M, refl)
step_as {limit} (parent_step d p s v rest is M) =
    at_token (StepAs limit d (p ∷ s) v (step p.offset axis.Parent test.Node p.offset no_trees rest)) (sym is) (rest, M, refl)
step_as {limit} (tested_step d s t w x v a k ps rest A T P M) =
    let (y, is) = tested_heads A T in
    subst (StepAs limit d s v (step (offset_at s) a k (offset_at t) ps rest)) (sym is) (record {
      t = t;
      w = w;
      x = x;
      name = a;
      kind = k;
      predicates = ps;
      rest = rest;
      on_axis = A;
      passes = T;
      filters = P;
      goes_on = M;
      is = refl;
    })

pub dot_steps : {limit d : ℕ} {p : Placed} {s v : List Placed} {ss : Steps} → p.token ≡ token.Dot →
    IsSteps limit d (p ∷ s) v ss → BareAs limit d p.offset axis.SelfNode s v ss
dot_steps {limit} {d} {p} {s} {v} {ss} is E = at_token (StepAs limit d (p ∷ s) v ss) is (step_as E)

pub parent_steps : {limit d : ℕ} {p : Placed} {s v : List Placed} {ss : Steps} → p.token ≡ token.DoubleDot →
    IsSteps limit d (p ∷ s) v ss → BareAs limit d p.offset axis.Parent s v ss
parent_steps {limit} {d} {p} {s} {v} {ss} is E = at_token (StepAs limit d (p ∷ s) v ss) is (step_as E)

pub tested_steps : {limit d : ℕ} {s t u v : List Placed} {a : AxisName} {k : StepTest} {ss : Steps} →
    IsAxis s t a → IsTest t u k → IsSteps limit d s v ss → TestedAs limit d s v ss
tested_steps {limit} {d} {s} {v = v} {ss = ss} A T E =
    let (y, is) = tested_heads A T in subst (StepAs limit d s v ss) is (step_as E)

-- more steps, by the kind of what stands there
abbrev MoreStepsAs : ℕ → ℕ → List Placed → List Placed → Steps → Kind → Type 0
MoreStepsAs limit d s v ss slash_kind = IsSteps limit d (rest_of s) v ss
MoreStepsAs limit d s v ss double_slash_kind =
    (rest : Steps) × IsSteps limit d (rest_of s) v rest × (everywhere (offset_at s) rest ≡ ss)
MoreStepsAs limit d s v ss _ = (s ≡ v) × (no_steps ≡ ss)

none_as : (limit d : ℕ) (s : List Placed) (x : Kind) → Follows 7 x → MoreStepsAs limit d s s no_steps x
none_as limit d s slash_kind h = absurd h
none_as limit d s double_slash_kind h = absurd h
none_as limit d s _ h = (refl, refl)

as_none : (limit d : ℕ) (s v : List Placed) (ss : Steps) (x : Kind) → Follows 7 x → MoreStepsAs limit d s v ss x →
    (s ≡ v) × (no_steps ≡ ss)
as_none limit d s v ss slash_kind h m = absurd h
as_none limit d s v ss double_slash_kind h m = absurd h
as_none limit d s v ss _ h m = m

more_steps_as : {limit d : ℕ} {s v : List Placed} {ss : Steps} → IsMoreSteps limit d s v ss → Follows 7 (head_kind v) →
    MoreStepsAs limit d s v ss (head_kind s)
more_steps_as {limit} (no_more_steps d s) h = none_as limit d s (head_kind s) h
more_steps_as {limit} (slash_steps d p s v ss is D) h = at_token (MoreStepsAs limit d (p ∷ s) v ss) (sym is) D
more_steps_as {limit} (double_slash_steps d p s v ss is D) h =
    at_token (MoreStepsAs limit d (p ∷ s) v (everywhere p.offset ss)) (sym is) (ss, D, refl)

pub none_more : {limit d : ℕ} {s v : List Placed} {ss : Steps} → IsMoreSteps limit d s v ss → Follows 7 (head_kind s) →
    Follows 7 (head_kind v) → (s ≡ v) × (no_steps ≡ ss)
none_more {limit} {d} {s} {v} {ss} E h k = as_none limit d s v ss (head_kind s) h (more_steps_as E k)

pub slash_more : {limit d : ℕ} {p : Placed} {s v : List Placed} {ss : Steps} → p.token ≡ token.Slash →
    IsMoreSteps limit d (p ∷ s) v ss → Follows 7 (head_kind v) → IsSteps limit d s v ss
slash_more {limit} {d} {p} {s} {v} {ss} is E h = at_token (MoreStepsAs limit d (p ∷ s) v ss) is (more_steps_as E h)

pub double_slash_more : {limit d : ℕ} {p : Placed} {s v : List Placed} {ss : Steps} → p.token ≡ token.DoubleSlash →
    IsMoreSteps limit d (p ∷ s) v ss → Follows 7 (head_kind v) →
    (rest : Steps) × IsSteps limit d s v rest × (everywhere p.offset rest ≡ ss)
double_slash_more {limit} {d} {p} {s} {v} {ss} is E h =
    at_token (MoreStepsAs limit d (p ∷ s) v ss) is (more_steps_as E h)

-- an expression in parentheses
abbrev pub ParensAs : ℕ → ℕ → List Placed → List Placed → Tree → Type 0
ParensAs limit d s v f = (q : Placed) × IsChain limit level.Or (suc d) s (q ∷ v) f × (q.token ≡ token.CloseParen)

-- a call, from its parenthesis on
abbrev pub CallAs : ℕ → ℕ → ℕ → List ℕ → List Placed → List Placed → Tree → Type 0
CallAs limit d offset name s v f =
    (r : Placed) × (args : Trees) × IsArguments limit (suc d) s (r ∷ v) args × (r.token ≡ token.CloseParen)
    × (call offset name args ≡ f)

abbrev PrimaryAs : ℕ → ℕ → ℕ → List Placed → List Placed → Tree → Token → Type 0
PrimaryAs limit d offset s v f (token.Variable name) = (s ≡ v) × (variable offset name ≡ f)
PrimaryAs limit d offset s v f (token.Literal value) = (s ≡ v) × (literal offset value ≡ f)
PrimaryAs limit d offset s v f (token.Number digits) = (s ≡ v) × (number offset digits ≡ f)
PrimaryAs limit d offset s v f token.OpenParen = ParensAs limit d s v f
PrimaryAs limit d offset s v f (token.Function name) = CallAs limit d offset name (rest_of s) v f
PrimaryAs limit d offset s v f _ = ⊥

abbrev PrimaryAt : ℕ → ℕ → List Placed → List Placed → Tree → Type 0
PrimaryAt limit d [] v f = ⊥
PrimaryAt limit d (p ∷ s) v f = PrimaryAs limit d p.offset s v f p.token

primary_as : {limit d : ℕ} {s v : List Placed} {f : Tree} → IsPrimary limit d s v f → PrimaryAt limit d s v f
primary_as {limit} (a_variable d p s name is) =
    subst (PrimaryAs limit d p.offset s s (variable p.offset name)) (sym is) (refl, refl)
primary_as {limit} (a_literal d p s value is) =
    subst (PrimaryAs limit d p.offset s s (literal p.offset value)) (sym is) (refl, refl)
primary_as {limit} (a_number d p s digits is) =
    subst (PrimaryAs limit d p.offset s s (number p.offset digits)) (sym is) (refl, refl)
primary_as {limit} (in_parens d p q s v e is fits D closes) =
    subst (PrimaryAs limit d p.offset s v e) (sym is) (q, D, closes)
primary_as {limit} (a_call d p q r s v name args is opens fits D closes) =
    subst (PrimaryAs limit d p.offset (q ∷ s) v (call p.offset name args)) (sym is) (r, args, D, closes, refl)

pub variable_primary : {limit d : ℕ} {p : Placed} {s v : List Placed} {f : Tree} (name : List ℕ) → p.token ≡ token.Variable name →
    IsPrimary limit d (p ∷ s) v f → (s ≡ v) × (variable p.offset name ≡ f)
variable_primary {limit} {d} {p} {s} {v} {f} name is E = subst (PrimaryAs limit d p.offset s v f) is (primary_as E)

pub literal_primary : {limit d : ℕ} {p : Placed} {s v : List Placed} {f : Tree} (value : List ℕ) → p.token ≡ token.Literal value →
    IsPrimary limit d (p ∷ s) v f → (s ≡ v) × (literal p.offset value ≡ f)
literal_primary {limit} {d} {p} {s} {v} {f} value is E = subst (PrimaryAs limit d p.offset s v f) is (primary_as E)

pub number_primary : {limit d : ℕ} {p : Placed} {s v : List Placed} {f : Tree} (digits : List ℕ) → p.token ≡ token.Number digits →
    IsPrimary limit d (p ∷ s) v f → (s ≡ v) × (number p.offset digits ≡ f)
number_primary {limit} {d} {p} {s} {v} {f} digits is E = subst (PrimaryAs limit d p.offset s v f) is (primary_as E)

pub parens_primary : {limit d : ℕ} {p : Placed} {s v : List Placed} {f : Tree} → p.token ≡ token.OpenParen →
    IsPrimary limit d (p ∷ s) v f → ParensAs limit d s v f
parens_primary {limit} {d} {p} {s} {v} {f} is E = subst (PrimaryAs limit d p.offset s v f) is (primary_as E)

pub call_primary : {limit d : ℕ} {p q : Placed} {s v : List Placed} {f : Tree} (name : List ℕ) → p.token ≡ token.Function name →
    IsPrimary limit d (p ∷ q ∷ s) v f → CallAs limit d p.offset name s v f
call_primary {limit} {d} {p} {q} {s} {v} {f} name is E =
    subst (PrimaryAs limit d p.offset (q ∷ s) v f) is (primary_as E)

-- the same from an equal place
pub moved_chain : {limit d : ℕ} {n : Level} {m s v : List Placed} {f : Tree} → m ≡ s → IsChain limit n d m v f → IsChain limit n d s v f
moved_chain {limit} {d} {n} {v = v} {f = f} is E = subst (λ z. IsChain limit n d z v f) is E

pub moved_operands : {limit d : ℕ} {n : Level} {m s v : List Placed} {f : Operands} → m ≡ s → IsOperands limit n d m v f →
    IsOperands limit n d s v f
moved_operands {limit} {d} {n} {v = v} {f = f} is E = subst (λ z. IsOperands limit n d z v f) is E

pub moved_more_steps : {limit d : ℕ} {m s v : List Placed} {f : Steps} → m ≡ s → IsMoreSteps limit d m v f → IsMoreSteps limit d s v f
moved_more_steps {limit} {d} {v = v} {f = f} is E = subst (λ z. IsMoreSteps limit d z v f) is E

pub moved_predicates : {limit d : ℕ} {m s v : List Placed} {f : Trees} → m ≡ s → IsPredicates limit d m v f → IsPredicates limit d s v f
moved_predicates {limit} {d} {v = v} {f = f} is E = subst (λ z. IsPredicates limit d z v f) is E

pub moved_more_arguments : {limit d : ℕ} {m s v : List Placed} {f : Trees} → m ≡ s → IsMoreArguments limit d m v f →
    IsMoreArguments limit d s v f
moved_more_arguments {limit} {d} {v = v} {f = f} is E = subst (λ z. IsMoreArguments limit d z v f) is E

pub moved_test : {m s v : List Placed} {k : StepTest} → m ≡ s → IsTest m v k → IsTest s v k
moved_test {v = v} {k = k} is E = subst (λ z. IsTest z v k) is E
