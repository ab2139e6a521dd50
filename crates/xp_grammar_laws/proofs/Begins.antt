-- What derivations begin with, and what follows their parts.
use Rattle.std.proofs.Common.{◌≡◌, ℕ, suc, ◌<◌, List, None, Some, sym, ◌∙◌, ap, subst, arith}
use Rattle.xp_tree.specs.Tree.{Tree, Steps, Operands, Trees}
use Rattle.xp_tree.specs.declared.terms.Level.{Level}
use Rattle.xp_tree.specs.declared.terms.Level.TheVariants as level
use Rattle.xp_tree.specs.declared.terms.Operator.{Operator}
use Rattle.xp_grammar.specs.declared.token.Placed.{Placed}
use Rattle.xp_grammar.specs.declared.token.Token.TheVariants as token
use Rattle.xp_grammar.specs.Parts.{level_of}
use Rattle.xp_grammar.specs.Grammar.{tighter, IsSigns, no_sign, sign, IsChain, chained, IsOperand, tighter_chain, signed, one_path, IsOperands, no_more, one_more, IsPath, root_alone, from_root, from_anywhere, from_here, from_filter, IsSteps, dot_step, parent_step, tested_step, IsMoreSteps, no_more_steps, slash_steps, double_slash_steps, IsFilter, filter, IsPrimary, a_variable, a_literal, a_number, in_parens, a_call, IsMoreArguments, no_more_arguments, one_more_argument}
use Rattle.xp_grammar_laws.proofs.TokenKinds.{StepKind, dot_kind, parent_kind, tested_kind, step_kind, primary_kind, rank, kind_of, head_kind, Follows, NoBracket, IsEnd, BeginsPath, Begins, at_token, looser, no_bracket, end_follows, path_begins, tighter_rank}
use Rattle.xp_grammar_laws.proofs.NodeTests.{tested_heads}

pub steps_heads : {limit d : ℕ} {s u : List Placed} {ss : Steps} → IsSteps limit d s u ss →
    (k : StepKind) × (head_kind s ≡ step_kind k)
steps_heads (dot_step d p s u rest is M) = (dot_kind, ap kind_of is)
steps_heads (parent_step d p s u rest is M) = (parent_kind, ap kind_of is)
steps_heads (tested_step d s t v w u a k ps rest A T P M) = let (x, is) = tested_heads A T in (tested_kind x, is)

pub primary_heads : {limit d : ℕ} {s u : List Placed} {e : Tree} → IsPrimary limit d s u e → head_kind s ≡ primary_kind
primary_heads (a_variable d p s name is) = ap kind_of is
primary_heads (a_literal d p s value is) = ap kind_of is
primary_heads (a_number d p s digits is) = ap kind_of is
primary_heads (in_parens d p q s u e is fits D closes) = ap kind_of is
primary_heads (a_call d p q r s u name args is opens fits D closes) = ap kind_of is

pub filter_heads : {limit d : ℕ} {s u : List Placed} {e : Tree} → IsFilter limit d s u e → head_kind s ≡ primary_kind
filter_heads (filter d s m u e ps D P) = primary_heads D

path_heads : {limit d : ℕ} {s u : List Placed} {e : Tree} → IsPath limit d s u e → BeginsPath (head_kind s)
path_heads (root_alone d p s is) = at_token BeginsPath (sym is) tt
path_heads (from_root d p s u ss is D) = at_token BeginsPath (sym is) tt
path_heads (from_anywhere d p s u ss is D) = at_token BeginsPath (sym is) tt
path_heads (from_here d s u ss D) = let (k, is) = steps_heads D in subst BeginsPath (sym is) tt
path_heads (from_filter d s m u e ss D M) = subst BeginsPath (sym (filter_heads D)) tt

-- a chain of the tightest level begins as a path
union_operand : {limit d : ℕ} {n : Level} {s u : List Placed} {e : Tree} → IsOperand limit n d s u e → n ≡ level.Union →
    BeginsPath (head_kind s)
union_operand (tighter_chain n inner d s u e is D) at_union =
    let bad : None ≡ Some inner = ap tighter (sym at_union) ∙ is in absurd (cc)
union_operand (signed d count s m u e S fits D) at_union = absurd (cc)
union_operand (one_path d s u e D) at_union = path_heads D

pub union_begins : {limit d : ℕ} {n : Level} {s u : List Placed} {e : Tree} → IsChain limit n d s u e → n ≡ level.Union →
    BeginsPath (head_kind s)
union_begins (chained n d s m u first rest D T) at_union = union_operand D at_union

signs_begin : {i : ℕ} {s m : List Placed} → IsSigns i s m → Begins (head_kind m) → Begins (head_kind s)
signs_begin (no_sign s) h = h
signs_begin (sign i p s m is more) h = at_token Begins (sym is) tt

mutual
  pub chain_begins : (limit : ℕ) {n : Level} {d : ℕ} {s u : List Placed} {e : Tree} → IsChain limit n d s u e → Begins (head_kind s)
  chain_begins limit (chained n d s m u first rest D T) = operand_begins limit D

  pub operand_begins : (limit : ℕ) {n : Level} {d : ℕ} {s u : List Placed} {e : Tree} → IsOperand limit n d s u e → Begins (head_kind s)
  operand_begins limit (tighter_chain n inner d s u e is D) = chain_begins limit D
  operand_begins limit (signed d count s m u e S fits D) = signs_begin S (chain_begins limit D)
  operand_begins limit (one_path d s u e D) = path_begins (head_kind s) (path_heads D)

-- an operator at the level of an operand's chain follows the operand
pub operands_follow : {limit d : ℕ} {n : Level} {m u : List Placed} {rest : Operands} → IsOperands limit n d m u rest →
    Follows (rank n) (head_kind u) → Follows (suc (rank n)) (head_kind m)
operands_follow (no_more n d s) h = looser (rank n) (suc (rank n)) (head_kind s) (omega arith) h
operands_follow (one_more n d p s m u o e rest is at_level D T) h =
    let same : rank (level_of o) ≡ rank n = ap rank at_level in
    let low : rank (level_of o) < suc (rank n) = omega (arith, same) in
    at_token (Follows (suc (rank n))) (sym is) low

-- and not the chain
pub no_operator : (n : Level) (p : Placed) (o : Operator) → p.token ≡ token.Operator o → level_of o ≡ n →
    Follows (rank n) (kind_of p.token) → ⊥
no_operator n p o is at_level h =
    let same : rank (level_of o) ≡ rank n = ap rank at_level in
    let low : rank (level_of o) < rank n = at_token (Follows (rank n)) is h in
    omega (arith, same, low)

-- what follows an operand that is a chain follows the chain
pub chain_follows : (n inner : Level) (s : List Placed) → tighter n ≡ Some inner →
    Follows (suc (rank n)) (head_kind s) → Follows (rank inner) (head_kind s)
chain_follows n inner s is h = subst (λ k. Follows k (head_kind s)) (sym (tighter_rank n inner is)) h

pub no_step_follows : {limit d : ℕ} {s u : List Placed} {ss : Steps} → IsSteps limit d s u ss → Follows 7 (head_kind s) → ⊥
no_step_follows D h = let (k, is) = steps_heads D in subst (Follows 7) is h

-- predicates end before more steps
pub more_steps_follow : {limit d : ℕ} {m u : List Placed} {ss : Steps} → IsMoreSteps limit d m u ss →
    Follows 7 (head_kind u) → NoBracket (head_kind m)
more_steps_follow (no_more_steps d s) h = no_bracket 7 (head_kind s) h
more_steps_follow (slash_steps d p s u ss is D) h = at_token NoBracket (sym is) tt
more_steps_follow (double_slash_steps d p s u ss is D) h = at_token NoBracket (sym is) tt

-- an argument ends before more arguments
pub more_arguments_follow : {limit d : ℕ} {m u : List Placed} {es : Trees} → IsMoreArguments limit d m u es →
    IsEnd (head_kind u) → Follows 0 (head_kind m)
more_arguments_follow (no_more_arguments d s) h = end_follows 0 (head_kind s) h
more_arguments_follow (one_more_argument d p s m u e rest is D T) h = at_token (Follows 0) (sym is) tt
