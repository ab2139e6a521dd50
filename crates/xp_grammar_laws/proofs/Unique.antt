-- Two derivations of one form from the same place, neither of which can go on, are of the same tokens and one tree.
use Rattle.std.proofs.Common.{◌≡◌, ℕ, suc, List, ◌∷◌, refl, sym, ◌∙◌, ap, subst, inl, inr}
use Rattle.xp_tree.specs.Tree.{Tree, Steps, Operands, Trees, path, call, root, here, step, operand, no_trees, tree}
use Rattle.xp_tree.specs.declared.terms.Level.{Level}
use Rattle.xp_tree.specs.declared.terms.Operator.{Operator}
use Rattle.xp_tree.specs.declared.terms.Operator.TheVariants as operator
use Rattle.xp_tree.specs.declared.terms.AxisName.{AxisName}
use Rattle.xp_tree.specs.declared.terms.AxisName.TheVariants as axis
use Rattle.xp_tree.specs.declared.terms.StepTest.{StepTest}
use Rattle.xp_tree.specs.declared.terms.StepTest.TheVariants as test
use Rattle.xp_grammar.specs.declared.token.Placed.{Placed}
use Rattle.xp_grammar.specs.declared.token.Token.{Token}
use Rattle.xp_grammar.specs.declared.token.Token.TheVariants as token
use Rattle.xp_grammar.specs.Parts.{offset_at, joined, with_signs, with_predicates, with_steps, everywhere}
use Rattle.xp_grammar.specs.Grammar.{IsChain, chained, IsOperand, tighter_chain, signed, one_path, IsOperands, no_more, one_more, IsPath, root_alone, from_root, from_anywhere, from_here, from_filter, IsSteps, dot_step, parent_step, tested_step, IsMoreSteps, no_more_steps, slash_steps, double_slash_steps, IsPredicates, no_predicate, predicate, IsFilter, filter, IsPrimary, a_variable, a_literal, a_number, in_parens, a_call, IsArguments, no_argument, arguments, IsMoreArguments, no_more_arguments, one_more_argument}
use Rattle.xp_grammar_laws.proofs.TokenKinds.{Kind, head_kind, rest_of, rank, end_kind, Follows, NoBracket, IsEnd, Begins, at_token}
use Rattle.xp_grammar_laws.proofs.NodeTests.{one_count, one_axis, one_test}
use Rattle.xp_grammar_laws.proofs.Begins.{union_begins, chain_begins, operands_follow, no_operator, chain_follows, no_step_follows, more_steps_follow, more_arguments_follow}
use Rattle.xp_grammar_laws.proofs.Alike.{chain_operand, signed_operand, path_operand, steps_path, filter_path, slash_path, double_slash_path, dot_steps, parent_steps, tested_steps, none_more, slash_more, double_slash_more, parens_primary, call_primary, variable_primary, literal_primary, number_primary, moved_chain, moved_operands, moved_more_steps, moved_predicates, moved_more_arguments, moved_test}

-- the same tokens follow, and the same was read
abbrev pub Same : {A : Type 0} → List Placed → List Placed → A → A → Type 0
Same u v e f = (u ≡ v) × (e ≡ f)

abbrev operator_given : Token → Operator
operator_given (token.Operator o) = o
operator_given _ = operator.Or

same_operator : (p : Placed) (o r : Operator) → p.token ≡ token.Operator o → p.token ≡ token.Operator r → o ≡ r
same_operator p o r is also = ap operator_given (sym is ∙ also)

same_operands : (offset : ℕ) {o r : Operator} {e f : Tree} {es fs : Operands} → o ≡ r → e ≡ f → es ≡ fs →
    operand o offset e es ≡ operand r offset f fs
same_operands offset {o} {r} {e} {f} {es} {fs} os es_first es_rest =
    ap (λ x. operand x offset e es) os ∙ ap (λ x. operand r offset x es) es_first ∙ ap (operand r offset f) es_rest

same_step : (s : List Placed) {t u : List Placed} {a b : AxisName} {j k : StepTest} {ps qs : Trees} {ss ts : Steps} →
    t ≡ u → a ≡ b → j ≡ k → ps ≡ qs → ss ≡ ts →
    step (offset_at s) a j (offset_at t) ps ss ≡ step (offset_at s) b k (offset_at u) qs ts
same_step s {t} {u} {a} {b} {j} {k} {ps} {qs} {ss} {ts} ends names tests predicates rests =
    ap (λ x. step (offset_at s) a j (offset_at x) ps ss) ends
    ∙ ap (λ x. step (offset_at s) x j (offset_at u) ps ss) names
    ∙ ap (λ x. step (offset_at s) b x (offset_at u) ps ss) tests
    ∙ ap (λ x. step (offset_at s) b k (offset_at u) x ss) predicates
    ∙ ap (step (offset_at s) b k (offset_at u) qs) rests

same_trees : {e f : Tree} {es fs : Trees} → e ≡ f → es ≡ fs → tree e es ≡ tree f fs
same_trees {e} {f} {es} {fs} firsts rests = ap (λ x. tree x es) firsts ∙ ap (tree f) rests

no_begin : (x : Kind) → IsEnd x → Begins x → ⊥
no_begin end_kind h b = b
no_begin _ h b = h

-- what stands after a closer that both have
behind : {q r : Placed} {s t : List Placed} → q ∷ s ≡ r ∷ t → s ≡ t
behind is = ap rest_of is

mutual
  pub one_chain : (limit higher : ℕ) {n : Level} {c d : ℕ} {s u v : List Placed} {e f : Tree} →
      IsChain limit n c s u e → IsChain higher n d s v f →
      Follows (rank n) (head_kind u) → Follows (rank n) (head_kind v) → Same u v e f
  one_chain limit higher (chained n c s m u first rest D T) (chained _ d _ k v second others E F) hu hv =
      let (ends, same) = one_operand limit higher D E (operands_follow T hu) (operands_follow F hv) in
      let (over, also) = one_operands limit higher T (moved_operands (sym ends) F) hu hv in
      (over, ap (λ x. joined n (offset_at s) x rest) same ∙ ap (joined n (offset_at s) second) also)

  pub one_operand : (limit higher : ℕ) {n : Level} {c d : ℕ} {s u v : List Placed} {e f : Tree} →
      IsOperand limit n c s u e → IsOperand higher n d s v f →
      Follows (suc (rank n)) (head_kind u) → Follows (suc (rank n)) (head_kind v) → Same u v e f
  one_operand limit higher {v = v} (tighter_chain n inner c s u e is D) E hu hv =
      one_chain limit higher D (chain_operand is E) (chain_follows n inner u is hu) (chain_follows n inner v is hv)
  one_operand limit higher {v = v} (signed c count s m u e S fits D) E hu hv =
      let (others, k, f, signs, F, is) = signed_operand E in
      let (ends, counts) = one_count S signs (union_begins D refl) (union_begins F refl) in
      let (over, same) = one_chain limit higher D (moved_chain (sym ends) F) hu hv in
      (over, ap (λ x. with_signs (offset_at s) x e) counts ∙ ap (with_signs (offset_at s) others) same ∙ is)
  one_operand limit higher (one_path c s u e D) E hu hv = one_path_tree limit higher D (path_operand E) hu hv

  pub one_operands : (limit higher : ℕ) {n : Level} {c d : ℕ} {s u v : List Placed} {e f : Operands} →
      IsOperands limit n c s u e → IsOperands higher n d s v f →
      Follows (rank n) (head_kind u) → Follows (rank n) (head_kind v) → Same u v e f
  one_operands limit higher (no_more n c s) (no_more _ d _) hu hv = (refl, refl)
  one_operands limit higher (no_more n c _) (one_more _ d p s m v o e rest is at_level E F) hu hv =
      absurd (no_operator n p o is at_level hu)
  one_operands limit higher (one_more n c p s m u o e rest is at_level D T) (no_more _ d _) hu hv =
      absurd (no_operator n p o is at_level hv)
  one_operands limit higher (one_more n c p s m u o e rest is at_level D T) (one_more _ d _ _ k v r f others also level_too E F) hu hv =
      let (ends, same) = one_operand limit higher D E (operands_follow T hu) (operands_follow F hv) in
      let (over, rests) = one_operands limit higher T (moved_operands (sym ends) F) hu hv in
      (over, same_operands p.offset (same_operator p o r is also) same rests)

  pub one_path_tree : (limit higher : ℕ) {c d : ℕ} {s u v : List Placed} {e f : Tree} →
      IsPath limit c s u e → IsPath higher d s v f →
      Follows 7 (head_kind u) → Follows 7 (head_kind v) → Same u v e f
  one_path_tree limit higher (root_alone c p s is) E hu hv =
      elim (slash_path is E) [ inl alone ↦ alone | inr steps ↦ absurd (no_step_follows steps.1 hu) ]
  one_path_tree limit higher (from_root c p s u ss is D) E hu hv =
      elim (slash_path is E) [
        | inl alone ↦ absurd (no_step_follows D (subst (λ z. Follows 7 (head_kind z)) (sym alone.0) hv))
        | inr steps ↦
            let (over, same) = one_steps limit higher D steps.1 hu hv in
            (over, ap (path p.offset root) same ∙ steps.2)
      ]
  one_path_tree limit higher (from_anywhere c p s u ss is D) E hu hv =
      let (ts, F, also) = double_slash_path is E in
      let (over, same) = one_steps limit higher D F hu hv in
      (over, ap (λ x. path p.offset root (everywhere p.offset x)) same ∙ also)
  one_path_tree limit higher (from_here c s u ss D) E hu hv =
      let (ts, F, also) = steps_path D E in
      let (over, same) = one_steps limit higher D F hu hv in
      (over, ap (path (offset_at s) here) same ∙ also)
  one_path_tree limit higher (from_filter c s m u e ss D M) E hu hv =
      let (k, f, ts, F, N, also) = filter_path D E in
      let (ends, same) = one_filter limit higher D F (more_steps_follow M hu) (more_steps_follow N hv) in
      let (over, rests) = one_more_steps limit higher M (moved_more_steps (sym ends) N) hu hv in
      (over, ap (λ x. with_steps (offset_at s) x ss) same ∙ ap (with_steps (offset_at s) f) rests ∙ also)

  pub one_steps : (limit higher : ℕ) {c d : ℕ} {s u v : List Placed} {e f : Steps} →
      IsSteps limit c s u e → IsSteps higher d s v f →
      Follows 7 (head_kind u) → Follows 7 (head_kind v) → Same u v e f
  one_steps limit higher (dot_step c p s u rest is M) E hu hv =
      let (others, N, also) = dot_steps is E in
      let (over, same) = one_more_steps limit higher M N hu hv in
      (over, ap (step p.offset axis.SelfNode test.Node p.offset no_trees) same ∙ also)
  one_steps limit higher (parent_step c p s u rest is M) E hu hv =
      let (others, N, also) = parent_steps is E in
      let (over, same) = one_more_steps limit higher M N hu hv in
      (over, ap (step p.offset axis.Parent test.Node p.offset no_trees) same ∙ also)
  one_steps limit higher (tested_step c s t w x u a k ps rest A T P M) E hu hv =
      let r = tested_steps A T E in
      let (starts, names) = one_axis A T r.on_axis r.passes in
      let (passed, tests) = one_test T (moved_test (sym starts) r.passes) in
      let (filtered, predicates) =
      one_predicates limit higher P (moved_predicates (sym passed) r.filters) (more_steps_follow M hu) (more_steps_follow r.goes_on hv) in
      let (over, rests) = one_more_steps limit higher M (moved_more_steps (sym filtered) r.goes_on) hu hv in
      (over, same_step s starts names tests predicates rests ∙ r.is)

  pub one_more_steps : (limit higher : ℕ) {c d : ℕ} {s u v : List Placed} {e f : Steps} →
      IsMoreSteps limit c s u e → IsMoreSteps higher d s v f →
      Follows 7 (head_kind u) → Follows 7 (head_kind v) → Same u v e f
  one_more_steps limit higher (no_more_steps c s) E hu hv = none_more E hu hv
  one_more_steps limit higher (slash_steps c p s u ss is D) E hu hv = one_steps limit higher D (slash_more is E hv) hu hv
  one_more_steps limit higher (double_slash_steps c p s u ss is D) E hu hv =
      let (ts, F, also) = double_slash_more is E hv in
      let (over, same) = one_steps limit higher D F hu hv in
      (over, ap (everywhere p.offset) same ∙ also)

  pub one_predicates : (limit higher : ℕ) {c d : ℕ} {s u v : List Placed} {e f : Trees} →
      IsPredicates limit c s u e → IsPredicates higher d s v f →
      NoBracket (head_kind u) → NoBracket (head_kind v) → Same u v e f
  one_predicates limit higher (no_predicate c s) (no_predicate d _) hu hv = (refl, refl)
  one_predicates limit higher (no_predicate c _) (predicate d p q s m v e rest is fits E closes F) hu hv =
      absurd (at_token NoBracket is hu)
  one_predicates limit higher (predicate c p q s m u e rest is fits D closes T) (no_predicate d _) hu hv =
      absurd (at_token NoBracket is hv)
  one_predicates limit higher (predicate c p q s m u e rest is fits D closes T) (predicate d _ r _ k v f others also room E ends F) hu hv =
      let (over, same) = one_chain limit higher D E (at_token (Follows 0) (sym closes) tt) (at_token (Follows 0) (sym ends) tt) in
      let (last, rests) = one_predicates limit higher T (moved_predicates (behind (sym over)) F) hu hv in
      (last, same_trees same rests)

  pub one_filter : (limit higher : ℕ) {c d : ℕ} {s u v : List Placed} {e f : Tree} →
      IsFilter limit c s u e → IsFilter higher d s v f →
      NoBracket (head_kind u) → NoBracket (head_kind v) → Same u v e f
  one_filter limit higher (filter c s m u e ps D P) (filter d _ k v f qs E Q) hu hv =
      let (ends, same) = one_primary limit higher D E in
      let (over, rests) = one_predicates limit higher P (moved_predicates (sym ends) Q) hu hv in
      (over, ap (λ x. with_predicates (offset_at s) x ps) same ∙ ap (with_predicates (offset_at s) f) rests)

  pub one_primary : (limit higher : ℕ) {c d : ℕ} {s u v : List Placed} {e f : Tree} →
      IsPrimary limit c s u e → IsPrimary higher d s v f → Same u v e f
  one_primary limit higher (a_variable c p s name is) E = variable_primary name is E
  one_primary limit higher (a_literal c p s value is) E = literal_primary value is E
  one_primary limit higher (a_number c p s digits is) E = number_primary digits is E
  one_primary limit higher (in_parens c p q s u e is fits D closes) E =
      let (r, F, ends) = parens_primary is E in
      let (over, same) = one_chain limit higher D F (at_token (Follows 0) (sym closes) tt) (at_token (Follows 0) (sym ends) tt) in
      (behind over, same)
  one_primary limit higher (a_call c p q r s u name args is opens fits D closes) E =
      let (last, others, F, ends, also) = call_primary name is E in
      let (over, same) = one_arguments limit higher D F (at_token IsEnd (sym closes) tt) (at_token IsEnd (sym ends) tt) in
      (behind over, ap (call p.offset name) same ∙ also)

  pub one_arguments : (limit higher : ℕ) {c d : ℕ} {s u v : List Placed} {e f : Trees} →
      IsArguments limit c s u e → IsArguments higher d s v f →
      IsEnd (head_kind u) → IsEnd (head_kind v) → Same u v e f
  one_arguments limit higher (no_argument c s) (no_argument d _) hu hv = (refl, refl)
  one_arguments limit higher (no_argument c s) (arguments d _ m v e rest E F) hu hv =
      absurd (no_begin (head_kind s) hu (chain_begins higher E))
  one_arguments limit higher (arguments c s m u e rest D T) (no_argument d _) hu hv =
      absurd (no_begin (head_kind s) hv (chain_begins limit D))
  one_arguments limit higher (arguments c s m u e rest D T) (arguments d _ k v f others E F) hu hv =
      let (ends, same) = one_chain limit higher D E (more_arguments_follow T hu) (more_arguments_follow F hv) in
      let (over, rests) = one_more_arguments limit higher T (moved_more_arguments (sym ends) F) hu hv in
      (over, same_trees same rests)

  pub one_more_arguments : (limit higher : ℕ) {c d : ℕ} {s u v : List Placed} {e f : Trees} →
      IsMoreArguments limit c s u e → IsMoreArguments higher d s v f →
      IsEnd (head_kind u) → IsEnd (head_kind v) → Same u v e f
  one_more_arguments limit higher (no_more_arguments c s) (no_more_arguments d _) hu hv = (refl, refl)
  one_more_arguments limit higher (no_more_arguments c _) (one_more_argument d p s m v e rest is E F) hu hv =
      absurd (at_token IsEnd is hu)
  one_more_arguments limit higher (one_more_argument c p s m u e rest is D T) (no_more_arguments d _) hu hv =
      absurd (at_token IsEnd is hv)
  one_more_arguments limit higher (one_more_argument c p s m u e rest is D T) (one_more_argument d _ _ k v f others also E F) hu hv =
      let (ends, same) = one_chain limit higher D E (more_arguments_follow T hu) (more_arguments_follow F hv) in
      let (over, rests) = one_more_arguments limit higher T (moved_more_arguments (sym ends) F) hu hv in
      (over, same_trees same rests)
