-- Each list of tokens derives a pattern, or has a first fault.
use Rattle.std.proofs.Common.{◌≡◌, ℕ, ◌≤◌, ◌⊎◌, Bool, true, false, List, [], ◌∷◌, ◌++◌, Option, None, Some, refl, sym, ◌∙◌, subst, inl, inr}
use Rattle.std.proofs.lemmas.Bool.Decides.{leb_tells}
use Rattle.xp_tree.specs.PatternTree.{PathTree}
use Rattle.xp_grammar.specs.declared.token.Placed.{Placed}
use Rattle.xp_grammar.specs.declared.fault.SyntaxKind.TheVariants as kind
use Rattle.xp_grammar.specs.PatternGrammar.{IsPattern, DerivesPattern}
use Rattle.xp_grammar.specs.Faults.{DerivesOrFails, EachDerivesAPatternOrFails}
use Rattle.xp_grammar.specs.inner.PatternMachine.{Place, want_path, behind_root, behind_call, behind_step, pattern_turn, pattern_load, pattern_halt, IsPendingPlace}
use Rattle.xp_grammar.proofs.Runs.{step_over}
use Rattle.xp_grammar.proofs.PatternCompletes.{PatternRest, end_exists, steps_end, predicates_end}
use Rattle.xp_grammar.proofs.PatternFinds.{Went, went, goes_back, load_start, pattern_fault_at_token, pattern_fault_over_limit, pattern_fault_at_end, pattern_fault_no_token}

pending_or_ended : (limit : ℕ) (a : Place) → IsPendingPlace a ⊎ PatternRest limit a []
pending_or_ended limit behind_root = inr (inl (end_exists limit))
pending_or_ended limit behind_call = inr (steps_end limit)
pending_or_ended limit behind_step = inr (predicates_end limit)
pending_or_ended limit _ = inl tt

-- where nothing more has to come, the tokens derive a pattern
derived : (limit : ℕ) (s : List Placed) (a : Place) → PatternRest limit a [] → pattern_halt limit want_path s ≡ pattern_halt limit a [] →
    (ps : List PathTree) × DerivesPattern limit s ps
unfolding pattern_halt
derived limit s a rest is =
    let r : Went limit want_path s a [] = went limit want_path s (record { place = a; rest = [] }) is in
    let (ps, D) = goes_back limit r.goes (load_start limit) [] rest in
    (ps, subst (λ b. IsPattern limit b [] ps) (sym r.is) D)

at_the_end : (limit : ℕ) (s : List Placed) (whole : Bool) (end : ℕ) (a : Place) → pattern_halt limit want_path s ≡ pattern_halt limit a [] →
    DerivesOrFails (List PathTree) DerivesPattern limit s whole end
at_the_end limit s false end a is = inr (kind.BadToken, end, pattern_fault_no_token limit s end a is)
at_the_end limit s true end a is =
    elim (pending_or_ended limit a) [
      | inl pending ↦ inr (kind.Unexpected, end, pattern_fault_at_end limit s end a is pending)
      | inr rest ↦ let (ps, D) = derived limit s a rest is in inl (refl, ps, D)
    ]

at_a_token : (limit : ℕ) (s : List Placed) (whole : Bool) (end : ℕ) (a : Place) (p : Placed) (u : List Placed)
    (further : (b : Place) → pattern_halt limit want_path s ≡ pattern_halt limit b u → DerivesOrFails (List PathTree) DerivesPattern limit s whole end)
    (o : Option Place) → pattern_turn a p.token ≡ o → pattern_halt limit want_path s ≡ pattern_halt limit a (p ∷ u) →
    DerivesOrFails (List PathTree) DerivesPattern limit s whole end
at_a_token limit s whole end a p u further None stuck is =
    inr (kind.Unexpected, p.offset, pattern_fault_at_token limit s whole end a p u is stuck)
at_a_token limit s whole end a p u further (Some b) turns is =
    elim (leb_tells (pattern_load b) limit) [
      | inl (yes_it, le) ↦ further b (is ∙ step_over limit a p u b p.token refl turns le)
      | inr (no_it, gt) ↦
          inr (kind.TooNested, p.offset, pattern_fault_over_limit limit s whole end a p u is (record { place = b; turns = turns; over = gt }))
    ]

judged : (limit : ℕ) (s : List Placed) (whole : Bool) (end : ℕ) (a : Place) (u : List Placed) →
    pattern_halt limit want_path s ≡ pattern_halt limit a u → DerivesOrFails (List PathTree) DerivesPattern limit s whole end
judged limit s whole end a [] is = at_the_end limit s whole end a is
judged limit s whole end a (p ∷ u) is =
    at_a_token limit s whole end a p u (λ b on. judged limit s whole end b u on) (pattern_turn a p.token) refl is

pub each_pattern_judged : EachDerivesAPatternOrFails
each_pattern_judged limit tokens whole end = judged limit tokens whole end want_path tokens refl
