-- Each list of tokens derives an expression, or has a first fault.
use Rattle.std.proofs.Common.{◌≡◌, ℕ, ◌≤◌, ◌⊎◌, Bool, true, false, List, [], ◌∷◌, ◌++◌, Option, None, Some, refl, sym, ◌∙◌, ap₂, subst, inl, inr}
use Rattle.std.proofs.lemmas.Bool.Decides.{leb_tells}
use Rattle.xp_tree.specs.declared.terms.Level.TheVariants as level
use Rattle.xp_tree.specs.Tree.{Tree}
use Rattle.xp_grammar.specs.declared.token.Placed.{Placed}
use Rattle.xp_grammar.specs.declared.fault.SyntaxKind.TheVariants as kind
use Rattle.xp_grammar.specs.Grammar.{IsChain, Derives}
use Rattle.xp_grammar.specs.Faults.{DerivesOrFails, EachDerivesOrFails}
use Rattle.xp_grammar.specs.inner.Machine.{Bracket, Ending, Mode, want, after, Move, turn, load, halt, IsPending}
use Rattle.xp_grammar.proofs.Steps.{step_on}
use Rattle.xp_grammar.proofs.Completes.{Ends, whole_of}
use Rattle.xp_grammar.proofs.Finds.{Ran, ran, within_back, load_start, after_exists, fault_at_token, fault_over_limit, fault_at_end, fault_no_token}

pending_or_ended : (m : Mode) (k : List Bracket) → IsPending m k ⊎ ((e : Ending) × (m ≡ after e) × (k ≡ []))
pending_or_ended (after e) [] = inr (e, refl, refl)
pending_or_ended (after e) (b ∷ k) = inl tt
pending_or_ended _ k = inl tt

-- where nothing more has to come, the tokens derive an expression
derived : (limit : ℕ) (s : List Placed) (e : Ending) → halt limit (want true 0 false) [] s ≡ halt limit (after e) [] [] →
    (t : Tree) × Derives limit s t
unfolding halt
derived limit s e is =
    let r : Ran limit (want true 0 false) [] s (after e) [] [] = ran limit (want true 0 false) [] s (record { mode = after e; stack = []; rest = [] }) is in
    let (v, (t, D), ends) =
    whole_of limit true 0 (Ends limit []) (r.before ++ [])
    (within_back limit r.within (load_start limit) [] (after_exists limit e 0 (Ends limit []) [] refl)) in
    (t, subst (λ b. IsChain limit level.Or 0 b [] t) (sym r.is) (subst (λ w. IsChain limit level.Or 0 (r.before ++ []) w t) ends D))

at_the_end : (limit : ℕ) (s : List Placed) (whole : Bool) (end : ℕ) (m : Mode) (k : List Bracket) →
    halt limit (want true 0 false) [] s ≡ halt limit m k [] → DerivesOrFails Tree Derives limit s whole end
at_the_end limit s false end m k is = inr (kind.BadToken, end, fault_no_token limit s end m k is)
at_the_end limit s true end m k is =
    elim (pending_or_ended m k) [
      | inl pending ↦ inr (kind.Unexpected, end, fault_at_end limit s end m k is pending)
      | inr (e, mode_is, stack_is) ↦
          let (t, D) = derived limit s e (is ∙ ap₂ (λ (x : Mode) (y : List Bracket). halt limit x y []) mode_is stack_is) in
          inl (refl, t, D)
    ]

at_a_token : (limit : ℕ) (s : List Placed) (whole : Bool) (end : ℕ) (m : Mode) (k : List Bracket) (p : Placed) (u : List Placed)
    (further : (m : Mode) (k : List Bracket) → halt limit (want true 0 false) [] s ≡ halt limit m k u → DerivesOrFails Tree Derives limit s whole end)
    (o : Option Move) → turn m k p.token ≡ o → halt limit (want true 0 false) [] s ≡ halt limit m k (p ∷ u) →
    DerivesOrFails Tree Derives limit s whole end
at_a_token limit s whole end m k p u further None stuck is = inr (kind.Unexpected, p.offset, fault_at_token limit s whole end m k p u is stuck)
at_a_token limit s whole end m k p u further (Some mv) turns is =
    elim (leb_tells (load mv.mode mv.stack) limit) [
      | inl (yes_it, le) ↦ further mv.mode mv.stack (is ∙ step_on limit m k p u mv p.token refl turns le)
      | inr (no_it, gt) ↦
          inr (kind.TooNested, p.offset, fault_over_limit limit s whole end m k p u is (record { move = mv; turns = turns; over = gt }))
    ]

judged : (limit : ℕ) (s : List Placed) (whole : Bool) (end : ℕ) (m : Mode) (k : List Bracket) (u : List Placed) →
    halt limit (want true 0 false) [] s ≡ halt limit m k u → DerivesOrFails Tree Derives limit s whole end
judged limit s whole end m k [] is = at_the_end limit s whole end m k is
judged limit s whole end m k (p ∷ u) is =
    at_a_token limit s whole end m k p u (λ m' k' on. judged limit s whole end m' k' u on) (turn m k p.token) refl is

pub each_judged : EachDerivesOrFails
each_judged limit tokens whole end = judged limit tokens whole end (want true 0 false) [] tokens refl
