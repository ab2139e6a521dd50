-- Steps of the machine of patterns, and how it goes over a predicate.
use Rattle.std.proofs.Common.{◌≡◌, ℕ, suc, ◌+◌, ◌-◌, ◌≤◌, ◌⊎◌, true, false, if◌then◌else◌, List, [], ◌∷◌, ◌++◌, length, None, Some, refl, sym, ◌∙◌, ap, subst, inl, inr, arith, length-append}
use Rattle.std.proofs.lemmas.Bool.{le-leb}
use Rattle.xp_tree.specs.Tree.{Tree}
use Rattle.xp_tree.specs.declared.terms.Level.TheVariants as level
use Rattle.xp_grammar.specs.declared.token.Placed.{Placed}
use Rattle.xp_grammar.specs.declared.token.Token.{Token}
use Rattle.xp_grammar.specs.declared.token.Token.TheVariants as token
use Rattle.xp_grammar.specs.Grammar.{IsChain}
use Rattle.xp_grammar.specs.inner.Machine.{Bracket, in_paren, in_predicate, Ending, full, Mode, want, after, load, next, allowed, halt}
use Rattle.xp_grammar.proofs.Steps.{step_on, after_bracket}
use Rattle.xp_grammar.proofs.Drives.{drive_chain}
use Rattle.xp_grammar.proofs.Finds.{Within, stays, turns, Ran, ran}
use Rattle.xp_grammar.specs.inner.PatternMachine.{Place, behind_step, inside, first_place, inside_move, closing_turn, pattern_turn, pattern_load, pattern_allowed, pattern_next, pattern_goes, pattern_halt}
use Rattle.xp_grammar.proofs.Bottoms.{Closes, stands_at, rest_shorter, stopped, next_deeper, run_deeper}

-- the machine goes on at a token
pub step_over : (limit : ℕ) (a : Place) (p : Placed) (s : List Placed) (b : Place) (t : Token) →
    p.token ≡ t → pattern_turn a t ≡ Some b → pattern_load b ≤ limit → pattern_halt limit a (p ∷ s) ≡ pattern_halt limit b s
unfolding pattern_halt
step_over limit a p s b t is leads room =
    ap (pattern_goes (record { place = a; rest = p ∷ s }) (λ c. pattern_halt limit c s))
    (ap (pattern_next limit a) is ∙ ap (pattern_allowed limit) leads
    ∙ ap (λ x. if x then Some b else None) (le-leb (pattern_load b) limit room))

pub inside_on : (l : ℕ) {m m' : Mode} {k k' : List Bracket} {s : List Placed} → Within l m k s m' k' → (u : List Placed) →
    pattern_halt (suc l) (inside m k) (s ++ u) ≡ pattern_halt (suc l) (inside m' k') u
unfolding pattern_load
inside_on l (stays m k) u = refl
inside_on l (turns m m' k k' p s mv is fits more) u =
    step_over (suc l) (inside m k) p (s ++ u) (inside mv.mode mv.stack) p.token refl
    (ap (λ o. first_place (inside_move o) (closing_turn m k p.token)) is) (omega (arith, fits))
    ∙ inside_on l more u

-- a bracket that closes a predicate
pub close_over : (limit : ℕ) (e : Ending) (q : Placed) (v : List Placed) → q.token ≡ token.CloseBracket →
    pattern_halt limit (inside (after e) []) (q ∷ v) ≡ pattern_halt limit behind_step v
unfolding pattern_load
close_over limit e q v closes =
    step_over limit (inside (after e) []) q v behind_step token.CloseBracket closes
    (ap (λ o. first_place (inside_move o) (Some behind_step)) (after_bracket e [])) (omega arith)

pub is_close : (t : Token) → (t ≡ token.CloseParen) ⊎ (t ≡ token.CloseParen → ⊥)
is_close token.CloseParen = inl refl
is_close _ = inr (λ e. absurd (cc))

closes_paren : (t : Token) → (t ≡ token.CloseParen → ⊥) → Closes in_paren t → ⊥
closes_paren token.CloseParen differs h = differs refl
closes_paren _ differs h = h

pub stands_in_paren : (l : ℕ) (m : Mode) (k : List Bracket) (p : Placed) (w : List Placed) → (p.token ≡ token.CloseParen → ⊥) →
    next l m k p.token ≡ None → halt (suc l) m (k ++ in_paren ∷ []) (p ∷ w) ≡ record { mode = m; stack = k ++ in_paren ∷ []; rest = p ∷ w }
stands_in_paren l m k p w differs none =
    stands_at (suc l) m (k ++ in_paren ∷ []) p w (next_deeper l m in_paren k p.token tt (closes_paren p.token differs) none)

closes_predicate : (t : Token) → t ≡ token.CloseParen → Closes in_predicate t → ⊥
closes_predicate t is h = let bad : Closes in_predicate token.CloseParen = subst (Closes in_predicate) is h in bad

pub stands_in_predicate : (l : ℕ) (m : Mode) (k : List Bracket) (p : Placed) (w : List Placed) → p.token ≡ token.CloseParen →
    next l m k p.token ≡ None → halt (suc l) m (k ++ in_predicate ∷ []) (p ∷ w) ≡ record { mode = m; stack = k ++ in_predicate ∷ []; rest = p ∷ w }
stands_in_predicate l m k p w is none =
    stands_at (suc l) m (k ++ in_predicate ∷ []) p w (next_deeper l m in_predicate k p.token tt (closes_predicate p.token is) none)

-- a bracket in place of a parenthesis
stands_bracket : (limit : ℕ) (e : Ending) (q : Placed) (v : List Placed) → q.token ≡ token.CloseBracket →
    halt limit (after e) (in_paren ∷ []) (q ∷ v) ≡ record { mode = after e; stack = in_paren ∷ []; rest = q ∷ v }
stands_bracket limit e q v closes =
    stands_at limit (after e) (in_paren ∷ []) q v
    (ap (λ t. next limit (after e) (in_paren ∷ []) t) closes ∙ ap (allowed limit) (after_bracket e (in_paren ∷ [])))

pub passes_bracket : (limit : ℕ) (e : Ending) (q : Placed) (v : List Placed) → q.token ≡ token.CloseBracket →
    halt limit (after e) (in_predicate ∷ []) (q ∷ v) ≡ halt limit (after full) [] v
unfolding load
passes_bracket limit e q v closes =
    step_on limit (after e) (in_predicate ∷ []) q v (record { mode = after full; stack = [] }) token.CloseBracket closes
    (after_bracket e (in_predicate ∷ [])) (omega arith)

pub one_bracket : (k : List Bracket) (b : Bracket) → k ++ b ∷ [] ≡ b ∷ [] → k ≡ []
one_bracket [] b is = refl
one_bracket (x ∷ k) b is =
    let e : length (k ++ b ∷ []) ≡ length k + 1 = length-append k (b ∷ []) in
    let f : suc (length (k ++ b ∷ [])) ≡ 1 = ap length is in
    absurd (omega (arith, e, f))

-- an expression with a bracket after it, which no bracket but a predicate's lets go on
record Over (l : ℕ) (m : Mode) (s v : List Placed) (q : Placed) : Type 0 where
  e : Ending
  f : Ending
  in_parens : halt (suc l) m (in_paren ∷ []) s ≡ halt (suc l) (after e) (in_paren ∷ []) (q ∷ v)
  in_brackets : halt (suc l) m (in_predicate ∷ []) s ≡ halt (suc l) (after f) (in_predicate ∷ []) (q ∷ v)

over_at : (l : ℕ) (m : Mode) (s v : List Placed) (q : Placed) (m' : Mode) (k' : List Bracket) (u : List Placed) → q.token ≡ token.CloseBracket →
    (x : Over l m s v q) → Ran l m [] s m' k' u → ((p : Placed) (w : List Placed) → u ≡ p ∷ w → next l m' k' p.token ≡ None) →
    (m' ≡ after x.e) × (k' ≡ []) × (u ≡ q ∷ v)
unfolding halt
over_at l m s v q m' k' [] closes x r none =
    let same : halt (suc l) m' (k' ++ in_paren ∷ []) [] ≡ record { mode = after x.e; stack = in_paren ∷ []; rest = q ∷ v } =
    sym (run_deeper l in_paren m s m' k' [] tt r) ∙ x.in_parens ∙ stands_bracket (suc l) x.e q v closes in
    let bad : [] ≡ q ∷ v = ap (λ h. h.rest) same in
    absurd (cc)
over_at l m s v q m' k' (p ∷ w) closes x r none =
    elim (is_close p.token) [
      | inl is ↦
          let here : halt (suc l) m (in_predicate ∷ []) s ≡ record { mode = m'; stack = k' ++ in_predicate ∷ []; rest = p ∷ w } =
          run_deeper l in_predicate m s m' k' (p ∷ w) tt r ∙ stands_in_predicate l m' k' p w is (none p w refl) in
          let there : record { mode = m'; stack = k' ++ in_predicate ∷ []; rest = p ∷ w } ≡ halt (suc l) (after full) [] v =
          sym here ∙ x.in_brackets ∙ passes_bracket (suc l) x.f q v closes in
          let short : length (p ∷ w) ≡ length (halt (suc l) (after full) [] v).rest = ap (λ h. length h.rest) there in
          let bound : length (halt (suc l) (after full) [] v).rest ≤ length v = rest_shorter (suc l) (after full) [] v in
          let far : length (halt (suc l) m' (k' ++ in_paren ∷ []) (p ∷ w)).rest ≤ length (p ∷ w) =
          rest_shorter (suc l) m' (k' ++ in_paren ∷ []) (p ∷ w) in
          let long : length (halt (suc l) m' (k' ++ in_paren ∷ []) (p ∷ w)).rest ≡ length (q ∷ v) =
          ap (λ h. length h.rest) (sym (run_deeper l in_paren m s m' k' (p ∷ w) tt r) ∙ x.in_parens ∙ stands_bracket (suc l) x.e q v closes) in
          let bad : suc (length v) ≤ length v = omega (arith, short, bound, far, long) in
          absurd (omega (arith, bad))
      | inr differs ↦
          let same : record { mode = m'; stack = k' ++ in_paren ∷ []; rest = p ∷ w } ≡ record { mode = after x.e; stack = in_paren ∷ []; rest = q ∷ v } =
          sym (stands_in_paren l m' k' p w differs (none p w refl)) ∙ sym (run_deeper l in_paren m s m' k' (p ∷ w) tt r)
          ∙ x.in_parens ∙ stands_bracket (suc l) x.e q v closes in
          (ap (λ h. h.mode) same, one_bracket k' in_paren (ap (λ h. h.stack) same), ap (λ h. h.rest) same)
    ]

over : (l : ℕ) (m : Mode) (s v : List Placed) (q : Placed) → q.token ≡ token.CloseBracket → (x : Over l m s v q) →
    pattern_halt (suc l) (inside m []) s ≡ pattern_halt (suc l) behind_step v
over l m s v q closes x =
    let h = halt l m [] s in
    let r : Ran l m [] s h.mode h.stack h.rest = ran l m [] s h refl in
    let at = over_at l m s v q h.mode h.stack h.rest closes x r (stopped l m [] s h refl) in
    ap (pattern_halt (suc l) (inside m [])) r.is ∙ inside_on l r.within h.rest
    ∙ ap (λ y. pattern_halt (suc l) (inside y h.stack) h.rest) at.0
    ∙ ap (λ y. pattern_halt (suc l) (inside (after x.e) y) h.rest) at.1
    ∙ ap (pattern_halt (suc l) (inside (after x.e) [])) at.2
    ∙ close_over (suc l) x.e q v closes

over_chain : (l : ℕ) (s v : List Placed) (q : Placed) (e : Tree) → q.token ≡ token.CloseBracket → IsChain (suc l) level.Or 1 s (q ∷ v) e →
    pattern_halt (suc l) (inside (want true 0 false) []) s ≡ pattern_halt (suc l) behind_step v
over_chain l s v q e closes D =
    let x = drive_chain (suc l) D true 0 false (in_paren ∷ []) refl (omega arith) in
    let y = drive_chain (suc l) D true 0 false (in_predicate ∷ []) refl (omega arith) in
    over l (want true 0 false) s v q closes (record { e = x.0; f = y.0; in_parens = x.1; in_brackets = y.1 })

pub below : (limit : ℕ) → 1 ≤ limit → (l : ℕ) × (limit ≡ suc l)
below limit room = (limit - 1, omega (arith, room))

-- the machine goes over the expression of a predicate
pub predicate_over : (limit : ℕ) (s v : List Placed) (q : Placed) (e : Tree) → 1 ≤ limit → q.token ≡ token.CloseBracket →
    IsChain limit level.Or 1 s (q ∷ v) e → pattern_halt limit (inside (want true 0 false) []) s ≡ pattern_halt limit behind_step v
predicate_over limit s v q e room closes D =
    let b = below limit room in
    let P : ℕ → Type 0 = λ x. pattern_halt x (inside (want true 0 false) []) s ≡ pattern_halt x behind_step v in
    subst P (sym b.1) (over_chain b.0 s v q e closes (subst (λ x. IsChain x level.Or 1 s (q ∷ v) e) b.1 D))
