-- Where an expression within a predicate stops, the machine of patterns stops.
use Rattle.std.proofs.Common.{◌≡◌, ℕ, suc, ◌+◌, ◌≤◌, ◌⊎◌, true, false, if◌then◌else◌, List, [], ◌∷◌, ◌++◌, length, Option, None, Some, refl, sym, ◌∙◌, ap, subst, inl, inr, arith, length-append}
use Rattle.xp_tree.specs.Tree.{Tree}
use Rattle.xp_tree.specs.declared.terms.Level.TheVariants as level
use Rattle.xp_tree.specs.declared.terms.Operator.{Operator}
use Rattle.xp_grammar.specs.declared.token.Placed.{Placed}
use Rattle.xp_grammar.specs.declared.token.Token.{Token}
use Rattle.xp_grammar.specs.declared.token.Token.TheVariants as token
use Rattle.xp_grammar.specs.inner.Machine.{Bracket, in_paren, in_predicate, Ending, full, Mode, want, need_step, need_colons, need_test, type_open, type_inner, type_close, function_open, after, Move, end_turn, turn, load, next, allowed, Halt, halt}
use Rattle.xp_grammar.proofs.Finds.{Ran, ran}
use Rattle.xp_parse.specs.declared.stop.Stop.{Stop}
use Rattle.xp_parse.specs.declared.stop.Stop.TheVariants as stop
use Rattle.xp_parse.specs.inner.Places.{NotAt}
use Rattle.xp_parse.specs.inner.Parsing.{Settled, Cause, Stuck, IsNoMemory, ChainRead}
use Rattle.xp_parse.proofs.Failing.{head_is}
use Rattle.xp_parse.proofs.Paths.{no_operator}
use Rattle.xp_parse.proofs.Primaries.{unclosed_top}
use Rattle.xp_grammar.specs.inner.PatternMachine.{inside, first_place, inside_move, bracket_close_turn, closing_turn, pattern_turn, pattern_load, pattern_halt}
use Rattle.xp_grammar.proofs.Bottoms.{deeper, IsOuter, Closes, deeper_turn, load_deeper, stands_at, rest_shorter, stopped, next_deeper, run_deeper, not_leb}
use Rattle.xp_grammar.proofs.Runs.{inside_on, is_close, stands_in_paren, stands_in_predicate, passes_bracket, one_bracket}
use Rattle.xp_parse.specs.inner.PatternReading.{PlaceCause, StuckAt}

-- where there is a cause, the machine of expressions stands
cause_stands : (limit : ℕ) (m : Mode) (k : List Bracket) (u : List Placed) (why : Stop) → IsNoMemory why → Cause limit m k u why →
    halt limit m k u ≡ record { mode = m; stack = k; rest = u }
unfolding halt
cause_stands limit m k u stop.Memory nm x = absurd nm
cause_stands limit m k [] stop.Unexpected nm x = refl
cause_stands limit m k (p ∷ u) stop.Unexpected nm x = stands_at limit m k p u (ap (allowed limit) (x.at_token p u refl))
cause_stands limit m k u stop.TooNested nm x =
    let none : next limit m k x.placed.token ≡ None =
    ap (allowed limit) x.limited.turns
    ∙ ap (λ b. if b then Some x.limited.move else None) (not_leb (load x.limited.move.mode x.limited.move.stack) limit x.limited.over) in
    subst (λ v. halt limit m k v ≡ record { mode = m; stack = k; rest = v }) (sym x.is) (stands_at limit m k x.placed x.rest none)

-- the state in which the machine stands is that of the cause
record Found (limit : ℕ) (m : Mode) (k : List Bracket) (v u : List Placed) (why : Stop) : Type 0 where
  rest_is : v ≡ u
  cause : Cause limit m k v why

found : (limit : ℕ) (m : Mode) (k : List Bracket) (s : List Placed) (m' : Mode) (k' : List Bracket) (v u : List Placed) (why : Stop) →
    IsNoMemory why → Stuck limit m k s u why → halt limit m k s ≡ record { mode = m'; stack = k'; rest = v } → Found limit m' k' v u why
found limit m k s m' k' v u why nm x is =
    let same : record { mode = m'; stack = k'; rest = v } ≡ record { mode = x.mode; stack = x.stack; rest = u } =
    sym is ∙ x.reaches ∙ cause_stands limit x.mode x.stack u why nm x.cause in
    let rest_is : v ≡ u = ap (λ h. h.rest) same in
    let a : Cause limit m' x.stack u why = subst (λ y. Cause limit y x.stack u why) (sym (ap (λ h. h.mode) same)) x.cause in
    let b : Cause limit m' k' u why = subst (λ y. Cause limit m' y u why) (sym (ap (λ h. h.stack) same)) a in
    record { rest_is = rest_is; cause = subst (λ y. Cause limit m' k' y why) (sym rest_is) b }

deeper_none : (b : Bracket) (o : Option Move) → deeper b o ≡ None → o ≡ None
deeper_none b None is = refl
deeper_none b (Some mv) is = absurd (cc)

record Lifted (b : Bracket) (o : Option Move) (mv : Move) : Type 0 where
  move : Move
  is : o ≡ Some move
  load_is : load mv.mode mv.stack ≡ suc (load move.mode move.stack)

deeper_some : (b : Bracket) (o : Option Move) (mv : Move) → deeper b o ≡ Some mv → Lifted b o mv
deeper_some b None mv is = absurd (cc)
deeper_some b (Some x) mv is =
    let same : record { mode = x.mode; stack = x.stack ++ b ∷ [] } ≡ mv = cc in
    record { move = x; is = refl; load_is = ap (λ y. load y.mode y.stack) (sym same) ∙ load_deeper x.mode x.stack b }

-- the same cause without the bracket at the bottom
no_turn : (b : Bracket) (m : Mode) (k : List Bracket) (t : Token) → IsOuter b → (Closes b t → ⊥) → turn m (k ++ b ∷ []) t ≡ None → turn m k t ≡ None
no_turn b m k t outer opens none =
    elim (deeper_turn m b k t outer) [ inl x ↦ deeper_none b (turn m k t) (sym x ∙ none) | inr y ↦ absurd (opens y.1) ]

some_turn : (b : Bracket) (m : Mode) (k : List Bracket) (t : Token) (mv : Move) → IsOuter b → (Closes b t → ⊥) →
    turn m (k ++ b ∷ []) t ≡ Some mv → Lifted b (turn m k t) mv
some_turn b m k t mv outer opens is =
    elim (deeper_turn m b k t outer) [ inl x ↦ deeper_some b (turn m k t) mv (sym x ∙ is) | inr y ↦ absurd (opens y.1) ]

inside_cause : (l : ℕ) (b : Bracket) (m : Mode) (k : List Bracket) (p : Placed) (w : List Placed) (why : Stop) → IsOuter b →
    (Closes b p.token → ⊥) → closing_turn m k p.token ≡ None → Cause (suc l) m (k ++ b ∷ []) (p ∷ w) why → PlaceCause (suc l) (inside m k) (p ∷ w) why
unfolding pattern_load
inside_cause l b m k p w stop.Memory outer opens open_here x = tt
inside_cause l b m k p w stop.Unexpected outer opens open_here x = record {
  at_end = λ _. tt;
  at_token = λ q rest is.
      let same : p ≡ q = head_is p q w rest is in
      let here : pattern_turn (inside m k) p.token ≡ None =
      ap (λ o. first_place (inside_move o) (closing_turn m k p.token)) (no_turn b m k p.token outer opens (x.at_token p w refl)) ∙ open_here in
      subst (λ y. pattern_turn (inside m k) y.token ≡ None) same here;
}
inside_cause l b m k p w stop.TooNested outer opens open_here x =
    let same : p ≡ x.placed = head_is p x.placed w x.rest x.is in
    let opened : Closes b x.placed.token → ⊥ = subst (λ y. Closes b y.token → ⊥) same opens in
    let y = some_turn b m k x.placed.token x.limited.move outer opened x.limited.turns in
    record {
      placed = x.placed;
      rest = x.rest;
      is = x.is;
      limited = record {
        place = inside y.move.mode y.move.stack;
        turns = ap (λ o. first_place (inside_move o) (closing_turn m k x.placed.token)) y.is;
        over = omega (arith, x.limited.over, y.load_is);
      };
    }

-- whether a bracket ends the predicate here
bracket_none : (t : Token) → (t ≡ token.CloseBracket → ⊥) → bracket_close_turn t ≡ None
bracket_none token.CloseBracket differs = absurd (differs refl)
bracket_none _ differs = refl

record AtClose (m : Mode) (k : List Bracket) (t : Token) : Type 0 where
  ending : Ending
  mode_is : m ≡ after ending
  stack_is : k ≡ []
  token_is : t ≡ token.CloseBracket

pub is_bracket : (t : Token) → (t ≡ token.CloseBracket) ⊎ (t ≡ token.CloseBracket → ⊥)
is_bracket token.CloseBracket = inl refl
is_bracket _ = inr (λ e. absurd (cc))

closing : (m : Mode) (k : List Bracket) (t : Token) → (closing_turn m k t ≡ None) ⊎ AtClose m k t
closing (after e) [] t =
    elim (is_bracket t) [
      | inl is ↦ inr (record { ending = e; mode_is = refl; stack_is = refl; token_is = is })
      | inr differs ↦ inl (bracket_none t differs)
    ]
closing (after e) (b ∷ k) t = inl refl
closing (want signs count closes) k t = inl refl
closing need_step k t = inl refl
closing need_colons k t = inl refl
closing need_test k t = inl refl
closing (type_open n) k t = inl refl
closing (type_inner n) k t = inl refl
closing type_close k t = inl refl
closing function_open k t = inl refl

-- an expression that stops under a bracket of either kind
record Both (l : ℕ) (m : Mode) (s u : List Placed) (why : Stop) : Type 0 where
  in_parens : Stuck (suc l) m (in_paren ∷ []) s u why
  in_brackets : Stuck (suc l) m (in_predicate ∷ []) s u why

record Inner (l : ℕ) (m' : Mode) (k' : List Bracket) (v u : List Placed) (why : Stop) : Type 0 where
  rest_is : v ≡ u
  cause : PlaceCause (suc l) (inside m' k') v why

no_close : (l : ℕ) (m : Mode) (s u : List Placed) (why : Stop) (m' : Mode) (k' : List Bracket) (p : Placed) (w : List Placed) → IsNoMemory why →
    Both l m s u why → Ran l m [] s m' k' (p ∷ w) → p ∷ w ≡ u → AtClose m' k' p.token → ⊥
no_close l m s u why m' k' p w nm x r rest_is c =
    let to : halt (suc l) m (in_predicate ∷ []) s ≡ halt (suc l) (after full) [] w =
    run_deeper l in_predicate m s m' k' (p ∷ w) tt r
    ∙ ap (λ y. halt (suc l) y (k' ++ in_predicate ∷ []) (p ∷ w)) c.mode_is
    ∙ ap (λ y. halt (suc l) (after c.ending) (y ++ in_predicate ∷ []) (p ∷ w)) c.stack_is
    ∙ passes_bracket (suc l) c.ending p w c.token_is in
    let stands : halt (suc l) m (in_predicate ∷ []) s ≡ record { mode = x.in_brackets.mode; stack = x.in_brackets.stack; rest = u } =
    x.in_brackets.reaches ∙ cause_stands (suc l) x.in_brackets.mode x.in_brackets.stack u why nm x.in_brackets.cause in
    let e : length u ≡ length (halt (suc l) (after full) [] w).rest = ap (λ h. length h.rest) (sym stands ∙ to) in
    let f : length (halt (suc l) (after full) [] w).rest ≤ length w = rest_shorter (suc l) (after full) [] w in
    let g : suc (length w) ≡ length u = ap length rest_is in
    absurd (omega (arith, e, f, g))

end_cause : (l : ℕ) (m : Mode) (k : List Bracket) (b : Bracket) (why : Stop) → Cause (suc l) m (k ++ b ∷ []) [] why → PlaceCause (suc l) (inside m k) [] why
end_cause l m k b stop.Memory x = tt
end_cause l m k b stop.Unexpected x = record { at_end = λ _. tt; at_token = λ p rest is. absurd (cc) }
end_cause l m k b stop.TooNested x = let bad : [] ≡ x.placed ∷ x.rest = x.is in absurd (cc)

paren_opens : (t : Token) → (t ≡ token.CloseParen → ⊥) → Closes in_paren t → ⊥
paren_opens token.CloseParen differs h = differs refl
paren_opens _ differs h = h

predicate_opens : (t : Token) → t ≡ token.CloseParen → Closes in_predicate t → ⊥
predicate_opens t is h = let bad : Closes in_predicate token.CloseParen = subst (Closes in_predicate) is h in bad

paren_closing : (m : Mode) (k : List Bracket) (t : Token) → t ≡ token.CloseParen → closing_turn m k t ≡ None
paren_closing m k t is =
    elim (closing m k t) [
      | inl x ↦ x
      | inr c ↦ let bad : token.CloseParen ≡ token.CloseBracket = sym is ∙ c.token_is in absurd (cc)
    ]

inner_at : (l : ℕ) (m : Mode) (s u : List Placed) (why : Stop) (m' : Mode) (k' : List Bracket) (v : List Placed) → IsNoMemory why →
    Both l m s u why → Ran l m [] s m' k' v → ((p : Placed) (w : List Placed) → v ≡ p ∷ w → next l m' k' p.token ≡ None) → Inner l m' k' v u why
unfolding halt
inner_at l m s u why m' k' [] nm x r none =
    let f = found (suc l) m (in_predicate ∷ []) s m' (k' ++ in_predicate ∷ []) [] u why nm x.in_brackets (run_deeper l in_predicate m s m' k' [] tt r) in
    record { rest_is = f.rest_is; cause = end_cause l m' k' in_predicate why f.cause }
inner_at l m s u why m' k' (p ∷ w) nm x r none =
    elim (is_close p.token) [
      | inl is ↦
          let f = found (suc l) m (in_predicate ∷ []) s m' (k' ++ in_predicate ∷ []) (p ∷ w) u why nm x.in_brackets
          (run_deeper l in_predicate m s m' k' (p ∷ w) tt r ∙ stands_in_predicate l m' k' p w is (none p w refl)) in
          record {
            rest_is = f.rest_is;
            cause = inside_cause l in_predicate m' k' p w why tt (predicate_opens p.token is) (paren_closing m' k' p.token is) f.cause;
          }
      | inr differs ↦
          let f = found (suc l) m (in_paren ∷ []) s m' (k' ++ in_paren ∷ []) (p ∷ w) u why nm x.in_parens
          (run_deeper l in_paren m s m' k' (p ∷ w) tt r ∙ stands_in_paren l m' k' p w differs (none p w refl)) in
          elim (closing m' k' p.token) [
            | inl open_here ↦ record {
              rest_is = f.rest_is;
              cause = inside_cause l in_paren m' k' p w why tt (paren_opens p.token differs) open_here f.cause;
            }
            | inr c ↦ absurd (no_close l m s u why m' k' p w nm x r f.rest_is c)
          ]
    ]

pub inside_stuck : (l : ℕ) (m : Mode) (s u : List Placed) (why : Stop) → IsNoMemory why →
    ((k : List Bracket) → length k ≡ 1 → Stuck (suc l) m k s u why) → StuckAt (suc l) (inside m []) s u why
inside_stuck l m s u why nm x =
    let h = halt l m [] s in
    let r : Ran l m [] s h.mode h.stack h.rest = ran l m [] s h refl in
    let both : Both l m s u why = record { in_parens = x (in_paren ∷ []) refl; in_brackets = x (in_predicate ∷ []) refl } in
    let at = inner_at l m s u why h.mode h.stack h.rest nm both r (stopped l m [] s h refl) in
    record {
      place = inside h.mode h.stack;
      reaches = ap (pattern_halt (suc l) (inside m [])) r.is ∙ inside_on l r.within h.rest ∙ ap (pattern_halt (suc l) (inside h.mode h.stack)) at.rest_is;
      cause = subst (λ v. PlaceCause (suc l) (inside h.mode h.stack) v why) at.rest_is at.cause;
    }

-- an expression behind which no bracket stands
unclosed_bracket : (k : List Bracket) (x : Token) → (x ≡ token.CloseBracket → ⊥) → ((o : Operator) → x ≡ token.Operator o → ⊥) →
    end_turn (in_predicate ∷ k) x ≡ None
unclosed_bracket k token.CloseBracket a b = absurd (a refl)
unclosed_bracket k (token.Operator o) a b = absurd (b o refl)
unclosed_bracket k _ a b = refl

record Open (l : ℕ) (m : Mode) (s v : List Placed) (e : Ending) : Type 0 where
  in_parens : halt (suc l) m (in_paren ∷ []) s ≡ halt (suc l) (after e) (in_paren ∷ []) v
  in_brackets : halt (suc l) m (in_predicate ∷ []) s ≡ record { mode = after e; stack = in_predicate ∷ []; rest = v }
  unclosed : NotAt token.CloseBracket v

record Ended (m' : Mode) (k' : List Bracket) (e : Ending) (u v : List Placed) : Type 0 where
  mode_is : m' ≡ after e
  stack_is : k' ≡ []
  rest_is : u ≡ v

abbrev halted : Mode → List Bracket → List Placed → Halt
halted m k s = record { mode = m; stack = k; rest = s }

ended_of : (m' : Mode) (k' : List Bracket) (e : Ending) (u v : List Placed) →
    halted m' (k' ++ in_predicate ∷ []) u ≡ halted (after e) (in_predicate ∷ []) v → Ended m' k' e u v
ended_of m' k' e u v same = record {
  mode_is = ap (λ h. h.mode) same;
  stack_is = one_bracket k' in_predicate (ap (λ h. h.stack) same);
  rest_is = ap (λ h. h.rest) same;
}

no_front : (b s t : List Placed) → s ≡ b ++ t → length s ≤ length t → s ≡ t
no_front [] s t is short = is
no_front (p ∷ b) s t is short =
    let e : length s ≡ suc (length (b ++ t)) = ap length is in
    let f : length (b ++ t) ≡ length b + length t = length-append b t in
    absurd (omega (arith, e, f, short))

bracket_opens : (t : Token) → (t ≡ token.CloseBracket → ⊥) → Closes in_predicate t → ⊥
bracket_opens token.CloseBracket differs h = differs refl
bracket_opens _ differs h = h

bracket_is_no_paren : (t : Token) → t ≡ token.CloseBracket → t ≡ token.CloseParen → ⊥
bracket_is_no_paren t is other = let bad : token.CloseBracket ≡ token.CloseParen = sym is ∙ other in absurd (cc)

ended_at : (l : ℕ) (m : Mode) (s v : List Placed) (e : Ending) (m' : Mode) (k' : List Bracket) (u : List Placed) → Open l m s v e →
    Ran l m [] s m' k' u → ((p : Placed) (w : List Placed) → u ≡ p ∷ w → next l m' k' p.token ≡ None) → Ended m' k' e u v
unfolding halt
ended_at l m s v e m' k' [] x r none = ended_of m' k' e [] v (sym (run_deeper l in_predicate m s m' k' [] tt r) ∙ x.in_brackets)
ended_at l m s v e m' k' (p ∷ w) x r none =
    elim (is_bracket p.token) [
      | inl is ↦
          let here : record { mode = m'; stack = k' ++ in_paren ∷ []; rest = p ∷ w } ≡ halt (suc l) (after e) (in_paren ∷ []) v =
          sym (stands_in_paren l m' k' p w (bracket_is_no_paren p.token is) (none p w refl)) ∙ sym (run_deeper l in_paren m s m' k' (p ∷ w) tt r) ∙ x.in_parens in
          let f : length (p ∷ w) ≡ length (halt (suc l) (after e) (in_paren ∷ []) v).rest = ap (λ h. length h.rest) here in
          let g : length (halt (suc l) (after e) (in_paren ∷ []) v).rest ≤ length v = rest_shorter (suc l) (after e) (in_paren ∷ []) v in
          let q = ran (suc l) m' (k' ++ in_predicate ∷ []) (p ∷ w) (record { mode = after e; stack = in_predicate ∷ []; rest = v })
          (sym (run_deeper l in_predicate m s m' k' (p ∷ w) tt r) ∙ x.in_brackets) in
          let same : p ∷ w ≡ v = no_front q.before (p ∷ w) v q.is (omega (arith, f, g)) in
          absurd (x.unclosed p w (sym same) is)
      | inr differs ↦
          ended_of m' k' e (p ∷ w) v
          (sym (stands_at (suc l) m' (k' ++ in_predicate ∷ []) p w (next_deeper l m' in_predicate k' p.token tt (bracket_opens p.token differs) (none p w refl)))
          ∙ sym (run_deeper l in_predicate m s m' k' (p ∷ w) tt r) ∙ x.in_brackets)
    ]

bracket_stands : (l : ℕ) (e : Ending) (v : List Placed) → Settled e v →
    ((p : Placed) (rest : List Placed) → v ≡ p ∷ rest → (o : Operator) → p.token ≡ token.Operator o → ⊥) → NotAt token.CloseBracket v →
    halt (suc l) (after e) (in_predicate ∷ []) v ≡ record { mode = after e; stack = in_predicate ∷ []; rest = v }
unfolding halt
bracket_stands l e [] settled quiet unclosed = refl
bracket_stands l e (p ∷ w) settled quiet unclosed =
    stands_at (suc l) (after e) (in_predicate ∷ []) p w
    (ap (allowed (suc l)) (settled p w refl (in_predicate ∷ []) ∙ unclosed_bracket [] p.token (unclosed p w refl) (quiet p w refl)))

pub inside_unclosed : (l : ℕ) (s v : List Placed) (x : Tree) → ChainRead (suc l) level.Or 1 s v x → NotAt token.CloseBracket v →
    StuckAt (suc l) (inside (want true 0 false) []) s v stop.Unexpected
inside_unclosed l s v x c unclosed =
    let e = c.reads.ending in
    let open_here : Open l (want true 0 false) s v e = record {
      in_parens = c.reads.halts true 0 false (in_paren ∷ []) refl;
      in_brackets = c.reads.halts true 0 false (in_predicate ∷ []) refl ∙ bracket_stands l e v (c.reads.settled) (no_operator v c.reads.quiet) unclosed;
      unclosed = unclosed;
    } in
    let h = halt l (want true 0 false) [] s in
    let r : Ran l (want true 0 false) [] s h.mode h.stack h.rest = ran l (want true 0 false) [] s h refl in
    let at = ended_at l (want true 0 false) s v e h.mode h.stack h.rest open_here r (stopped l (want true 0 false) [] s h refl) in
    record {
      place = inside (after e) [];
      reaches = ap (pattern_halt (suc l) (inside (want true 0 false) [])) r.is ∙ inside_on l r.within h.rest
          ∙ ap (λ y. pattern_halt (suc l) (inside y h.stack) h.rest) at.mode_is
          ∙ ap (λ y. pattern_halt (suc l) (inside (after e) y) h.rest) at.stack_is
          ∙ ap (pattern_halt (suc l) (inside (after e) [])) at.rest_is;
      cause = record {
        at_end = λ _. tt;
        at_token = λ p rest is.
            let none : turn (after e) [] p.token ≡ None = c.reads.settled p rest is [] ∙ unclosed_top p.token (no_operator v c.reads.quiet p rest is) in
            ap (λ o. first_place (inside_move o) (bracket_close_turn p.token)) none ∙ bracket_none p.token (unclosed p rest is);
      };
    }
