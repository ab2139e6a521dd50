-- Where the parser stops, the machine of patterns stops.
use Rattle.std.proofs.Common.{◌≡◌, ℕ, ◌≤◌, if◌then◌else◌, List, [], ◌∷◌, Option, None, Some, refl, sym, ◌∙◌, ap, subst}
use Rattle.xp_grammar.specs.declared.token.Placed.{Placed}
use Rattle.xp_grammar.specs.declared.token.Token.{Token}
use Rattle.xp_grammar.specs.declared.token.Token.TheVariants as token
use Rattle.xp_parse.specs.declared.stop.Stop.{Stop}
use Rattle.xp_parse.specs.declared.stop.Stop.TheVariants as stop
use Rattle.xp_parse.specs.inner.Places.{IsFirst, Took, Refused}
use Rattle.xp_parse.specs.inner.Parsing.{IsNoMemory}
use Rattle.xp_parse.proofs.Failing.{first_token, no_end}
use Rattle.xp_grammar.specs.inner.PatternMachine.{Place, want_step, pattern_turn, pattern_load, pattern_allowed, pattern_next, PatternHalt, pattern_goes, pattern_halt, IsPendingPlace, IsLimitedPlace}
use Rattle.xp_grammar.proofs.Bottoms.{not_leb}
use Rattle.xp_grammar.proofs.Runs.{step_over}
use Rattle.xp_parse.specs.inner.PatternReading.{PlaceCause, StuckAt, FailsAt, IsStepPlace, NoLiteral}

-- the machine goes on first
pub stuck_beyond : (limit : ℕ) (a b : Place) (s m u : List Placed) (why : Stop) → pattern_halt limit a s ≡ pattern_halt limit b m →
    StuckAt limit b m u why → StuckAt limit a s u why
stuck_beyond limit a b s m u why to x = record { place = x.place; reaches = to ∙ x.reaches; cause = x.cause }

pub fails_beyond : (limit : ℕ) (a b : Place) (s m u : List Placed) (why : Stop) → pattern_halt limit a s ≡ pattern_halt limit b m →
    FailsAt limit b m u why → FailsAt limit a s u why
fails_beyond limit a b s m u why to x = record { stuck = λ nm. stuck_beyond limit a b s m u why to (x.stuck nm) }

pub took_over : (limit : ℕ) (a : Place) (s u : List Placed) (t : Token) (b : Place) → Took t s u → pattern_turn a t ≡ Some b →
    pattern_load b ≤ limit → pattern_halt limit a s ≡ pattern_halt limit b u
took_over limit a s u t b r leads room = ap (pattern_halt limit a) r.is ∙ step_over limit a r.placed u b t r.token leads room

-- the machine stops at once
pub end_at : (limit : ℕ) (a : Place) (s : List Placed) → s ≡ [] → IsPendingPlace a → FailsAt limit a s s stop.Unexpected
end_at limit a s is pending = record {
  stuck = λ _. record {
    place = a;
    reaches = refl;
    cause = record { at_end = λ _. pending; at_token = λ p rest e. absurd (no_end p rest s e is) };
  };
}

pub first_at : (limit : ℕ) (a : Place) (s : List Placed) (t : Token) → IsFirst t s → pattern_turn a t ≡ None →
    FailsAt limit a s s stop.Unexpected
first_at limit a s t f none = record {
  stuck = λ _. record {
    place = a;
    reaches = refl;
    cause = record {
      at_end = λ e. absurd (no_end f.placed f.rest s f.is e);
      at_token = λ p rest is. ap (pattern_turn a) (first_token t s f p rest is) ∙ none;
    };
  };
}

pub refused_at : (limit : ℕ) (a : Place) (s u : List Placed) (t : Token) (why : Stop) → Refused t s u why → IsPendingPlace a →
    ((x : Token) → (x ≡ t → ⊥) → pattern_turn a x ≡ None) → FailsAt limit a s u why
refused_at limit a s u t why r pending none = record {
  stuck = λ _.
      let here : StuckAt limit a s s stop.Unexpected = record {
        place = a;
        reaches = refl;
        cause = record { at_end = λ _. pending; at_token = λ p rest is. none p.token (r.not_at p rest is) };
      } in
      subst (λ w. StuckAt limit a s u w) (sym r.why_is) (subst (λ v. StuckAt limit a s v stop.Unexpected) (sym r.kept) here);
}

pub no_literal_at : (limit : ℕ) (a : Place) (s u : List Placed) (why : Stop) → NoLiteral s u why → IsPendingPlace a →
    ((x : Token) → ((value : List ℕ) → x ≡ token.Literal value → ⊥) → pattern_turn a x ≡ None) → FailsAt limit a s u why
no_literal_at limit a s u why r pending none = record {
  stuck = λ nm.
      let here : StuckAt limit a s s stop.Unexpected = record {
        place = a;
        reaches = refl;
        cause = record { at_end = λ _. pending; at_token = λ p rest is. none p.token (λ v e. r.not_at nm v p rest is e) };
      } in
      subst (λ w. StuckAt limit a s u w) (sym (r.why_is nm)) (subst (λ v. StuckAt limit a s v stop.Unexpected) (sym (r.kept nm)) here);
}

-- where there is a cause, the machine stands
place_stands : (limit : ℕ) (a : Place) (p : Placed) (u : List Placed) → pattern_next limit a p.token ≡ None →
    pattern_halt limit a (p ∷ u) ≡ record { place = a; rest = p ∷ u }
unfolding pattern_halt
place_stands limit a p u none = ap (pattern_goes (record { place = a; rest = p ∷ u }) (λ b. pattern_halt limit b u)) none

limited_stands : (limit : ℕ) (a : Place) (p : Placed) → IsLimitedPlace limit a p.token → pattern_next limit a p.token ≡ None
limited_stands limit a p x =
    ap (pattern_allowed limit) x.turns ∙ ap (λ b. if b then Some x.place else None) (not_leb (pattern_load x.place) limit x.over)

place_caused : (limit : ℕ) (a : Place) (u : List Placed) (why : Stop) → IsNoMemory why → PlaceCause limit a u why →
    pattern_halt limit a u ≡ record { place = a; rest = u }
unfolding pattern_halt
place_caused limit a u stop.Memory nm x = absurd nm
place_caused limit a [] stop.Unexpected nm x = refl
place_caused limit a (p ∷ u) stop.Unexpected nm x = place_stands limit a p u (ap (pattern_allowed limit) (x.at_token p u refl))
place_caused limit a u stop.TooNested nm x =
    let there : pattern_halt limit a (x.placed ∷ x.rest) ≡ record { place = a; rest = x.placed ∷ x.rest } =
    place_stands limit a x.placed x.rest (limited_stands limit a x.placed x.limited) in
    subst (λ v. pattern_halt limit a v ≡ record { place = a; rest = v }) (sym x.is) there

-- at two places from which the machine goes on alike, it stops alike
pub record Alike (a b : Place) (s : List Placed) : Type 0 where
  pub at_end : s ≡ [] → IsPendingPlace a
  pub at_token : (p : Placed) (rest : List Placed) → s ≡ p ∷ rest → pattern_turn a p.token ≡ pattern_turn b p.token

moved_cause : (limit : ℕ) (a b : Place) (s : List Placed) (why : Stop) → Alike a b s → PlaceCause limit b s why → PlaceCause limit a s why
moved_cause limit a b s stop.Memory alike x = tt
moved_cause limit a b s stop.Unexpected alike x = record {
  at_end = alike.at_end;
  at_token = λ p rest is. alike.at_token p rest is ∙ x.at_token p rest is;
}
moved_cause limit a b s stop.TooNested alike x = record {
  placed = x.placed;
  rest = x.rest;
  is = x.is;
  limited = record {
    place = x.limited.place;
    turns = alike.at_token x.placed x.rest x.is ∙ x.limited.turns;
    over = x.limited.over;
  };
}

abbrev halted : Place → List Placed → PatternHalt
halted a s = record { place = a; rest = s }

stands_alike : (limit : ℕ) (a b : Place) (s u : List Placed) (why : Stop) → Alike a b s → IsNoMemory why →
    pattern_halt limit b s ≡ halted b s → StuckAt limit b s u why → StuckAt limit a s u why
stands_alike limit a b s u why alike nm stands x =
    let same : halted b s ≡ halted x.place u = sym stands ∙ x.reaches ∙ place_caused limit x.place u why nm x.cause in
    let rest_is : s ≡ u = ap (λ h. h.rest) same in
    let there : PlaceCause limit b u why = subst (λ c. PlaceCause limit c u why) (sym (ap (λ h. h.place) same)) x.cause in
    let here : PlaceCause limit b s why = subst (λ v. PlaceCause limit b v why) (sym rest_is) there in
    subst (λ v. StuckAt limit a s v why) rest_is (record { place = a; reaches = refl; cause = moved_cause limit a b s why alike here })

goes_alike : (limit : ℕ) (a b : Place) (p : Placed) (s u : List Placed) (why : Stop) → Alike a b (p ∷ s) → IsNoMemory why →
    (o : Option Place) → pattern_next limit b p.token ≡ o → StuckAt limit b (p ∷ s) u why → StuckAt limit a (p ∷ s) u why
unfolding pattern_halt
goes_alike limit a b p s u why alike nm None is x = stands_alike limit a b (p ∷ s) u why alike nm (place_stands limit b p s is) x
goes_alike limit a b p s u why alike nm (Some c) is x =
    let from_there : pattern_halt limit b (p ∷ s) ≡ pattern_halt limit c s =
    ap (pattern_goes (halted b (p ∷ s)) (λ y. pattern_halt limit y s)) is in
    let from_here : pattern_halt limit a (p ∷ s) ≡ pattern_halt limit c s =
    ap (pattern_goes (halted a (p ∷ s)) (λ y. pattern_halt limit y s)) (ap (pattern_allowed limit) (alike.at_token p s refl) ∙ is) in
    stuck_beyond limit a b (p ∷ s) (p ∷ s) u why (from_here ∙ sym from_there) x

stuck_alike : (limit : ℕ) (a b : Place) (s u : List Placed) (why : Stop) → Alike a b s → IsNoMemory why → StuckAt limit b s u why → StuckAt limit a s u why
unfolding pattern_halt
stuck_alike limit a b [] u why alike nm x = stands_alike limit a b [] u why alike nm refl x
stuck_alike limit a b (p ∷ s) u why alike nm x = goes_alike limit a b p s u why alike nm (pattern_next limit b p.token) refl x

pub alike_fails : (limit : ℕ) (a b : Place) (s u : List Placed) (why : Stop) → Alike a b s → FailsAt limit b s u why → FailsAt limit a s u why
alike_fails limit a b s u why alike x = record { stuck = λ nm. stuck_alike limit a b s u why alike nm (x.stuck nm) }

-- where only a step may begin, the machine stops as where one must begin
pub step_fails : (limit : ℕ) (a : Place) (s u : List Placed) (why : Stop) → IsStepPlace a s → FailsAt limit want_step s u why → FailsAt limit a s u why
step_fails limit a s u why x f = alike_fails limit a want_step s u why (record { at_end = x.at_end; at_token = x.at_token }) f
