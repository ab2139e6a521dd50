-- Where the machine of patterns stops is the first fault.
use Rattle.std.proofs.Common.{◌≡◌, ℕ, ◌≤◌, nat_le, Bool, true, false, if◌then◌else◌, List, [], ◌∷◌, ◌++◌, Option, None, Some, refl, sym, ◌∙◌, ap, subst, inl, inr, arith, append_assoc, append-nil}
use Rattle.std.proofs.lemmas.Bool.Decides.{leb_tells}
use Rattle.xp_grammar.specs.declared.token.Placed.{Placed}
use Rattle.xp_grammar.specs.declared.fault.SyntaxKind.TheVariants as kind
use Rattle.xp_grammar.specs.PatternGrammar.{IsPattern}
use Rattle.xp_grammar.specs.Faults.{BeginsPattern, IsFirstPatternFault, unexpected_token, too_nested, unexpected_end, bad_token}
use Rattle.xp_grammar.specs.inner.PatternMachine.{Place, want_path, pattern_turn, pattern_load, pattern_allowed, pattern_next, PatternHalt, pattern_goes, pattern_halt, IsPendingPlace, IsLimitedPlace}
use Rattle.xp_grammar.proofs.Bottoms.{not_leb}
use Rattle.xp_grammar.proofs.Runs.{step_over}
use Rattle.xp_grammar.proofs.PatternDrives.{drive_pattern, ending_is_no_more}
use Rattle.xp_grammar.proofs.PatternCompletes.{PatternRest, PatternRestOf, pattern_rest_exists}
use Rattle.xp_grammar.proofs.PatternBack.{pattern_back}

-- the machine goes over tokens, within a limit
pub data Goes (limit : ℕ) : Place → List Placed → Place → Type 0 where
  rests : (a : Place) → Goes limit a [] a
  goes_on : (a b c : Place) (p : Placed) (s : List Placed) →
      pattern_turn a p.token ≡ Some b → pattern_load b ≤ limit → Goes limit b s c → Goes limit a (p ∷ s) c

goes_more : (limit higher : ℕ) {a b : Place} {s : List Placed} → limit ≤ higher → Goes limit a s b → Goes higher a s b
goes_more limit higher le (rests a) = rests a
goes_more limit higher le (goes_on a b c p s is room more) = goes_on a b c p s is (omega (arith, le, room)) (goes_more limit higher le more)

goes_load : (limit : ℕ) {a b : Place} {s : List Placed} → Goes limit a s b → pattern_load a ≤ limit → pattern_load b ≤ limit
goes_load limit (rests a) room = room
goes_load limit (goes_on a b c p s is fits more) room = goes_load limit more fits

pub goes_back : (limit : ℕ) {a b : Place} {s : List Placed} → Goes limit a s b → pattern_load a ≤ limit → (t : List Placed) →
    PatternRest limit b t → PatternRest limit a (s ++ t)
goes_back limit (rests a) room t r = r
goes_back limit (goes_on a b c p s is fits more) room t r =
    pattern_back limit a p (s ++ t) room
    (subst (λ o. PatternRestOf limit o (s ++ t)) (sym is) (fits, goes_back limit more fits t r))

goes_snoc : (limit : ℕ) {a b : Place} {s : List Placed} → Goes limit a s b → (p : Placed) (c : Place) → pattern_turn b p.token ≡ Some c →
    pattern_load c ≤ limit → Goes limit a (s ++ p ∷ []) c
goes_snoc limit (rests a) p c is fits = goes_on a c c p [] is fits (rests c)
goes_snoc limit (goes_on a b d q s was had more) p c is fits = goes_on a b c q (s ++ p ∷ []) was had (goes_snoc limit more p c is fits)

stops_at : (limit : ℕ) (a : Place) (p : Placed) (s : List Placed) → pattern_turn a p.token ≡ None → (pattern_halt limit a (p ∷ s)).rest ≡ p ∷ s
unfolding pattern_halt
stops_at limit a p s is =
    ap (λ o. (pattern_goes (record { place = a; rest = p ∷ s }) (λ b. pattern_halt limit b s) (pattern_allowed limit o)).rest) is

stops_over : (limit : ℕ) (a : Place) (p : Placed) (s : List Placed) (b : Place) → pattern_turn a p.token ≡ Some b →
    nat_le (pattern_load b) limit ≡ false → (pattern_halt limit a (p ∷ s)).rest ≡ p ∷ s
unfolding pattern_halt
stops_over limit a p s b is over =
    ap (λ o. (pattern_goes (record { place = a; rest = p ∷ s }) (λ c. pattern_halt limit c s) (pattern_allowed limit o)).rest) is
    ∙ ap (λ x. (pattern_goes (record { place = a; rest = p ∷ s }) (λ c. pattern_halt limit c s) (if x then Some b else None)).rest) over

goes_forward : (limit any : ℕ) {a b : Place} {s : List Placed} → Goes limit a s b → (t : List Placed) →
    (pattern_halt any a (s ++ t)).rest ≡ [] → (pattern_halt any b t).rest ≡ []
goes_forward limit any (rests a) t ends = ends
goes_forward limit any (goes_on a b c p s is fits more) t ends =
    elim (leb_tells (pattern_load b) any) [
      | inl (yes_it, le) ↦ goes_forward limit any more t (sym (ap (λ h. h.rest) (step_over any a p (s ++ t) b p.token refl is le)) ∙ ends)
      | inr (no_it, gt) ↦ let bad : p ∷ (s ++ t) ≡ [] = sym (stops_over any a p (s ++ t) b is no_it) ∙ ends in absurd (cc)
    ]

-- what the machine went over before it stopped
pub record Went (limit : ℕ) (a : Place) (s : List Placed) (b : Place) (u : List Placed) : Type 0 where
  pub before : List Placed
  pub is : s ≡ before ++ u
  pub goes : Goes limit a before b

went_here : (limit : ℕ) (a : Place) (s : List Placed) (h : PatternHalt) → record { place = a; rest = s } ≡ h → Went limit a s h.place h.rest
went_here limit a s h is =
    let at : PatternHalt → Type 0 = λ x. Went limit a s x.place x.rest in
    subst at is (record { before = []; is = refl; goes = rests a })

went_more : (limit : ℕ) (a b : Place) (p : Placed) (s : List Placed) (h : PatternHalt) → pattern_turn a p.token ≡ Some b → pattern_load b ≤ limit →
    Went limit b s h.place h.rest → Went limit a (p ∷ s) h.place h.rest
went_more limit a b p s h is fits r = record {
  before = p ∷ r.before;
  is = ap (λ t. p ∷ t) r.is;
  goes = goes_on a b h.place p r.before is fits r.goes;
}

went_on : (limit : ℕ) (a : Place) (p : Placed) (s : List Placed) (h : PatternHalt)
    (further : (b : Place) → pattern_halt limit b s ≡ h → Went limit b s h.place h.rest)
    (o : Option Place) → pattern_turn a p.token ≡ o →
    pattern_goes (record { place = a; rest = p ∷ s }) (λ b. pattern_halt limit b s) (pattern_allowed limit o) ≡ h →
    Went limit a (p ∷ s) h.place h.rest
went_on limit a p s h further None is so = went_here limit a (p ∷ s) h so
went_on limit a p s h further (Some b) is so =
    elim (leb_tells (pattern_load b) limit) [
      | inl (yes_it, le) ↦
          let on : pattern_halt limit b s ≡ h =
          sym (ap (λ x. pattern_goes (record { place = a; rest = p ∷ s }) (λ c. pattern_halt limit c s) (if x then Some b else None)) yes_it) ∙ so in
          went_more limit a b p s h is le (further b on)
      | inr (no_it, gt) ↦
          went_here limit a (p ∷ s) h
          (sym (ap (λ x. pattern_goes (record { place = a; rest = p ∷ s }) (λ c. pattern_halt limit c s) (if x then Some b else None)) no_it) ∙ so)
    ]

pub went : (limit : ℕ) (a : Place) (s : List Placed) (h : PatternHalt) → pattern_halt limit a s ≡ h → Went limit a s h.place h.rest
unfolding pattern_halt
went limit a [] h is = went_here limit a [] h is
went limit a (p ∷ s) h is = went_on limit a p s h (λ b on. went limit b s h on) (pattern_turn a p.token) refl is

pub load_start : (limit : ℕ) → pattern_load want_path ≤ limit
unfolding pattern_load
load_start limit = omega arith

begins_of : (limit : ℕ) (s : List Placed) (a : Place) (u : List Placed) (r : Went limit want_path s a u) → BeginsPattern limit r.before
begins_of limit s a u r =
    let (t, more) = pattern_rest_exists limit a (goes_load limit r.goes (load_start limit)) in
    let (ps, D) = goes_back limit r.goes (load_start limit) t more in
    (t, ps, D)

ends_at_end : (limit : ℕ) (a : Place) → (pattern_halt limit a []).rest ≡ []
unfolding pattern_halt
ends_at_end limit a = refl

not_begins : (limit any : ℕ) (before : List Placed) (a : Place) (p : Placed) → Goes limit want_path before a →
    ((s : List Placed) → (pattern_halt any a (p ∷ s)).rest ≡ p ∷ s) → BeginsPattern any (before ++ p ∷ []) → ⊥
not_begins limit any before a p goes stuck (t, ps, D) =
    let (b, ended, to) = drive_pattern any D in
    let over : (pattern_halt any want_path (before ++ (p ∷ []) ++ t)).rest ≡ [] = ap (λ h. h.rest) to ∙ ends_at_end any b in
    let grouped : (pattern_halt any want_path (before ++ (p ∷ t))).rest ≡ [] =
    ap (λ s. (pattern_halt any want_path s).rest) (sym (append_assoc before (p ∷ []) t)) ∙ over in
    let bad : p ∷ t ≡ [] = sym (stuck t) ∙ goes_forward limit any goes (p ∷ t) grouped in
    absurd (cc)

pattern_stands : (limit : ℕ) (a : Place) (p : Placed) (u : List Placed) → pattern_next limit a p.token ≡ None →
    pattern_halt limit a (p ∷ u) ≡ record { place = a; rest = p ∷ u }
unfolding pattern_halt
pattern_stands limit a p u none =
    ap (pattern_goes (record { place = a; rest = p ∷ u }) (λ b. pattern_halt limit b u)) none

-- the machine stands at a token with which it does not go on at any limit
pub pattern_fault_at_token : (limit : ℕ) (s : List Placed) (whole : Bool) (end : ℕ) (a : Place) (p : Placed) (u : List Placed) →
    pattern_halt limit want_path s ≡ pattern_halt limit a (p ∷ u) → pattern_turn a p.token ≡ None →
    IsFirstPatternFault limit s whole end kind.Unexpected p.offset
pattern_fault_at_token limit s whole end a p u is stuck =
    let r : Went limit want_path s a (p ∷ u) =
    went limit want_path s (record { place = a; rest = p ∷ u }) (is ∙ pattern_stands limit a p u (ap (pattern_allowed limit) stuck)) in
    subst (λ t. IsFirstPatternFault limit t whole end kind.Unexpected p.offset) (sym r.is)
    (unexpected_token r.before u p whole end (begins_of limit s a (p ∷ u) r)
    (λ any. not_begins limit any r.before a p r.goes (λ t. stops_at any a p t stuck)))

-- the machine stands at a token that only the limit refuses
pub pattern_fault_over_limit : (limit : ℕ) (s : List Placed) (whole : Bool) (end : ℕ) (a : Place) (p : Placed) (u : List Placed) →
    pattern_halt limit want_path s ≡ pattern_halt limit a (p ∷ u) → IsLimitedPlace limit a p.token →
    IsFirstPatternFault limit s whole end kind.TooNested p.offset
pattern_fault_over_limit limit s whole end a p u is over =
    let no_room : nat_le (pattern_load over.place) limit ≡ false = not_leb (pattern_load over.place) limit over.over in
    let r : Went limit want_path s a (p ∷ u) =
    went limit want_path s (record { place = a; rest = p ∷ u })
    (is ∙ pattern_stands limit a p u (ap (pattern_allowed limit) over.turns ∙ ap (λ x. if x then Some over.place else None) no_room)) in
    let higher : ℕ = pattern_load over.place in
    let le : limit ≤ higher = omega (arith, over.over) in
    let longer : Went higher want_path (r.before ++ p ∷ []) over.place [] = record {
      before = r.before ++ p ∷ [];
      is = sym (append-nil (r.before ++ p ∷ []));
      goes = goes_snoc higher (goes_more limit higher le r.goes) p over.place over.turns (omega arith);
    } in
    subst (λ t. IsFirstPatternFault limit t whole end kind.TooNested p.offset) (sym r.is)
    (too_nested r.before u p whole end (begins_of limit s a (p ∷ u) r)
    (not_begins limit limit r.before a p r.goes (λ t. stops_over limit a p t over.place over.turns no_room))
    higher (begins_of higher (r.before ++ p ∷ []) over.place [] longer))

begins_whole : (limit : ℕ) (s : List Placed) (a : Place) → pattern_halt limit want_path s ≡ pattern_halt limit a [] → BeginsPattern limit s
unfolding pattern_halt
begins_whole limit s a is =
    let r : Went limit want_path s a [] = went limit want_path s (record { place = a; rest = [] }) is in
    let (t, ps, D) = begins_of limit s a [] r in
    (t, ps, subst (λ b. IsPattern limit (b ++ t) [] ps) (sym (r.is ∙ append-nil r.before)) D)

-- the machine stands at the end, where more has to come
pub pattern_fault_at_end : (limit : ℕ) (s : List Placed) (end : ℕ) (a : Place) →
    pattern_halt limit want_path s ≡ pattern_halt limit a [] → IsPendingPlace a → IsFirstPatternFault limit s true end kind.Unexpected end
unfolding pattern_halt
pattern_fault_at_end limit s end a is pending =
    unexpected_end s end (begins_whole limit s a is)
    (λ ps D.
    let (b, ended, to) = drive_pattern limit D in
    let same : pattern_halt limit a [] ≡ pattern_halt limit b [] = sym is ∙ to in
    ending_is_no_more b ended (subst IsPendingPlace (ap (λ h. h.place) same) pending))

-- the machine stands where no token can be read
pub pattern_fault_no_token : (limit : ℕ) (s : List Placed) (end : ℕ) (a : Place) →
    pattern_halt limit want_path s ≡ pattern_halt limit a [] → IsFirstPatternFault limit s false end kind.BadToken end
pattern_fault_no_token limit s end a is = bad_token s end (begins_whole limit s a is)
