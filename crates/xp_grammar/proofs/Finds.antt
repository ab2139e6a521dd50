-- Where the machine stops is the first fault.
use Rattle.std.proofs.Common.{◌≡◌, ℕ, suc, ◌+◌, ◌<◌, ◌≤◌, nat_le, Bool, true, false, if◌then◌else◌, List, [], ◌∷◌, ◌++◌, length, Option, None, Some, refl, sym, ◌∙◌, ap, subst, inl, inr, arith, append_assoc, append-nil}
use Rattle.std.proofs.lemmas.Bool.Decides.{leb_tells}
use Rattle.xp_tree.specs.declared.terms.Level.TheVariants as level
use Rattle.xp_tree.specs.declared.terms.AxisName.TheVariants as axis
use Rattle.xp_grammar.specs.declared.token.Placed.{Placed}
use Rattle.xp_grammar.specs.declared.token.Token.{Token}
use Rattle.xp_grammar.specs.declared.token.Token.TheVariants as token
use Rattle.xp_grammar.specs.declared.fault.SyntaxKind.TheVariants as kind
use Rattle.xp_grammar.specs.Grammar.{IsChain, no_axis, named_test, tested_step, no_predicate, no_more_steps, no_more_arguments}
use Rattle.xp_grammar.specs.Faults.{Begins, IsFirstFault, unexpected_token, too_nested, unexpected_end, bad_token}
use Rattle.xp_grammar.specs.inner.Machine.{Bracket, in_paren, in_predicate, in_arguments, Ending, full, bare, at_root, Mode, want, need_step, need_colons, need_test, type_open, type_inner, type_close, function_open, after, Move, turn, load, allowed, next, Halt, goes, halt, IsPending, IsLimited}
use Rattle.xp_grammar.proofs.Steps.{step_on}
use Rattle.xp_grammar.proofs.Drives.{drive_chain}
use Rattle.xp_grammar.proofs.Completes.{closer, Full, Ends, StepsThen, TestThen, WantThen, AfterThen, Rest, RestOf, nothing_more, bare_of, full_of, whole_of}
use Rattle.xp_grammar.proofs.Back.{back, of_steps}

abbrev at_zero : Token → Placed
at_zero t = record { offset = 0; token = t }

full_end : (limit d : ℕ) (P : List Placed → Type 0) (s : List Placed) → P s → Full limit d P s
full_end limit d P s ends = full_of limit d P s (bare_of limit d P s (nothing_more limit d P s ends))

ends_exist : (limit : ℕ) (k : List Bracket) → (s : List Placed) × Ends limit k s
ends_exist limit [] = ([], refl)
ends_exist limit (in_paren ∷ k) =
    let (s, ends) = ends_exist limit k in
    (at_zero token.CloseParen ∷ s, closer (at_zero token.CloseParen) s refl (full_end limit (length k) (Ends limit k) s ends))
ends_exist limit (in_predicate ∷ k) =
    let (s, ends) = ends_exist limit k in
    (at_zero token.CloseBracket ∷ s, closer (at_zero token.CloseBracket) s refl (full_end limit (length k) (Ends limit k) s ends))
ends_exist limit (in_arguments ∷ k) =
    let (s, ends) = ends_exist limit k in (
      at_zero token.CloseParen ∷ s,
      (
        at_zero token.CloseParen ∷ s,
        (_, no_more_arguments (suc (length k)) (at_zero token.CloseParen ∷ s)),
        closer (at_zero token.CloseParen) s refl (full_end limit (length k) (Ends limit k) s ends),
      ),
    )

test_exists : (limit d : ℕ) (P : List Placed → Type 0) (s : List Placed) → P s → TestThen limit d P (at_zero (token.Name []) ∷ s)
test_exists limit d P s ends =
    (s, (_, named_test (at_zero (token.Name [])) s [] refl), full_end limit d P s ends)

steps_exist : (limit d : ℕ) (P : List Placed → Type 0) (s : List Placed) → P s → StepsThen limit d P (at_zero (token.Name []) ∷ s)
steps_exist limit d P s ends =
    let t : List Placed = at_zero (token.Name []) ∷ s in (
      s,
      (
        _,
        tested_step d t t s s s axis.Child _ _ _ (no_axis t) (named_test (at_zero (token.Name [])) s [] refl)
            (no_predicate d s) (no_more_steps d s),
      ),
      nothing_more limit d P s ends,
    )

want_exists : (limit : ℕ) (b : Bool) (j : ℕ) (c : Bool) (k : List Bracket) (s : List Placed) → length k + j ≤ limit →
    Ends limit k s → WantThen limit b j c k (at_zero (token.Name []) ∷ s)
want_exists limit b j true k s room ends = inl (of_steps limit b j (length k) (Ends limit k) (at_zero (token.Name []) ∷ s) room (steps_exist limit (length k) (Ends limit k) s ends))
want_exists limit b j false k s room ends = of_steps limit b j (length k) (Ends limit k) (at_zero (token.Name []) ∷ s) room (steps_exist limit (length k) (Ends limit k) s ends)

pub after_exists : (limit : ℕ) (e : Ending) (d : ℕ) (P : List Placed → Type 0) (s : List Placed) → P s → AfterThen limit e d P s
after_exists limit full d P s ends = full_end limit d P s ends
after_exists limit bare d P s ends = bare_of limit d P s (nothing_more limit d P s ends)
after_exists limit at_root d P s ends = inl (nothing_more limit d P s ends)

-- each state is completed
pub rest_exists : (limit : ℕ) (m : Mode) (k : List Bracket) → load m k ≤ limit → (s : List Placed) × Rest limit m k s
unfolding load
rest_exists limit (want b j c) k room =
    let (s, ends) = ends_exist limit k in
    (at_zero (token.Name []) ∷ s, want_exists limit b j c k s room ends)
rest_exists limit need_step k room =
    let (s, ends) = ends_exist limit k in
    (at_zero (token.Name []) ∷ s, steps_exist limit (length k) (Ends limit k) s ends)
rest_exists limit need_colons k room =
    let (s, ends) = ends_exist limit k in (
      at_zero token.DoubleColon ∷ at_zero (token.Name []) ∷ s,
      closer (at_zero token.DoubleColon) (at_zero (token.Name []) ∷ s) refl (test_exists limit (length k) (Ends limit k) s ends),
    )
rest_exists limit need_test k room =
    let (s, ends) = ends_exist limit k in
    (at_zero (token.Name []) ∷ s, test_exists limit (length k) (Ends limit k) s ends)
rest_exists limit (type_open t) k room =
    let (s, ends) = ends_exist limit k in (
      at_zero token.OpenParen ∷ at_zero token.CloseParen ∷ s,
      closer (at_zero token.OpenParen) (at_zero token.CloseParen ∷ s) refl
          (inl (closer (at_zero token.CloseParen) s refl (full_end limit (length k) (Ends limit k) s ends))),
    )
rest_exists limit (type_inner t) k room =
    let (s, ends) = ends_exist limit k in
    (at_zero token.CloseParen ∷ s, inl (closer (at_zero token.CloseParen) s refl (full_end limit (length k) (Ends limit k) s ends)))
rest_exists limit type_close k room =
    let (s, ends) = ends_exist limit k in
    (at_zero token.CloseParen ∷ s, closer (at_zero token.CloseParen) s refl (full_end limit (length k) (Ends limit k) s ends))
rest_exists limit function_open k room =
    let (s, ends) = ends_exist limit k in (
      at_zero token.OpenParen ∷ at_zero token.CloseParen ∷ s,
      closer (at_zero token.OpenParen) (at_zero token.CloseParen ∷ s) refl
          (inr (closer (at_zero token.CloseParen) s refl (full_end limit (length k) (Ends limit k) s ends))),
    )
rest_exists limit (after e) k room =
    let (s, ends) = ends_exist limit k in
    (s, after_exists limit e (length k) (Ends limit k) s ends)

-- the machine goes over tokens, within a limit
pub data Within (limit : ℕ) : Mode → List Bracket → List Placed → Mode → List Bracket → Type 0 where
  stays : (m : Mode) (k : List Bracket) → Within limit m k [] m k
  turns : (m m' : Mode) (k k' : List Bracket) (p : Placed) (s : List Placed) (mv : Move) →
      turn m k p.token ≡ Some mv → load mv.mode mv.stack ≤ limit → Within limit mv.mode mv.stack s m' k' →
      Within limit m k (p ∷ s) m' k'

within_more : (limit higher : ℕ) {m m' : Mode} {k k' : List Bracket} {s : List Placed} → limit ≤ higher →
    Within limit m k s m' k' → Within higher m k s m' k'
within_more limit higher le (stays m k) = stays m k
within_more limit higher le (turns m m' k k' p s mv is room more) =
    turns m m' k k' p s mv is (omega (arith, le, room)) (within_more limit higher le more)

within_load : (limit : ℕ) {m m' : Mode} {k k' : List Bracket} {s : List Placed} → Within limit m k s m' k' →
    load m k ≤ limit → load m' k' ≤ limit
within_load limit (stays m k) room = room
within_load limit (turns m m' k k' p s mv is fits more) room = within_load limit more fits

pub within_back : (limit : ℕ) {m m' : Mode} {k k' : List Bracket} {s : List Placed} → Within limit m k s m' k' →
    load m k ≤ limit → (t : List Placed) → Rest limit m' k' t → Rest limit m k (s ++ t)
within_back limit (stays m k) room t r = r
within_back limit (turns m m' k k' p s mv is fits more) room t r =
    back limit m k p (s ++ t) room
    (subst (λ o. RestOf limit o (s ++ t)) (sym is) (fits, within_back limit more fits t r))

stopped : Mode → List Bracket → List Placed → Halt
stopped m k s = record { mode = m; stack = k; rest = s }

stops_at : (limit : ℕ) (m : Mode) (k : List Bracket) (p : Placed) (s : List Placed) → turn m k p.token ≡ None →
    (halt limit m k (p ∷ s)).rest ≡ p ∷ s
unfolding halt
stops_at limit m k p s is =
    ap (λ o. (goes (record { mode = m; stack = k; rest = p ∷ s }) (λ mv. halt limit mv.mode mv.stack s) (allowed limit o)).rest) is

stops_over : (limit : ℕ) (m : Mode) (k : List Bracket) (p : Placed) (s : List Placed) (mv : Move) →
    turn m k p.token ≡ Some mv → nat_le (load mv.mode mv.stack) limit ≡ false → (halt limit m k (p ∷ s)).rest ≡ p ∷ s
unfolding halt
stops_over limit m k p s mv is over =
    ap (λ o. (goes (record { mode = m; stack = k; rest = p ∷ s }) (λ mv. halt limit mv.mode mv.stack s) (allowed limit o)).rest) is
    ∙ ap (λ b. (goes (record { mode = m; stack = k; rest = p ∷ s }) (λ mv. halt limit mv.mode mv.stack s) (if b then Some mv else None)).rest) over

within_forward : (limit any : ℕ) {m m' : Mode} {k k' : List Bracket} {s : List Placed} → Within limit m k s m' k' →
    (t : List Placed) → (halt any m k (s ++ t)).rest ≡ [] → (halt any m' k' t).rest ≡ []
within_forward limit any (stays m k) t ends = ends
within_forward limit any (turns m m' k k' p s mv is fits more) t ends =
    elim (leb_tells (load mv.mode mv.stack) any) [
      | inl (yes_it, le) ↦ within_forward limit any more t (sym (ap (λ h. h.rest) (step_on any m k p (s ++ t) mv p.token refl is le)) ∙ ends)
      | inr (no_it, gt) ↦ let bad : p ∷ (s ++ t) ≡ [] = sym (stops_over any m k p (s ++ t) mv is no_it) ∙ ends in absurd (cc)
    ]

-- what the machine went over before it stopped
pub record Ran (limit : ℕ) (m : Mode) (k : List Bracket) (s : List Placed) (m' : Mode) (k' : List Bracket) (u : List Placed) : Type 0 where
  pub before : List Placed
  pub is : s ≡ before ++ u
  pub within : Within limit m k before m' k'

ran_here : (limit : ℕ) (m : Mode) (k : List Bracket) (s : List Placed) (h : Halt) →
    stopped m k s ≡ h → Ran limit m k s h.mode h.stack h.rest
unfolding stopped
ran_here limit m k s h is =
    let at : Halt → Type 0 = λ x. Ran limit m k s x.mode x.stack x.rest in
    subst at is (record { before = []; is = refl; within = stays m k })

ran_more : (limit : ℕ) (m : Mode) (k : List Bracket) (p : Placed) (s : List Placed) (h : Halt) (mv : Move) →
    turn m k p.token ≡ Some mv → load mv.mode mv.stack ≤ limit → Ran limit mv.mode mv.stack s h.mode h.stack h.rest →
    Ran limit m k (p ∷ s) h.mode h.stack h.rest
ran_more limit m k p s h mv is fits r = record {
  before = p ∷ r.before;
  is = ap (λ t. p ∷ t) r.is;
  within = turns m h.mode k h.stack p r.before mv is fits r.within;
}

ran_on : (limit : ℕ) (m : Mode) (k : List Bracket) (p : Placed) (s : List Placed) (h : Halt)
    (further : (m : Mode) (k : List Bracket) → halt limit m k s ≡ h → Ran limit m k s h.mode h.stack h.rest)
    (o : Option Move) → turn m k p.token ≡ o →
    goes (stopped m k (p ∷ s)) (λ mv. halt limit mv.mode mv.stack s) (allowed limit o) ≡ h →
    Ran limit m k (p ∷ s) h.mode h.stack h.rest
ran_on limit m k p s h further None is so = ran_here limit m k (p ∷ s) h so
ran_on limit m k p s h further (Some mv) is so =
    elim (leb_tells (load mv.mode mv.stack) limit) [
      | inl (yes_it, le) ↦
          let on : halt limit mv.mode mv.stack s ≡ h =
          sym (ap (λ b. goes (stopped m k (p ∷ s)) (λ mv. halt limit mv.mode mv.stack s) (if b then Some mv else None)) yes_it) ∙ so in
          ran_more limit m k p s h mv is le (further mv.mode mv.stack on)
      | inr (no_it, gt) ↦
          ran_here limit m k (p ∷ s) h
          (sym (ap (λ b. goes (stopped m k (p ∷ s)) (λ mv. halt limit mv.mode mv.stack s) (if b then Some mv else None)) no_it) ∙ so)
    ]

pub ran : (limit : ℕ) (m : Mode) (k : List Bracket) (s : List Placed) (h : Halt) → halt limit m k s ≡ h →
    Ran limit m k s h.mode h.stack h.rest
unfolding halt stopped
ran limit m k [] h is = ran_here limit m k [] h is
ran limit m k (p ∷ s) h is =
    ran_on limit m k p s h (λ m' k' on. ran limit m' k' s h on) (turn m k p.token) refl is

pub load_start : (limit : ℕ) → load (want true 0 false) [] ≤ limit
unfolding load
load_start limit = omega arith

begins_of : (limit : ℕ) (s : List Placed) (m : Mode) (k : List Bracket) (u : List Placed)
    (r : Ran limit (want true 0 false) [] s m k u) → Begins limit r.before
begins_of limit s m k u r =
    let (t, more) = rest_exists limit m k (within_load limit r.within (load_start limit)) in
    let (v, (e, D), ends) =
    whole_of limit true 0 (Ends limit []) (r.before ++ t)
    (within_back limit r.within (load_start limit) t more) in
    (t, e, subst (λ w. IsChain limit level.Or 0 (r.before ++ t) w e) ends D)

ends_at_end : (limit : ℕ) (e : Ending) → (halt limit (after e) [] []).rest ≡ []
unfolding halt
ends_at_end limit e = refl

not_begins : (limit any : ℕ) (before : List Placed) (m : Mode) (k : List Bracket) (p : Placed) →
    Within limit (want true 0 false) [] before m k → ((s : List Placed) → (halt any m k (p ∷ s)).rest ≡ p ∷ s) →
    Begins any (before ++ p ∷ []) → ⊥
not_begins limit any before m k p within stuck (t, e, D) =
    let (x, to) = drive_chain any D true 0 false [] refl (omega arith) in
    let over : (halt any (want true 0 false) [] (before ++ (p ∷ []) ++ t)).rest ≡ [] = ap (λ h. h.rest) to ∙ ends_at_end any x in
    let grouped : (halt any (want true 0 false) [] (before ++ (p ∷ t))).rest ≡ [] =
    ap (λ s. (halt any (want true 0 false) [] s).rest) (sym (append_assoc before (p ∷ []) t)) ∙ over in
    let bad : p ∷ t ≡ [] = sym (stuck t) ∙ within_forward limit any within (p ∷ t) grouped in
    absurd (cc)

stands : (limit : ℕ) (m : Mode) (k : List Bracket) (p : Placed) (u : List Placed) → next limit m k p.token ≡ None →
    halt limit m k (p ∷ u) ≡ record { mode = m; stack = k; rest = p ∷ u }
unfolding halt
stands limit m k p u none =
    ap (goes (record { mode = m; stack = k; rest = p ∷ u }) (λ mv. halt limit mv.mode mv.stack u)) none

not_leb : (a b : ℕ) → b < a → nat_le a b ≡ false
not_leb a b lt = elim (leb_tells a b) [ inl (yes_it, le) ↦ absurd (omega (arith, lt, le)) | inr (no_it, gt) ↦ no_it ]

within_snoc : (limit : ℕ) {m m' : Mode} {k k' : List Bracket} {s : List Placed} → Within limit m k s m' k' →
    (p : Placed) (mv : Move) → turn m' k' p.token ≡ Some mv → load mv.mode mv.stack ≤ limit →
    Within limit m k (s ++ p ∷ []) mv.mode mv.stack
within_snoc limit (stays m k) p mv is fits = turns m mv.mode k mv.stack p [] mv is fits (stays mv.mode mv.stack)
within_snoc limit (turns m m' k k' q s nv was had more) p mv is fits =
    turns m mv.mode k mv.stack q (s ++ p ∷ []) nv was had (within_snoc limit more p mv is fits)

-- the machine stands at a token with which it does not go on at any limit
pub fault_at_token : (limit : ℕ) (s : List Placed) (whole : Bool) (end : ℕ) (m : Mode) (k : List Bracket) (p : Placed) (u : List Placed) →
    halt limit (want true 0 false) [] s ≡ halt limit m k (p ∷ u) → turn m k p.token ≡ None →
    IsFirstFault limit s whole end kind.Unexpected p.offset
fault_at_token limit s whole end m k p u is stuck =
    let r : Ran limit (want true 0 false) [] s m k (p ∷ u) = ran limit (want true 0 false) [] s (record { mode = m; stack = k; rest = p ∷ u }) (is ∙ stands limit m k p u (ap (allowed limit) stuck)) in
    subst (λ t. IsFirstFault limit t whole end kind.Unexpected p.offset) (sym r.is)
    (unexpected_token r.before u p whole end (begins_of limit s m k (p ∷ u) r)
    (λ any. not_begins limit any r.before m k p r.within (λ t. stops_at any m k p t stuck)))

-- the machine stands at a token that only the limit refuses
pub fault_over_limit : (limit : ℕ) (s : List Placed) (whole : Bool) (end : ℕ) (m : Mode) (k : List Bracket) (p : Placed) (u : List Placed) →
    halt limit (want true 0 false) [] s ≡ halt limit m k (p ∷ u) → IsLimited limit m k p.token →
    IsFirstFault limit s whole end kind.TooNested p.offset
fault_over_limit limit s whole end m k p u is over =
    let no_room : nat_le (load over.move.mode over.move.stack) limit ≡ false = not_leb (load over.move.mode over.move.stack) limit over.over in
    let r : Ran limit (want true 0 false) [] s m k (p ∷ u) =
    ran limit (want true 0 false) [] s (record { mode = m; stack = k; rest = p ∷ u })
    (is ∙ stands limit m k p u (ap (allowed limit) over.turns ∙ ap (λ b. if b then Some over.move else None) no_room)) in
    let higher : ℕ = load over.move.mode over.move.stack in
    let le : limit ≤ higher = omega (arith, over.over) in
    let longer : Ran higher (want true 0 false) [] (r.before ++ p ∷ []) over.move.mode over.move.stack [] = record {
      before = r.before ++ p ∷ [];
      is = sym (append-nil (r.before ++ p ∷ []));
      within = within_snoc higher (within_more limit higher le r.within) p over.move over.turns (omega arith);
    } in
    subst (λ t. IsFirstFault limit t whole end kind.TooNested p.offset) (sym r.is)
    (too_nested r.before u p whole end (begins_of limit s m k (p ∷ u) r)
    (not_begins limit limit r.before m k p r.within (λ t. stops_over limit m k p t over.move over.turns no_room))
    higher (begins_of higher (r.before ++ p ∷ []) over.move.mode over.move.stack [] longer))

begins_whole : (limit : ℕ) (s : List Placed) (m : Mode) (k : List Bracket) →
    halt limit (want true 0 false) [] s ≡ halt limit m k [] → Begins limit s
unfolding halt
begins_whole limit s m k is =
    let r : Ran limit (want true 0 false) [] s m k [] = ran limit (want true 0 false) [] s (record { mode = m; stack = k; rest = [] }) is in
    let (t, e, D) = begins_of limit s m k [] r in
    (t, e, subst (λ b. IsChain limit level.Or 0 (b ++ t) [] e) (sym (r.is ∙ append-nil r.before)) D)

pending_is_no_end : (m : Mode) (k : List Bracket) (e : Ending) → IsPending m k → m ≡ after e → k ≡ [] → ⊥
pending_is_no_end m k e pending mode_is stack_is =
    let first : IsPending (after e) k = subst (λ x. IsPending x k) mode_is pending in
    let both : IsPending (after e) [] = subst (λ x. IsPending (after e) x) stack_is first in both

-- the machine stands at the end, where more has to come
pub fault_at_end : (limit : ℕ) (s : List Placed) (end : ℕ) (m : Mode) (k : List Bracket) →
    halt limit (want true 0 false) [] s ≡ halt limit m k [] → IsPending m k →
    IsFirstFault limit s true end kind.Unexpected end
unfolding halt
fault_at_end limit s end m k is pending =
    unexpected_end s end (begins_whole limit s m k is)
    (λ e D.
    let (x, to) = drive_chain limit D true 0 false [] refl (omega arith) in
    let same : halt limit m k [] ≡ halt limit (after x) [] [] = sym is ∙ to in
    pending_is_no_end m k x pending (ap (λ h. h.mode) same) (ap (λ h. h.stack) same))

-- the machine stands where no token can be read
pub fault_no_token : (limit : ℕ) (s : List Placed) (end : ℕ) (m : Mode) (k : List Bracket) →
    halt limit (want true 0 false) [] s ≡ halt limit m k [] → IsFirstFault limit s false end kind.BadToken end
fault_no_token limit s end m k is = bad_token s end (begins_whole limit s m k is)
