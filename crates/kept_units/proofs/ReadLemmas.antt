-- What is kept of reads, where lets have another outcome.
use Rattle.std.proofs.Common.{◌≡◌, ◌∙◌, ℕ, Bool, true, false, ◌||◌, List, [], ◌∷◌, Option, None, Some, is_none, refl, sym, ap, if◌then◌else◌}
use Rattle.std.proofs.lemmas.Bool.{false≢true, or_left, or_right}
use Rattle.std.specs.Cmp.{nat_cmp_total, tied_itself}
use Rattle.std.specs.FinSet.{contains, contains-items, items}
use Rattle.std.specs.List.{list_any}
use Rattle.std.specs.Ordering.{eq_by_cmp, is_eq, nat_cmp}
use Rattle.xp_outcome.specs.Recorded.{LetSet, Recorded}
use Rattle.kept_state.specs.Steps.{unless_changed}
use Rattle.kept_reads.specs.Forgetting.{flag_at, unless_flagged}

-- tests of slots that are the same for each slot of a set
alike_on : (f g : ℕ → Bool) (xs : List ℕ) → ((x : ℕ) → list_any (eq_by_cmp nat_cmp x) xs ≡ true → f x ≡ g x) → list_any f xs ≡ list_any g xs
alike_on f g [] each = refl
alike_on f g (x ∷ xs) each =
    ap (λ (b : Bool). b || list_any f xs) (each x
    (or_left (eq_by_cmp nat_cmp x x) (list_any (eq_by_cmp nat_cmp x) xs) (ap is_eq (tied_itself nat_cmp_total x))))
    ∙ ap (λ (b : Bool). g x || b) (alike_on f g xs (λ y there. each y (or_right (eq_by_cmp nat_cmp y x) (list_any (eq_by_cmp nat_cmp y) xs) there)))

any_alike : (f g : ℕ → Bool) (lets : LetSet) → ((slot : ℕ) → contains lets slot ≡ true → f slot ≡ g slot) →
    list_any f (items lets) ≡ list_any g (items lets)
any_alike f g lets each = alike_on f g (items lets) (λ slot there. each slot (contains-items lets slot ∙ there))

none_any : (f : ℕ → Bool) → ((slot : ℕ) → f slot ≡ false) → (xs : List ℕ) → list_any f xs ≡ false
none_any f none [] = refl
none_any f none (x ∷ xs) = ap (λ (b : Bool). b || list_any f xs) (none x) ∙ none_any f none xs

either_moved : (a b c d : Bool) → ((a || b) || (c || d)) ≡ ((a || c) || (b || d))
either_moved true b c d = refl
either_moved false true true d = refl
either_moved false true false d = refl
either_moved false false c d = refl

any_either : (f d h : ℕ → Bool) → ((slot : ℕ) → h slot ≡ (f slot || d slot)) → (xs : List ℕ) → list_any h xs ≡ (list_any f xs || list_any d xs)
any_either f d h each [] = refl
any_either f d h each (x ∷ xs) =
    ap (λ (b : Bool). b || list_any h xs) (each x) ∙ ap (λ (b : Bool). (f x || d x) || b) (any_either f d h each xs)
    ∙ either_moved (f x) (d x) (list_any f xs) (list_any d xs)

-- Entries

pub changed_by : (flags : List Bool) (entry : Option Recorded) → unless_flagged flags entry ≡ unless_changed (flag_at flags) entry
changed_by flags None = refl
changed_by flags (Some held) = refl

-- what is kept once lets have changed was kept before
pub was_kept : (f : ℕ → Bool) (entry : Option Recorded) (held : Recorded) → unless_changed f entry ≡ Some held → entry ≡ Some held
was_kept f None held is = is
was_kept f (Some other) held is = by (list_any f (items other.lets)) is
  where
    by : (b : Bool) → (if b then None else Some other) ≡ Some held → Some other ≡ Some held
    by true is = absurd (cc)
    by false is = is

-- what is kept though lets have changed stays
pub stays_kept : (f : ℕ → Bool) (entry : Option Recorded) → is_none (unless_changed f entry) ≡ false → unless_changed f entry ≡ entry
stays_kept f None some = refl
stays_kept f (Some held) some = by (list_any f (items held.lets)) some
  where
    by : (b : Bool) → is_none (if b then None else Some held) ≡ false → (if b then None else Some held) ≡ Some held
    by true some = absurd (false≢true (sym some))
    by false some = refl

-- by tests that tell the same of what was read
pub same_changed : (f g : ℕ → Bool) (entry : Option Recorded) →
    ((held : Recorded) (slot : ℕ) → entry ≡ Some held → contains held.lets slot ≡ true → f slot ≡ g slot) →
    unless_changed f entry ≡ unless_changed g entry
same_changed f g None each = refl
same_changed f g (Some held) each =
    ap (λ (b : Bool). if b then None else Some held) (any_alike f g held.lets (λ slot there. each held slot refl there))

-- where none that was read has changed
pub none_changed : (f : ℕ → Bool) (entry : Option Recorded) →
    ((held : Recorded) (slot : ℕ) → entry ≡ Some held → contains held.lets slot ≡ true → f slot ≡ false) → unless_changed f entry ≡ entry
none_changed f None each = refl
none_changed f (Some held) each =
    ap (λ (b : Bool). if b then None else Some held) (any_alike f (λ _. false) held.lets (λ slot there. each held slot refl there)
    ∙ none_any (λ _. false) (λ _. refl) (items held.lets))

-- some changes, and then others
pub then_changed : (f d h : ℕ → Bool) → ((slot : ℕ) → h slot ≡ (f slot || d slot)) → (entry : Option Recorded) →
    unless_changed h entry ≡ unless_changed d (unless_changed f entry)
then_changed f d h each None = refl
then_changed f d h each (Some held) =
    ap (λ (b : Bool). if b then None else Some held) (any_either f d h each (items held.lets)) ∙ by (list_any f (items held.lets))
  where
    by : (b : Bool) → (if b || list_any d (items held.lets) then None else Some held) ≡ unless_changed d (if b then None else Some held)
    by true = refl
    by false = refl
