-- Stages one after the other.
use Rattle.std.proofs.Common.{◌∙◌, ◌≡◌, ℕ, List, [], ◌∷◌, ◌++◌, append-nil, Option, None, Some, refl, ap, sym, subst}
use Rattle.sch_stops.specs.Output.{Output}
use Rattle.sch_loading.specs.Stages.{By, Came, Is, Onward, Stage, Then, goes, halts, unread}

-- the outside did not fail
abbrev pub IsDecided : {A : Type 0} → Came A → Type 0
IsDecided (goes value) = Unit {0}
IsDecided (halts output) = Unit {0}
IsDecided (unread name) = ⊥

-- where the outside does not fail one thing alone comes of a stage, over the same files
abbrev pub Single : {A : Type 0} → Stage A → Type 0
Single {A = A} stage = (opened others : List (List ℕ)) (came other : Came A) → stage opened came → stage others other →
    IsDecided came → IsDecided other → (opened ≡ others) × (came ≡ other)

-- a stage at whose file the outside failed is not decided
pub no_unread : {A : Type 0} {name : List ℕ} (came : Came A) → came ≡ unread name → IsDecided came → ⊥
no_unread came is decided = subst IsDecided is decided

-- one end, as far as the outside does not fail
goes-same : {A : Type 0} (a b : A) → goes a ≡ goes b → a ≡ b
goes-same a b same = cc

onward-decided : {A B : Type 0} (next : A → Stage B) (between : Came A) (opened : List (List ℕ)) (came : Came B) → Onward next between opened came → IsDecided came → IsDecided between
onward-decided next (goes value) opened came on decided = tt
onward-decided next (halts output) opened came on decided = tt
onward-decided {B = B} next (unread name) opened came on decided = let no : IsDecided {A = B} (unread name) = subst (λ (c : Came B). IsDecided c) on.1 decided in no

-- what comes on behind one end is one thing
onward-same : {A B : Type 0} (next : A → Stage B) (between : Came A) → ((value : A) → Single (next value)) → Single (Onward next between)
onward-same next (goes value) each o p c d u v here there = each value o p c d u v here there
onward-same next (halts output) each o p c d u v _ _ = (u.0 ∙ sym v.0, u.1 ∙ sym v.1)
onward-same next (unread name) each o p c d u v _ _ = (u.0 ∙ sym v.0, u.1 ∙ sym v.1)

pub one-then : {A B : Type 0} (first : Stage A) (next : A → Stage B) → Single first → ((value : A) → Single (next value)) → Single (Then first next)
one-then {A} {B} first next one each o p c d u v decided other =
    let same : (u.before ≡ v.before) × (u.between ≡ v.between) = one u.before v.before u.between v.between u.begins v.begins
    (onward-decided next u.between u.after c u.goes_on decided) (onward-decided next v.between v.after d v.goes_on other) in
    let on : Onward next u.between v.after d = subst (λ (b : Came A). Onward next b v.after d) (sym same.1) v.goes_on in
    let rest : (u.after ≡ v.after) × (c ≡ d) = onward-same next u.between each u.after v.after c d u.goes_on on decided other in
    (u.in_order ∙ ap (λ (b : List (List ℕ)). b ++ u.after) same.0 ∙ ap (λ (a : List (List ℕ)). v.before ++ a) rest.0 ∙ sym v.in_order, rest.1)

pub one-is : {A : Type 0} (decided : Came A) → Single (Is decided)
one-is decided o p c d u v _ _ = (u.0 ∙ sym v.0, u.1 ∙ sym v.1)

pub one-by : {A B : Type 0} (holds : B → Type 0) (came_of : B → Came A) → ((a b : B) → holds a → holds b → a ≡ b) → Single (By holds came_of)
one-by holds came_of one o p c d u v _ _ = (u.0 ∙ sym v.0, u.3 ∙ ap came_of (one u.1 v.1 u.2 v.2) ∙ sym v.3)

-- the first of two stages stops, or goes on
pub halts-first : {A B : Type 0} (first : Stage A) (next : A → Stage B) (opened : List (List ℕ)) (output : Output) → first opened (halts output) → Then first next opened (halts output)
halts-first first next opened output stopped = record { between = halts output; before = opened; after = []; begins = stopped; goes_on = (refl, refl); in_order = sym (append-nil opened) }

pub unread-first : {A B : Type 0} (first : Stage A) (next : A → Stage B) (opened : List (List ℕ)) (name : List ℕ) → first opened (unread name) → Then first next opened (unread name)
unread-first first next opened name failed = record { between = unread name; before = opened; after = []; begins = failed; goes_on = (refl, refl); in_order = sym (append-nil opened) }

pub goes-first : {A B : Type 0} (first : Stage A) (next : A → Stage B) (before after : List (List ℕ)) (value : A) (came : Came B) → first before (goes value) → next value after came →
    Then first next (before ++ after) came
goes-first first next before after value came begins on = record { between = goes value; before = before; after = after; begins = begins; goes_on = on; in_order = refl }

-- and the second opens nothing
pub goes-on : {A B : Type 0} (first : Stage A) (next : A → Stage B) (opened : List (List ℕ)) (value : A) (came : Came B) → first opened (goes value) → next value [] came → Then first next opened came
goes-on first next opened value came begins on = record { between = goes value; before = opened; after = []; begins = begins; goes_on = on; in_order = sym (append-nil opened) }

-- what goes on behind two stages went on behind the first
pub record GoesThrough {A B : Type 0} (first : Stage A) (next : A → Stage B) (opened : List (List ℕ)) (made : B) : Type 0 where
  pub value : A
  pub before : List (List ℕ)
  pub after : List (List ℕ)
  pub begins : first before (goes value)
  pub goes_on : next value after (goes made)
  pub in_order : opened ≡ before ++ after

pub through : {A B : Type 0} (first : Stage A) (next : A → Stage B) (opened : List (List ℕ)) (made : B) → Then first next opened (goes made) → GoesThrough first next opened made
through {A} {B} first next opened made stages = by stages.between stages.begins stages.goes_on
  where
    by : (between : Came A) → first stages.before between → Onward next between stages.after (goes made) → GoesThrough first next opened made
    by (goes value) begins on = record { value = value; before = stages.before; after = stages.after; begins = begins; goes_on = on; in_order = stages.in_order }
    by (halts output) begins on = absurd (let same : goes made ≡ halts output = on.1 in cc)
    by (unread name) begins on = absurd (let same : goes made ≡ unread name = on.1 in cc)
