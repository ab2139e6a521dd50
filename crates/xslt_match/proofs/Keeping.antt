-- What is kept, by key, and what is known of paths, by number.
use Rattle.std.proofs.Common.{◌≡◌, ℕ, zero, suc, ◌+◌, ◌-◌, ◌<◌, ◌≤◌, length-drop, arith, Bool, true, false, cond, ◌&&◌, List, [], ◌∷◌, length, drop, map, refl, sym, ◌∙◌, ap, subst, eqb, eqb-true, true≢false, Option, None, Some, ◌++◌, ◌⊎◌, inl, inr, set}
use Rattle.std.specs.Prelude.{not, slice_get, option_and_then, option_map, IfSome}
use Rattle.std.specs.List.{AllByRecursion as Each}
use Rattle.std.specs.Map.{lookup}
use Rattle.std.proofs.lemmas.Option.{slice_get-map}
use Rattle.indexmap.specs.IndexMap.{insert_entry}
use Rattle.doc_tree.specs.Table.{Name, Table}
use Rattle.xp_typed_tree.specs.declared.pattern.TypedPath.{TypedPath}
use Rattle.xp_typed_tree.specs.declared.pattern.TypedPatternStep.{TypedPatternStep}
use Rattle.xp_typed_tree.specs.TypedTree.{TypedPathTree}
use Rattle.xp_typed_tree.specs.TypedView.{pattern_step_seen, path_seen}
use Rattle.xp_meaning.specs.Evaluation.{Lets}
use Rattle.xslt_match.specs.declared.kept.StepKey.{StepKey}
use Rattle.xslt_match.specs.declared.kept.KeptStep.{KeptStep}
use Rattle.xslt_match.specs.declared.kept.KnownPath.{KnownPath}
use Rattle.xslt_match.specs.contracts.kept.StepKeyPartialEq.TheImpl.{eq-value}
use Rattle.xslt_match.specs.Kept.{AreKnown, IsKnown, IsOutcomeAt, last_step, numbered_step}

both : (a b : Bool) → (a && b) ≡ true → (a ≡ true) × (b ≡ true)
both true b h = (refl, h)
both false b h = absurd (true≢false (sym h))

-- keys are equal where their numbers are
key_is : (a x : StepKey) → eq-value.it a x ≡ true → a ≡ x
key_is a x h =
    let p = both (eqb a.path x.path) (eqb a.step x.step && eqb a.parent x.parent) h in
    let q = both (eqb a.step x.step) (eqb a.parent x.parent) p.1 in
    let path : a.path ≡ x.path = eqb-true a.path x.path p.0 in
    let step : a.step ≡ x.step = eqb-true a.step x.step q.0 in
    let parent : a.parent ≡ x.parent = eqb-true a.parent x.parent q.1 in
    λ t. record { path = path t; step = step t; parent = parent t }

module _ {K V : Type 0} (eq : K → K → Bool) (exact : (a b : K) → eq a b ≡ true → a ≡ b) (P : K → V → Type 0) where
  -- what holds of each entry holds of the one that is found
  each_found : (es : List (K × V)) (key : K) → Each (λ e. P e.0 e.1) es → IfSome (lookup (eq key) es) (P key)
  each_found [] key all = tt
  each_found (e ∷ es) key all = by (eq key e.0) refl (each_found es key all.1)
    where
      by : (b : Bool) → eq key e.0 ≡ b → IfSome (lookup (eq key) es) (P key) → IfSome (cond b (Some e.1) (lookup (eq key) es)) (P key)
      by true same more = subst (λ k. P k e.1) (sym (exact key e.0 same)) all.0
      by false other more = more

  -- and stays so where it holds of one that is put in
  each_put : (es : List (K × V)) (key : K) (v : V) → Each (λ e. P e.0 e.1) es → P key v → Each (λ e. P e.0 e.1) (insert_entry eq es key v)
  each_put [] key v all h = (h, tt)
  each_put (e ∷ es) key v all h = by (eq key e.0) refl (each_put es key v all.1 h)
    where
      by : (b : Bool) → eq key e.0 ≡ b → Each (λ x. P x.0 x.1) (insert_entry eq es key v) → Each (λ x. P x.0 x.1) (cond b ((e.0, v) ∷ es) (e ∷ insert_entry eq es key v))
      by true same more = (subst (λ k. P k v) (exact key e.0 same) h, all.1)
      by false other more = (all.0, more)

module _ (T : Table) (L : Lets) (ps : List TypedPathTree) where
  pub kept_found : (es : List (StepKey × KeptStep)) (key : StepKey) → Each (λ e. IsOutcomeAt T L ps e.0 e.1) es → IfSome (lookup (eq-value.it key) es) (IsOutcomeAt T L ps key)
  kept_found = each_found eq-value.it key_is (IsOutcomeAt T L ps)

  pub kept_put : (es : List (StepKey × KeptStep)) (key : StepKey) (kept : KeptStep) → Each (λ e. IsOutcomeAt T L ps e.0 e.1) es → IsOutcomeAt T L ps key kept →
      Each (λ e. IsOutcomeAt T L ps e.0 e.1) (insert_entry eq-value.it es key kept)
  kept_put = each_put eq-value.it key_is (IsOutcomeAt T L ps)

-- A step of a pattern that stands in it

slice_map : {X Y : Type 0} (f : X → Y) (xs : List X) (i : ℕ) (x : X) → slice_get xs i ≡ Some x → slice_get (map f xs) i ≡ Some (f x)
slice_map f xs i x is = slice_get-map f xs i ∙ ap (option_map f) is

-- the step at a place of a path that stands at a place of the pattern
pub numbered : (ps : List TypedPathTree) (i j : ℕ) (path : TypedPath) (step : TypedPatternStep) → slice_get ps i ≡ Some (path_seen path) →
    slice_get path.steps.items j ≡ Some step → numbered_step ps i j ≡ Some (pattern_step_seen step)
numbered ps i j path step at is = ap (option_and_then (λ p. slice_get p.steps j)) at ∙ slice_map pattern_step_seen path.steps.items j step is

-- the first of the later steps, and those after it
pub record Headed (all : List TypedPatternStep) (j : ℕ) (step : TypedPatternStep) (rest : List TypedPatternStep) : Type 0 where
  pub first : slice_get all j ≡ Some step
  pub after : rest ≡ drop (j + 1) all
  pub below : j < length all

pub headed : (all later : List TypedPatternStep) (j : ℕ) (step : TypedPatternStep) (rest : List TypedPatternStep) → later ≡ drop j all → later ≡ step ∷ rest → Headed all j step rest
headed [] later j step rest drops is = absurd (none j drops)
  where
    none : (k : ℕ) → later ≡ drop k [] → ⊥
    none zero e = let h : [] ≡ step ∷ rest = sym e ∙ is in cc
    none (suc k) e = let h : [] ≡ step ∷ rest = sym e ∙ is in cc
headed (x ∷ all) later zero step rest drops is =
    let e : x ∷ all ≡ step ∷ rest = sym drops ∙ is in
    let head : x ≡ step = cc in
    let tail : all ≡ rest = cc in
    record { first = ap Some head; after = sym tail; below = omega arith }
headed (x ∷ all) later (suc j) step rest drops is =
    let h = headed all later j step rest drops is in
    record { first = h.first; after = h.after ∙ ap (λ k. drop k (x ∷ all)) (add-one-suc j); below = omega (arith, h.below) }
  where
    add-one-suc : (k : ℕ) → suc (k + 1) ≡ suc k + 1
    add-one-suc k = omega arith

-- by how many steps are left
pub headed_left : (all later : List TypedPatternStep) (step : TypedPatternStep) (rest : List TypedPatternStep) → later ≡ drop (length all - length later) all → later ≡ step ∷ rest →
    Headed all (length all - length later) step rest
headed_left all later step rest drops is = headed all later (length all - length later) step rest drops is

pub left_within : (all later : List TypedPatternStep) → later ≡ drop (length all - length later) all → length later ≤ length all
left_within all later drops = omega (arith, ap length drops, length-drop (length all - length later) all)

pub left_next : (all later : List TypedPatternStep) (step : TypedPatternStep) (rest : List TypedPatternStep) → later ≡ drop (length all - length later) all → later ≡ step ∷ rest →
    rest ≡ drop (length all - length rest) all
left_next all later step rest drops is =
    let h = headed_left all later step rest drops is in
    let longer : length later ≡ suc (length rest) = ap length is in
    let within : length later ≤ length all = left_within all later drops in
    let place : (length all - length later) + 1 ≡ length all - length rest = omega arith in
    h.after ∙ ap (λ k. drop k all) place

pub all_left : (all : List TypedPatternStep) → all ≡ drop (length all - length all) all
all_left all = let none : 0 ≡ length all - length all = omega arith in ap (λ k. drop k all) none

-- What is known of a pattern

-- what holds of all holds of one that may be missing
pub if_all : {X : Type 0} {P : X → Type 0} (o : Option X) → ((x : X) → P x) → IfSome o P
if_all None all = tt
if_all (Some x) all = all x

pub not_true : (b : Bool) → not b ≡ true → b ≡ false
not_true true h = absurd (true≢false (sym h))
not_true false h = refl

-- a path ends at the last of its steps
pub last_behind : (front : List TypedPatternStep) (last : TypedPatternStep) → last_step (map pattern_step_seen (front ++ last ∷ [])) ≡ Some (pattern_step_seen last)
last_behind [] last = refl
last_behind (x ∷ []) last = refl
last_behind (x ∷ y ∷ front) last = last_behind (y ∷ front) last

-- What is known of paths

-- an item of a list with one more at its end
item_pushed : {X : Type 0} (xs : List X) (x : X) (i : ℕ) (y : X) → slice_get (xs ++ x ∷ []) i ≡ Some y → (slice_get xs i ≡ Some y) ⊎ ((i ≡ length xs) × (x ≡ y))
item_pushed [] x zero y is = let same : x ≡ y = cc in inr (refl, same)
item_pushed [] x (suc i) y is = absurd (cc)
item_pushed (z ∷ xs) x zero y is = inl is
item_pushed (z ∷ xs) x (suc i) y is = elim (item_pushed xs x i y is) [ inl h ↦ inl h | inr h ↦ inr (ap suc h.0, h.1) ]

-- an item of a list in which one was replaced
item_replaced : {X : Type 0} (xs : List X) (i : ℕ) (x : X) (j : ℕ) (y : X) → slice_get (set xs i x) j ≡ Some y → ((j ≡ i) × (x ≡ y)) ⊎ (slice_get xs j ≡ Some y)
item_replaced [] i x j y is = inr is
item_replaced (z ∷ xs) zero x zero y is = let same : x ≡ y = cc in inl (refl, same)
item_replaced (z ∷ xs) zero x (suc j) y is = inr is
item_replaced (z ∷ xs) (suc i) x zero y is = inr is
item_replaced (z ∷ xs) (suc i) x (suc j) y is = elim (item_replaced xs i x j y is) [ inl h ↦ inl (ap suc h.0, h.1) | inr h ↦ inr h ]

module _ (names : List Name) (ps : List TypedPathTree) where
  -- what is known of the path with a number is known of the one that stands there
  known_there : (i j : ℕ) (p q : TypedPathTree) (known found : KnownPath) → slice_get ps i ≡ Some p → IsKnown names p known → slice_get ps j ≡ Some q → j ≡ i → known ≡ found →
      IsKnown names q found
  known_there i j p q known found stands fresh there place is =
      let same : Some p ≡ Some q = sym stands ∙ ap (slice_get ps) (sym place) ∙ there in
      let one : p ≡ q = cc in
      subst (λ r. IsKnown names r found) one (subst (IsKnown names p) is fresh)

  pub known_still : (paths now : List KnownPath) → now ≡ paths → AreKnown names ps paths → AreKnown names ps now
  known_still paths now is each = subst (AreKnown names ps) (sym is) each

  pub none_known : (paths : List KnownPath) → paths ≡ [] → AreKnown names ps paths
  none_known paths none i p known there at =
      let cut : None ≡ Some known = ap (λ ks. slice_get ks i) (sym none) ∙ at in
      absurd (cc)

  pub known_pushed : (paths now : List KnownPath) (p : TypedPathTree) (known : KnownPath) → now ≡ paths ++ known ∷ [] → slice_get ps (length paths) ≡ Some p → IsKnown names p known →
      AreKnown names ps paths → AreKnown names ps now
  known_pushed paths now p known is stands fresh each i q found there at =
      elim (item_pushed paths known i found (ap (λ ks. slice_get ks i) (sym is) ∙ at)) [
        | inl before ↦ each i q found there before
        | inr last ↦ known_there (length paths) i p q known found stands fresh there last.0 last.1
      ]

  pub known_replaced : (paths now : List KnownPath) (i : ℕ) (p : TypedPathTree) (known : KnownPath) → slice_get ps i ≡ Some p → now ≡ set paths i known → IsKnown names p known →
      AreKnown names ps paths → AreKnown names ps now
  known_replaced paths now i p known stands is fresh each j q found there at =
      elim (item_replaced paths i known j found (ap (λ ks. slice_get ks j) (sym is) ∙ at)) [
        | inl h ↦ known_there i j p q known found stands fresh there h.0 h.1
        | inr before ↦ each j q found there before
      ]
