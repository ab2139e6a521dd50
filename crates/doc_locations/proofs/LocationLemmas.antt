-- Kinds and ways up, as locations read them.
use Rattle.std.proofs.Common.{◌≡◌, ◌≢◌, ℕ, ◌+◌, ◌<◌, ◌≤◌, ◌==◌, Bool, true, false, ◌||◌, List, [], ◌∷◌, ◌++◌, Option, None, Some, length, drop, slice_index_or, if◌then◌else◌, Result, OnOk, refl, ap, sym, subst, ◌∙◌, arith, append_assoc, ⊎_elim}
use Rattle.std.proofs.lemmas.Bool.{false_from_ne_true}
use Rattle.doc_tree.specs.Lists.{mem}
use Rattle.doc_tree.specs.kind.Kind.{Kind}
use Rattle.doc_tree.specs.kind.Kind.TheVariants.{Root, Attribute}
use Rattle.doc_tree.specs.Kinds.{can_be_kid}
use Rattle.doc_tree.specs.Table.{Table, kind_of, parent_of, kids_of, attrs_of, is_live}
use Rattle.doc_tree.specs.Walks.{above, ancestors}
use Rattle.doc_tree.specs.Laws.{WellFormed, HasWaysUp}
use Rattle.doc_locations.proofs.PlaceLemmas.{mem-append}
use Rattle.doc_locations.specs.Locations.{has_kind, place_among, place_of, kids_of_parent, kid_step, expanded_step, named_step, step_by, step_of, steps_of}
use Rattle.doc_locations.specs.inner.Places.{ArePlaced, HasPlace, HoldsSome}

-- in either list
mem-either : (n : ℕ) (xs ys : List ℕ) → mem n (xs ++ ys) ≡ true → mem n xs ≡ false → mem n ys ≡ true
mem-either n xs ys is none = let split : mem n (xs ++ ys) ≡ mem n xs || mem n ys = mem-append n xs ys in cc

-- a node of a kind that kids may have has a parent, and stands among its kids
pub listed_kid : (T : Table) → WellFormed T → HasWaysUp T → (n : ℕ) (kind : Kind) → is_live T n ≡ true → kind_of T n ≡ Some kind → can_be_kid (Some kind) ≡ true →
    (parent : ℕ) × (parent_of T n ≡ Some parent) × (mem n (kids_of T parent) ≡ true)
listed_kid T formed ways n kind live is kid =
    let no_root : n ≢ 0 = λ (e : n ≡ 0). (let root : Some kind ≡ Some Root = sym is ∙ (ap (kind_of T) e ∙ formed.root_kind) in let bad : can_be_kid (Some kind) ≡ false = ap can_be_kid root in absurd (cc)) in
    let up = ways.has_parent n live no_root in
    let there : mem n (kids_of T up.0) ≡ true = mem-either n (attrs_of T up.0) (kids_of T up.0) (formed.is_listed n up.0 up.1) (false_from_ne_true (mem n (attrs_of T up.0)) (λ (e : mem n (attrs_of T up.0) ≡ true).
    let attribute : Some kind ≡ Some Attribute = sym is ∙ formed.attribute_kind up.0 n e in let bad : can_be_kid (Some kind) ≡ false = ap can_be_kid attribute in absurd (cc))) in
    (up.0, up.1, there)

-- a place that was counted is the node's
pub counted_place : (T : Table) (places : List ℕ) → WellFormed T → HasWaysUp T → HoldsSome T places → (n : ℕ) → is_live T n ≡ true → 0 < slice_index_or places n 0 → HasPlace T n (slice_index_or places n 0)
counted_place T places formed ways some n live there kind is kid =
    let up = listed_kid T formed ways n kind live is kid in
    some up.0 n kind up.2 is there ∙ ap (λ (parent : Option ℕ). place_among (has_kind T kind) n (kids_of_parent T parent)) (sym up.1)

-- what was put behind a text is the step of a kid, where the place is that among the siblings of its kind
pub kid_step_is : {E : Type 0} (result : Result (Unit {0}) E) (T : Table) (n place : ℕ) (kind : Kind) (test old new : List ℕ) → kind_of T n ≡ Some kind → step_by T n (Some kind) ≡ kid_step test (place_of T kind n) →
    place ≡ place_of T kind n → OnOk result (new ≡ old ++ kid_step test place) → OnOk result (new ≡ old ++ step_of T n)
kid_step_is result T n place kind test old new is step own wrote =
    subst (λ (s : List ℕ). OnOk result (new ≡ old ++ s)) (ap (kid_step test) own ∙ (sym step ∙ ap (step_by T n) (sym is))) wrote

-- a step put behind a text that others were put behind
pub step-behind : {E : Type 0} (result : Result (Unit {0}) E) (old mid new steps step : List ℕ) → mid ≡ old ++ steps → OnOk result (new ≡ mid ++ step) → OnOk result (new ≡ old ++ (steps ++ step))
step-behind result old mid new steps step before wrote =
    subst (λ (text : List ℕ). OnOk result (new ≡ text)) (ap (λ (front : List ℕ). front ++ step) before ∙ append_assoc old steps step) wrote

-- the steps to a node's parent are those along the way above it
pub steps-above : (T : Table) → HasWaysUp T → (n p : ℕ) → parent_of T n ≡ Some p → steps_of T (above T p) ≡ steps_of T (ancestors T n)
steps-above T ways n p is = ap (steps_of T) (sym (ways.ancestors_at n p is))

-- above a node without a parent there are no steps
pub no_steps-above : (T : Table) → HasWaysUp T → (n : ℕ) → parent_of T n ≡ None → steps_of T (ancestors T n) ≡ []
no_steps-above T ways n none = ap (steps_of T) (ways.no_ancestors n none)

-- an attribute in a namespace has the step that names it
pub named_step-in : (local uri : List ℕ) → uri ≢ [] → named_step local uri ≡ expanded_step local uri
named_step-in local [] some = absurd (some refl)
named_step-in local (b ∷ uri) some = refl
