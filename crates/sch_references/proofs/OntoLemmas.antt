-- The first of some faults, found from the left.
use Rattle.std.proofs.Common.{◌≡◌, ℕ, ◌+◌, ◌<◌, ◌≤◌, ◌⊎◌, Bool, true, false, cond, ◌&&◌, ◌||◌, ◌==◌, nat_lt, List, [], ◌∷◌, ◌++◌, length, take, slice_index_or, Option, None, Some, refl, sym, ap, ◌∙◌, inl, inr, ⊎_elim, arith}
use Rattle.std.specs.Prelude.{Result, Ok, Err, OnOk}
use Rattle.std.specs.List.{flat_map}
use Rattle.std.proofs.lemmas.Bool.{eqb-false, eqb-true, ltb-false, ltb-true}
use Rattle.sch_model.specs.declared.fault.SchemaFault.{SchemaFault}
use Rattle.sch_rules.specs.FirstBroken.{least}
use Rattle.sch_references.specs.Places.{Place, earlier, first_among, precedes}
use Rattle.sch_references.specs.inner.Onto.{onto}
use Rattle.sch_references.proofs.WalkLemmas.{all_taken, flat_map-next}

-- what the test says, and what it denies
abbrev pub Before : SchemaFault → SchemaFault → Type 0
Before f g = (f.node < g.node) ⊎ ((f.node ≡ g.node) × (f.rule < g.rule))

abbrev pub NotAfter : SchemaFault → SchemaFault → Type 0
NotAfter f g = (f.node < g.node) ⊎ ((f.node ≡ g.node) × (f.rule ≤ g.rule))

pub precedes-before : (f g : SchemaFault) → precedes f g ≡ true → Before f g
precedes-before f g h = by (nat_lt f.node g.node) (f.node == g.node) (nat_lt f.rule g.rule) refl refl refl h
  where
    by : (a b c : Bool) → nat_lt f.node g.node ≡ a → (f.node == g.node) ≡ b → nat_lt f.rule g.rule ≡ c → (a || (b && c)) ≡ true → Before f g
    by true b c ea eb ec h = inl (ltb-true f.node g.node ea)
    by false true true ea eb ec h = inr (eqb-true f.node g.node eb, ltb-true f.rule g.rule ec)
    by false true false ea eb ec h = absurd (cc)
    by false false c ea eb ec h = absurd (cc)

pub precedes-not : (f g : SchemaFault) → precedes f g ≡ false → NotAfter g f
precedes-not f g h = by (nat_lt f.node g.node) (f.node == g.node) (nat_lt f.rule g.rule) refl refl refl h
  where
    by : (a b c : Bool) → nat_lt f.node g.node ≡ a → (f.node == g.node) ≡ b → nat_lt f.rule g.rule ≡ c → (a || (b && c)) ≡ false → NotAfter g f
    by true b c ea eb ec h = absurd (cc)
    by false true true ea eb ec h = absurd (cc)
    by false true false ea eb ec h = inr (sym (eqb-true f.node g.node eb), ltb-false f.rule g.rule ec)
    by false false c ea eb ec h =
        let least : g.node ≤ f.node = ltb-false f.node g.node ea in
        let other : f.node ≡ g.node → ⊥ = eqb-false f.node g.node eb in
        inl (omega (arith, least, other))

-- what stands before what stands before stands before, and the same of what does not
both : (f g h : SchemaFault) → precedes g f ≡ true → precedes h g ≡ true → precedes h f ≡ false → ⊥
both f g h a b c =
    ⊎_elim
    (λ (x : g.node < f.node). ⊎_elim
    (λ (y : h.node < g.node). none (omega (arith, x, y)))
    (λ (y : (h.node ≡ g.node) × (h.rule < g.rule)). none (omega (arith, x, y.0))) (precedes-before h g b))
    (λ (x : (g.node ≡ f.node) × (g.rule < f.rule)). ⊎_elim
    (λ (y : h.node < g.node). none (omega (arith, x.0, y)))
    (λ (y : (h.node ≡ g.node) × (h.rule < g.rule)). least (omega (arith, x.0, y.0)) (omega (arith, x.1, y.1))) (precedes-before h g b))
    (precedes-before g f a)
  where
    none : h.node < f.node → ⊥
    none l = ⊎_elim (λ (z : f.node < h.node). omega (arith, l, z)) (λ (z : (f.node ≡ h.node) × (f.rule ≤ h.rule)). omega (arith, l, z.0)) (precedes-not h f c)

    least : h.node ≡ f.node → h.rule < f.rule → ⊥
    least e l = ⊎_elim (λ (z : f.node < h.node). omega (arith, e, z)) (λ (z : (f.node ≡ h.node) × (f.rule ≤ h.rule)). omega (arith, l, z.1)) (precedes-not h f c)

neither : (f g h : SchemaFault) → precedes g f ≡ false → precedes h g ≡ false → precedes h f ≡ true → ⊥
neither f g h a b c =
    ⊎_elim
    (λ (x : f.node < g.node). ⊎_elim
    (λ (y : g.node < h.node). none (omega (arith, x, y)))
    (λ (y : (g.node ≡ h.node) × (g.rule ≤ h.rule)). none (omega (arith, x, y.0))) (precedes-not h g b))
    (λ (x : (f.node ≡ g.node) × (f.rule ≤ g.rule)). ⊎_elim
    (λ (y : g.node < h.node). none (omega (arith, x.0, y)))
    (λ (y : (g.node ≡ h.node) × (g.rule ≤ h.rule)). least (omega (arith, x.0, y.0)) (omega (arith, x.1, y.1))) (precedes-not h g b))
    (precedes-not g f a)
  where
    none : f.node < h.node → ⊥
    none l = ⊎_elim (λ (z : h.node < f.node). omega (arith, l, z)) (λ (z : (h.node ≡ f.node) × (h.rule < f.rule)). omega (arith, l, z.0)) (precedes-before h f c)

    least : f.node ≡ h.node → f.rule ≤ h.rule → ⊥
    least e l = ⊎_elim (λ (z : h.node < f.node). omega (arith, e, z)) (λ (z : (h.node ≡ f.node) × (h.rule < f.rule)). omega (arith, l, z.1)) (precedes-before h f c)

pub earlier-none : (o : Option SchemaFault) → earlier o None ≡ o
earlier-none None = refl
earlier-none (Some f) = refl

pub earlier-then : (f g h : Option SchemaFault) → earlier (earlier f g) h ≡ earlier f (earlier g h)
earlier-then None g h = refl
earlier-then (Some f) None h = refl
earlier-then (Some f) (Some g) None = earlier-none (earlier (Some f) (Some g))
earlier-then (Some f) (Some g) (Some h) = by (precedes g f) (precedes h g) (precedes h f) refl refl refl
  where
    by : (a b c : Bool) → precedes g f ≡ a → precedes h g ≡ b → precedes h f ≡ c →
        earlier (cond a (Some g) (Some f)) (Some h) ≡ earlier (Some f) (cond b (Some h) (Some g))
    by true true true ea eb ec = rw (eb, ec) refl
    by true true false ea eb ec = absurd (both f g h ea eb ec)
    by true false c ea eb ec = rw (ea, eb) refl
    by false true c ea eb ec = refl
    by false false true ea eb ec = absurd (neither f g h ea eb ec)
    by false false false ea eb ec = rw (ea, ec) refl

pub first_among-append : (xs ys : List Place) → first_among (xs ++ ys) ≡ earlier (first_among xs) (first_among ys)
first_among-append [] ys = refl
first_among-append (x ∷ xs) ys =
    ap (earlier (least x.node x.rules)) (first_among-append xs ys) ∙ sym (earlier-then (least x.node x.rules) (first_among xs) (first_among ys))

pub onto-append : (first : Option SchemaFault) (xs ys : List Place) → onto first (xs ++ ys) ≡ onto (onto first xs) ys
onto-append first xs ys = ap (earlier first) (first_among-append xs ys) ∙ sym (earlier-then first (first_among xs) (first_among ys))

-- a walk so far, one item more, and all items
pub onto-next : {A : Type 0} (g : A → List Place) (xs : List A) (i : ℕ) (x : A) (first now new : Option SchemaFault) → x ≡ slice_index_or xs i x → i < length xs →
    now ≡ onto first (flat_map g (take i xs)) → new ≡ onto now (g x) → new ≡ onto first (flat_map g (take (i + 1) xs))
onto-next g xs i x first now new is less so_far here =
    here
    ∙ ap (λ f. onto f (g x)) so_far
    ∙ sym (onto-append first (flat_map g (take i xs)) (g x))
    ∙ ap (onto first) (sym (flat_map-next g xs i x is less))

pub onto-all : {A : Type 0} (g : A → List Place) (xs : List A) (i : ℕ) (first now : Option SchemaFault) → length xs ≤ i → i ≤ length xs →
    now ≡ onto first (flat_map g (take i xs)) → now ≡ onto first (flat_map g xs)
onto-all g xs i first now least most so_far = so_far ∙ ap (λ ys. onto first (flat_map g ys)) (all_taken xs i least most)

-- some places, then those of a list
pub onto-then : {A E : Type 0} (result : Result (Unit {0}) E) (first mid last : Option SchemaFault) (places : List Place) (g : A → List Place) (xs ys : List A) → xs ≡ ys → mid ≡ onto first places →
    OnOk result (last ≡ onto mid (flat_map g xs)) → OnOk result (last ≡ onto first (places ++ flat_map g ys))
onto-then (Ok x) first mid last places g xs ys same here h =
    h ∙ ap (λ l. onto mid (flat_map g l)) same ∙ ap (λ f. onto f (flat_map g ys)) here ∙ sym (onto-append first places (flat_map g ys))
onto-then (Err e) first mid last places g xs ys same here h = tt
