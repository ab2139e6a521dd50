-- The first broken rule, found place by place, is the first by the relation.
use Rattle.std.proofs.Common.{◌≡◌, ℕ, ◌<◌, ◌≤◌, ◌⊎◌, Bool, true, false, cond, List, [], ◌∷◌, ◌++◌, Option, None, Some, refl, sym, ap, ◌∙◌, subst, inl, inr, ⊎_elim, arith}
use Rattle.std.specs.List.{flat_map}
use Rattle.sch_model.specs.declared.fault.SchemaFault.{SchemaFault}
use Rattle.sch_rules.specs.FirstBroken.{Gives, least}
use Rattle.sch_rules.proofs.LeastLemmas.{Rise, least-none, least-some}
use Rattle.sch_references.specs.Places.{BrokenAmong, IsFirstAmong, NoneBroken, Place, earlier, first_among, precedes}
use Rattle.sch_references.proofs.OntoLemmas.{Before, precedes-before, precedes-not}

-- the rules of each place stand by number
abbrev pub Rising : List Place → Type 0
Rising [] = Unit {0}
Rising (place ∷ places) = Rise 1 place.rules × Rising places

pub rising-append : (xs ys : List Place) → Rising xs → Rising ys → Rising (xs ++ ys)
rising-append [] ys h k = k
rising-append (x ∷ xs) ys h k = (h.0, rising-append xs ys h.1 k)

pub rising-flat_map : {A : Type 0} (g : A → List Place) → ((x : A) → Rising (g x)) → (xs : List A) → Rising (flat_map g xs)
rising-flat_map g h [] = tt
rising-flat_map g h (x ∷ xs) = rising-append (g x) (flat_map g xs) (h x) (rising-flat_map g h xs)

-- nothing is first where nothing is broken
pub earlier-nothing : (a b : Option SchemaFault) → earlier a b ≡ None → (a ≡ None) × (b ≡ None)
earlier-nothing None b h = (refl, h)
earlier-nothing (Some f) None h = absurd (cc)
earlier-nothing (Some f) (Some g) h = by (precedes g f) h
  where
    by : (b : Bool) → cond b (Some g) (Some f) ≡ None → (Some f ≡ None) × (Some g ≡ None)
    by true h = absurd (cc)
    by false h = absurd (cc)

pub none-broken : (places : List Place) → first_among places ≡ None → NoneBroken places
none-broken [] h rule n name b = b
none-broken (place ∷ places) h rule n name b =
    let both = earlier-nothing (least place.node place.rules) (first_among places) h in
    ⊎_elim
    (λ (x : (place.node ≡ n) × Gives place.rules rule name). least-none place.node rule name place.rules both.0 x.1)
    (λ (y : BrokenAmong places rule n name). none-broken places both.1 rule n name y)
    b

-- a place, then its number
abbrev pub UpTo : ℕ → ℕ → ℕ → ℕ → Type 0
UpTo n rule m other = (n < m) ⊎ ((n ≡ m) × (rule ≤ other))

up_to-then : (a r b s c t : ℕ) → UpTo a r b s → UpTo b s c t → UpTo a r c t
up_to-then a r b s c t h k =
    ⊎_elim
    (λ (x : a < b). ⊎_elim
    (λ (y : b < c). inl (omega (arith, x, y)))
    (λ (y : (b ≡ c) × (s ≤ t)). inl (omega (arith, x, y.0))) k)
    (λ (x : (a ≡ b) × (r ≤ s)). ⊎_elim
    (λ (y : b < c). inl (omega (arith, x.0, y)))
    (λ (y : (b ≡ c) × (s ≤ t)). inr (x.0 ∙ y.0, omega (arith, x.1, y.1))) k)
    h

before-up_to : (f g : SchemaFault) → Before f g → UpTo f.node f.rule g.node g.rule
before-up_to f g h =
    ⊎_elim (λ (x : f.node < g.node). inl x) (λ (x : (f.node ≡ g.node) × (f.rule < g.rule)). inr (x.0, omega (arith, x.1))) h

pub first-some : (places : List Place) (f : SchemaFault) → Rising places → first_among places ≡ Some f → IsFirstAmong places f
first-some [] f rising h = absurd (cc)
first-some (place ∷ places) f rising h = by (λ g e. first-some places g rising.1 e) (least place.node place.rules) (first_among places) refl refl h
  where
    by : ((g : SchemaFault) → first_among places ≡ Some g → IsFirstAmong places g) → (a b : Option SchemaFault) → least place.node place.rules ≡ a → first_among places ≡ b → earlier a b ≡ Some f → IsFirstAmong (place ∷ places) f
    by more None None ea eb h = absurd (cc)
    by more None (Some g) ea eb h =
        let rest = more f (eb ∙ h) in
        record {
          broken = inr rest.broken;
          no_other = λ rule n name b. ⊎_elim
              (λ (x : (place.node ≡ n) × Gives place.rules rule name). absurd (least-none place.node rule name place.rules ea x.1))
              (λ (y : BrokenAmong places rule n name). rest.no_other rule n name y) b;
        }
    by more (Some g) None ea eb h =
        let here = least-some place.node 1 place.rules f rising.0 (ea ∙ h) in
        record {
          broken = inl (sym here.node, here.gives);
          no_other = λ rule n name b. ⊎_elim
              (λ (x : (place.node ≡ n) × Gives place.rules rule name). inr (here.node ∙ x.0, here.no_less rule name x.1))
              (λ (y : BrokenAmong places rule n name). absurd (none-broken places eb rule n name y)) b;
        }
    by more (Some g) (Some k) ea eb h = pick (precedes k g) refl h
      where
        pick : (b : Bool) → precedes k g ≡ b → cond b (Some k) (Some g) ≡ Some f → IsFirstAmong (place ∷ places) f
        pick true e h =
            let same : k ≡ f = cc in
            let rest = more f (eb ∙ h) in
            let here = least-some place.node 1 place.rules g rising.0 ea in
            let up : UpTo f.node f.rule g.node g.rule = subst (λ (s : SchemaFault). UpTo s.node s.rule g.node g.rule) same (before-up_to k g (precedes-before k g e)) in
            record {
              broken = inr rest.broken;
              no_other = λ rule n name b. ⊎_elim
                  (λ (x : (place.node ≡ n) × Gives place.rules rule name).
                  up_to-then f.node f.rule g.node g.rule n rule up (inr (here.node ∙ x.0, here.no_less rule name x.1)))
                  (λ (y : BrokenAmong places rule n name). rest.no_other rule n name y) b;
            }
        pick false e h =
            let same : g ≡ f = cc in
            let rest = more k eb in
            let here = least-some place.node 1 place.rules f rising.0 (ea ∙ h) in
            let up : UpTo f.node f.rule k.node k.rule = subst (λ (s : SchemaFault). UpTo s.node s.rule k.node k.rule) same (precedes-not k g e) in
            record {
              broken = inl (sym here.node, here.gives);
              no_other = λ rule n name b. ⊎_elim
                  (λ (x : (place.node ≡ n) × Gives place.rules rule name). inr (here.node ∙ x.0, here.no_less rule name x.1))
                  (λ (y : BrokenAmong places rule n name). up_to-then f.node f.rule k.node k.rule n rule up (rest.no_other rule n name y)) b;
            }

-- each number gives one name at an element
abbrev pub Single : List Place → Type 0
Single places = (rule n : ℕ) (a b : List ℕ) → BrokenAmong places rule n a → BrokenAmong places rule n b → a ≡ b

-- two first broken rules are the same
pub one-first : (places : List Place) → Single places → (f g : SchemaFault) → IsFirstAmong places f → IsFirstAmong places g → f ≡ g
one-first places single f g first other =
    ⊎_elim
    (λ (x : f.node < g.node). ⊎_elim
    (λ (y : g.node < f.node). absurd (omega (arith, x, y)))
    (λ (y : (g.node ≡ f.node) × (g.rule ≤ f.rule)). absurd (omega (arith, x, y.0))) back)
    (λ (x : (f.node ≡ g.node) × (f.rule ≤ g.rule)). ⊎_elim
    (λ (y : g.node < f.node). absurd (omega (arith, x.0, y)))
    (λ (y : (g.node ≡ f.node) × (g.rule ≤ f.rule)). equal x.0 (omega (arith, x.1, y.1))) back)
    (first.no_other g.rule g.node g.name other.broken)
  where
    back : UpTo g.node g.rule f.node f.rule
    back = other.no_other f.rule f.node f.name first.broken

    equal : f.node ≡ g.node → f.rule ≡ g.rule → f ≡ g
    equal node rule =
        let there : BrokenAmong places f.rule f.node g.name = rw (node, rule) other.broken in
        let name : f.name ≡ g.name = single f.rule f.node f.name g.name first.broken there in
        let e : f ≡ g = λ t. record { rule = rule t; node = node t; name = name t } in e

pub first-found : (places : List Place) → Rising places → Single places → (f : SchemaFault) → IsFirstAmong places f → first_among places ≡ Some f
first-found places rising single f first = by (first_among places) refl
  where
    by : (o : Option SchemaFault) → first_among places ≡ o → first_among places ≡ Some f
    by None e = absurd (none-broken places e f.rule f.node f.name first.broken)
    by (Some g) e = e ∙ ap Some (one-first places single g f (first-some places g rising e) first)

-- none is found where none is broken
pub first-nothing : (places : List Place) → Rising places → NoneBroken places → first_among places ≡ None
first-nothing places rising none = by (first_among places) refl
  where
    by : (o : Option SchemaFault) → first_among places ≡ o → first_among places ≡ None
    by None e = e
    by (Some g) e = let first = first-some places g rising e in absurd (none g.rule g.node g.name first.broken)
