-- Stretches that go on with the same values; where they stop may differ.
use Rattle.std.proofs.Common.{◌≡◌, Bool, false, List, [], ◌∷◌, map, Ok, Err, refl, subst, inl, inr}
use Rattle.sch_model.specs.declared.fault.SchemaFault.{SchemaFault}
use Rattle.sch_phases.specs.Walk.{Stretch, Then, Unless, each, every, goes, stops}

pub record Alike {A : Type 0} (m n : Stretch A) : Type 0 where
  pub there : (a : A) → m (Ok a) → n (Ok a)
  pub back : (a : A) → n (Ok a) → m (Ok a)

pub alike-same : {A : Type 0} (m : Stretch A) → Alike m m
alike-same m = record { there = λ a h. h; back = λ a h. h }

same-value : {A : Type 0} (a b : A) → goes b (Ok a) → a ≡ b
same-value a b e = cc

then-ok : {A B : Type 0} (m : Stretch A) (next : A → Stretch B) (b : B) → Then m next (Ok b) → (a : A) × m (Ok a) × next a (Ok b)
then-ok m next b h = elim h.either [ inl g ↦ let e : Ok b ≡ Err g.0 = g.2 in absurd (cc) | inr g ↦ g ]

then-made : {A B : Type 0} (m : Stretch A) (next : A → Stretch B) (b : B) (a : A) → m (Ok a) → next a (Ok b) → Then m next (Ok b)
then-made m next b a h k = record { either = inr (a, h, k) }

unless-ok : {A : Type 0} (broken : Bool) (f : SchemaFault) (m : Stretch A) (a : A) → Unless broken f m (Ok a) → (broken ≡ false) × m (Ok a)
unless-ok broken f m a h = elim h.either [ inl g ↦ let e : Ok a ≡ Err f = g.1 in absurd (cc) | inr g ↦ g ]

-- one stretch behind another
module _ {A B : Type 0} where
  goes-on : (m n : Stretch A) (next after : A → Stretch B) → ((a : A) → m (Ok a) → n (Ok a)) → ((a : A) (b : B) → next a (Ok b) → after a (Ok b)) → (b : B) → Then m next (Ok b) → Then n after (Ok b)
  goes-on m n next after first second b h =
      let went = then-ok m next b h in
      then-made n after b went.0 (first went.0 went.1) (second went.0 b went.2)

  pub alike-then : (m n : Stretch A) (next after : A → Stretch B) → Alike m n → ((a : A) → Alike (next a) (after a)) → Alike (Then m next) (Then n after)
  alike-then m n next after first second = record {
    there = goes-on m n next after first.there (λ a. (second a).there);
    back = goes-on n m after next first.back (λ a. (second a).back);
  }

  -- stretches that go on with values of their own
  steps-on : (x y : A) (next after : A → Stretch B) → ((b : B) → next x (Ok b) → after y (Ok b)) → (b : B) → Then (goes x) next (Ok b) → Then (goes y) after (Ok b)
  steps-on x y next after second b h =
      let went = then-ok (goes x) next b h in
      then-made (goes y) after b y refl (second b (subst (λ a. next a (Ok b)) (same-value went.0 x went.1) went.2))

  pub alike-goes : (x y : A) (next after : A → Stretch B) → Alike (next x) (after y) → Alike (Then (goes x) next) (Then (goes y) after)
  alike-goes x y next after second = record {
    there = steps-on x y next after second.there;
    back = steps-on y x after next second.back;
  }

  -- stretches that both stop
  never : (f : SchemaFault) (next : A → Stretch B) (b : B) → Then (stops f) next (Ok b) → ⊥
  never f next b h =
      let went = then-ok (stops f) next b h in
      let e : Ok went.0 ≡ Err f = went.1 in absurd (cc)

  pub alike-stops : (f g : SchemaFault) (next after : A → Stretch B) → Alike (Then (stops f) next) (Then (stops g) after)
  alike-stops f g next after = record {
    there = λ b h. absurd (never f next b h);
    back = λ b h. absurd (never g after b h);
  }

passes : {A : Type 0} (broken : Bool) (f g : SchemaFault) (m n : Stretch A) → ((a : A) → m (Ok a) → n (Ok a)) → (a : A) → Unless broken f m (Ok a) → Unless broken g n (Ok a)
passes broken f g m n on a h =
    let passed = unless-ok broken f m a h in
    record { either = inr (passed.0, on a passed.1) }

pub alike-unless : {A : Type 0} (broken : Bool) (f g : SchemaFault) (m n : Stretch A) → Alike m n → Alike (Unless broken f m) (Unless broken g n)
alike-unless broken f g m n on = record { there = passes broken f g m n on.there; back = passes broken g f n m on.back }

-- items of which each goes on as before when it is changed
module _ {A B : Type 0} (act after : A → Stretch B) (change : A → A) (alike : (x : A) → Alike (act x) (after (change x))) where
  pub alike-every : (xs : List A) → Alike (every act xs) (every after (map change xs))
  alike-every [] = alike-same (goes [])
  alike-every (x ∷ xs) =
      alike-then (act x) (after (change x)) (λ y. Then (every act xs) (λ ys. goes (y ∷ ys))) (λ y. Then (every after (map change xs)) (λ ys. goes (y ∷ ys))) (alike x)
      (λ y. alike-then (every act xs) (every after (map change xs)) (λ ys. goes (y ∷ ys)) (λ ys. goes (y ∷ ys)) (alike-every xs) (λ ys. alike-same (goes (y ∷ ys))))

module _ {S A B : Type 0} (act after : S → A → Stretch (S × B)) (change : A → A) (alike : (s : S) (x : A) → Alike (act s x) (after s (change x))) where
  pub alike-each : (s : S) (xs : List A) → Alike (each act s xs) (each after s (map change xs))
  alike-each s [] = alike-same (goes (s, []))
  alike-each s (x ∷ xs) =
      alike-then (act s x) (after s (change x)) (λ one. Then (each act one.0 xs) (λ more. goes (more.0, one.1 ∷ more.1))) (λ one. Then (each after one.0 (map change xs)) (λ more. goes (more.0, one.1 ∷ more.1))) (alike s x)
      (λ one. alike-then (each act one.0 xs) (each after one.0 (map change xs)) (λ more. goes (more.0, one.1 ∷ more.1)) (λ more. goes (more.0, one.1 ∷ more.1)) (alike-each one.0 xs) (λ more. alike-same (goes (more.0, one.1 ∷ more.1))))
