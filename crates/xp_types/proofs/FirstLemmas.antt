-- Checks against faults: where a check gives a value there is no fault, and where it gives a fault that is the first.
use Rattle.std.proofs.Common.{◌≡◌, ◌⊎◌, ℕ, Ok, Err, inl, inr, ⊎_elim, refl, ap, sym, ◌∙◌, subst}
use Rattle.xp_types.specs.declared.faults.TypeKind.{TypeKind}
use Rattle.xp_types.specs.declared.faults.TypeFault.{TypeFault}
use Rattle.xp_types.specs.inner.Checked.{Checked, after}
use Rattle.xp_types.specs.Places.{Place, itself, left, right, Before, NoFault, FaultAt, InOrder, IsFirst}

-- there is none
abbrev pub Empty : (Place → TypeFault → Type 0) → Type 0
Empty F = (p : Place) (f : TypeFault) → F p f → ⊥

-- one at a place
abbrev pub Single : (Place → TypeFault → Type 0) → Type 0
Single F = (p : Place) (f g : TypeFault) → F p f → F p g → f ≡ g

module _ (C : Type 0) (kind : TypeKind) (offset : ℕ) where
  pub none-at : (C → ⊥) → Empty (FaultAt C kind offset)
  none-at clear itself f h = clear h.0
  none-at clear (left p) f h = h
  none-at clear (right p) f h = h

  pub single-at : Single (FaultAt C kind offset)
  single-at itself f g x y = x.1 ∙ sym y.1
  single-at (left p) f g x y = absurd x
  single-at (right p) f g x y = absurd x

  at-least : (q : Place) (g : TypeFault) → FaultAt C kind offset q g → (itself ≡ q) ⊎ Before itself q
  at-least itself g h = inl refl
  at-least (left q) g h = absurd h
  at-least (right q) g h = absurd h

  pub first-at : (f : TypeFault) → C → f ≡ record { kind = kind; offset = offset } → IsFirst (FaultAt C kind offset) f
  first-at f why is = record { place = itself; stands = (why, is); least = at-least }

module _ (F G : Place → TypeFault → Type 0) where
  pub none-order : Empty F → Empty G → Empty (InOrder F G)
  none-order m n itself f h = h
  none-order m n (left p) f h = m p f h
  none-order m n (right p) f h = n p f h

  pub single-order : Single F → Single G → Single (InOrder F G)
  single-order s t itself f g x y = absurd x
  single-order s t (left p) f g x y = s p f g x y
  single-order s t (right p) f g x y = t p f g x y

  left-least : (p : Place) → ((q : Place) (g : TypeFault) → F q g → (p ≡ q) ⊎ Before p q) → (q : Place) (g : TypeFault) → InOrder F G q g → (left p ≡ q) ⊎ Before (left p) q
  left-least p least itself g h = absurd h
  left-least p least (left q) g h = ⊎_elim (λ (e : p ≡ q). inl (ap left e)) (λ (b : Before p q). inr b) (least q g h)
  left-least p least (right q) g h = inr tt

  right-least : Empty F → (p : Place) → ((q : Place) (g : TypeFault) → G q g → (p ≡ q) ⊎ Before p q) → (q : Place) (g : TypeFault) → InOrder F G q g → (right p ≡ q) ⊎ Before (right p) q
  right-least clear p least itself g h = absurd h
  right-least clear p least (left q) g h = absurd (clear q g h)
  right-least clear p least (right q) g h = ⊎_elim (λ (e : p ≡ q). inl (ap right e)) (λ (b : Before p q). inr b) (least q g h)

  pub first-left : (f : TypeFault) → IsFirst F f → IsFirst (InOrder F G) f
  first-left f h = record { place = left h.place; stands = h.stands; least = left-least h.place h.least }

  pub first-right : Empty F → (f : TypeFault) → IsFirst G f → IsFirst (InOrder F G) f
  first-right clear f h = record { place = right h.place; stands = h.stands; least = right-least clear h.place h.least }

-- what a check gives is what the faults say
pub record Meets {A : Type 0} (m : Checked A) (F : Place → TypeFault → Type 0) : Type 0 where
  pub fine : (a : A) → m ≡ Ok a → Empty F
  pub faulty : (f : TypeFault) → m ≡ Err f → IsFirst F f
  pub one : Single F

err-same : {A B : Type 0} (e f : TypeFault) → ◌≡◌ {A = Checked A} (Err e) (Err f) → ◌≡◌ {A = Checked B} (Err e) (Err f)
err-same e f h = let is : e ≡ f = cc in ap Err is

pub nothing : {A : Type 0} (a : A) → Meets (Ok a) NoFault
nothing a = record { fine = λ b h p f x. x; faulty = λ f h. absurd (cc); one = λ p f g x y. absurd x }

pub leaf : {A : Type 0} (m : Checked A) (C : Type 0) (kind : TypeKind) (offset : ℕ) → ((a : A) → m ≡ Ok a → C → ⊥) →
    ((f : TypeFault) → m ≡ Err f → C × (f ≡ record { kind = kind; offset = offset })) → Meets m (FaultAt C kind offset)
leaf m C kind offset clear found = record {
  fine = λ a h. none-at C kind offset (clear a h);
  faulty = λ f h. let w = found f h in first-at C kind offset f w.0 w.1;
  one = single-at C kind offset;
}

-- a value made of another one
pub mapped : {A B : Type 0} (m : Checked A) (k : A → B) (F : Place → TypeFault → Type 0) → Meets m F → Meets (after m (λ a. Ok (k a))) F
unfolding after
mapped (Ok a) k F M = record { fine = λ b h. M.fine a refl; faulty = λ f h. absurd (cc); one = M.one }
mapped (Err e) k F M = record { fine = λ b h. absurd (cc); faulty = λ f h. M.faulty f (err-same e f h); one = M.one }

-- a check, and what comes after it
pub turn : {A B : Type 0} (m : Checked A) (k : A → Checked B) (F G : Place → TypeFault → Type 0) → Meets m F → Single G → ((a : A) → m ≡ Ok a → Meets (k a) G) → Meets (after m k) (InOrder F G)
unfolding after
turn (Ok a) k F G M s next = record {
  fine = λ b h. none-order F G (M.fine a refl) ((next a refl).fine b h);
  faulty = λ f h. first-right F G (M.fine a refl) f ((next a refl).faulty f h);
  one = single-order F G M.one s;
}
turn (Err e) k F G M s next = record {
  fine = λ b h. absurd (cc);
  faulty = λ f h. first-left F G f (M.faulty f (err-same e f h));
  one = single-order F G M.one s;
}

pub two : {A B C : Type 0} (m : Checked A) (n : Checked B) (k : A → B → C) (F G : Place → TypeFault → Type 0) → Meets m F → Meets n G → Meets (after m (λ a. after n (λ b. Ok (k a b)))) (InOrder F G)
two m n k F G M N = turn m (λ a. after n (λ b. Ok (k a b))) F G M N.one (λ a h. mapped n (k a) G N)

pub three : {A B C D : Type 0} (m : Checked A) (n : Checked B) (l : Checked C) (k : A → B → C → D) (F G H : Place → TypeFault → Type 0) → Meets m F → Meets n G → Meets l H →
    Meets (after m (λ a. after n (λ b. after l (λ c. Ok (k a b c))))) (InOrder F (InOrder G H))
three m n l k F G H M N L = turn m (λ a. after n (λ b. after l (λ c. Ok (k a b c)))) F (InOrder G H) M (single-order G H N.one L.one) (λ a h. two n l (k a) G H N L)

pub four : {A B C D E : Type 0} (m : Checked A) (n : Checked B) (l : Checked C) (o : Checked D) (k : A → B → C → D → E) (F G H I : Place → TypeFault → Type 0) → Meets m F → Meets n G → Meets l H → Meets o I →
    Meets (after m (λ a. after n (λ b. after l (λ c. after o (λ d. Ok (k a b c d)))))) (InOrder F (InOrder G (InOrder H I)))
four m n l o k F G H I M N L O =
    turn m (λ a. after n (λ b. after l (λ c. after o (λ d. Ok (k a b c d))))) F (InOrder G (InOrder H I)) M (single-order G (InOrder H I) N.one (single-order H I L.one O.one)) (λ a h. three n l o (k a) G H I N L O)

-- ---- the first fault is what the check gives

apart : (p q : Place) → Before p q → Before q p → ⊥
apart itself itself b c = b
apart itself (left q) b c = b
apart itself (right q) b c = b
apart (left p) itself b c = b
apart (left p) (left q) b c = apart p q b c
apart (left p) (right q) b c = c
apart (right p) itself b c = b
apart (right p) (left q) b c = b
apart (right p) (right q) b c = apart p q b c

same-place : (p q : Place) → (p ≡ q) ⊎ Before p q → (q ≡ p) ⊎ Before q p → p ≡ q
same-place p q x y = ⊎_elim (λ (e : p ≡ q). e) (λ (b : Before p q). ⊎_elim (λ (e : q ≡ p). sym e) (λ (c : Before q p). absurd (apart p q b c)) y) x

pub first-given : {A : Type 0} (m : Checked A) (F : Place → TypeFault → Type 0) → Meets m F → (f : TypeFault) → IsFirst F f → m ≡ Err f
first-given (Ok a) F M f h = absurd (M.fine a refl h.place f h.stands)
first-given (Err g) F M f h =
    let k = M.faulty g refl in
    let there = same-place h.place k.place (h.least k.place g k.stands) (k.least h.place f h.stands) in
    ap Err (M.one k.place g f k.stands (subst (λ p. F p f) there h.stands))
