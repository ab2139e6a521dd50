-- What came before a value of the walk.
use Rattle.std.proofs.Common.{◌≡◌, Bool, false, List, [], ◌∷◌, Ok, Err, sym, subst, inl, inr}
use Rattle.std.specs.List.{All}
use Rattle.std.proofs.lemmas.List.Elements.{All-nil, All-cons}
use Rattle.sch_model.specs.declared.fault.SchemaFault.{SchemaFault}
use Rattle.sch_phases.specs.Walk.{Stretch, Then, Unless, every, goes}

pub same-value : {A : Type 0} (a b : A) → goes b (Ok a) → a ≡ b
same-value a b e = cc

pub then-ok : {A B : Type 0} (m : Stretch A) (next : A → Stretch B) (b : B) → Then m next (Ok b) → (a : A) × m (Ok a) × next a (Ok b)
then-ok m next b h = elim h.either [ inl g ↦ let e : Ok b ≡ Err g.0 = g.2 in absurd (cc) | inr g ↦ g ]

pub unless-ok : {A : Type 0} (broken : Bool) (f : SchemaFault) (m : Stretch A) (a : A) → Unless broken f m (Ok a) → (broken ≡ false) × m (Ok a)
unless-ok broken f m a h = elim h.either [ inl g ↦ let e : Ok a ≡ Err f = g.1 in absurd (cc) | inr g ↦ g ]

-- what holds of each value
pub every-all : {A B : Type 0} (act : A → Stretch B) (P : B → Type 0) → ((x : A) (y : B) → act x (Ok y) → P y) → (xs : List A) (ys : List B) → every act xs (Ok ys) → All P ys
every-all act P each [] ys h = subst (All P) (sym (same-value ys [] h)) (All-nil P)
every-all act P each (x ∷ xs) ys h =
    let one = then-ok (act x) (λ y. Then (every act xs) (λ zs. goes (y ∷ zs))) ys h in
    let more = then-ok (every act xs) (λ zs. goes (one.0 ∷ zs)) ys one.2 in
    subst (All P) (sym (same-value ys (one.0 ∷ more.0) more.2)) (All-cons P one.0 more.0 (each x one.0 one.1) (every-all act P each xs more.0 more.1))
