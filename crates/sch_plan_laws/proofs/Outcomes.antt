-- A stretch has an outcome, where its parts have.
use Rattle.std.proofs.Common.{Bool, true, false, List, [], ◌∷◌, Result, Ok, Err, refl, inl, inr}
use Rattle.sch_model.specs.declared.fault.SchemaFault.{SchemaFault}
use Rattle.sch_phases.specs.Walk.{Stretch, Then, Unless, each, every, goes, stops}

-- something comes of it
pub record IsSome {A : Type 0} (m : Stretch A) : Type 0 where
  pub outcome : Result A SchemaFault
  pub comes : m outcome

pub goes-some : {A : Type 0} (a : A) → IsSome (goes a)
goes-some a = record { outcome = Ok a; comes = refl }

pub stops-some : {A : Type 0} (f : SchemaFault) → IsSome (stops {A = A} f)
stops-some f = record { outcome = Err f; comes = refl }

module _ {A B : Type 0} (m : Stretch A) (next : A → Stretch B) (one : IsSome m) (ones : (a : A) → IsSome (next a)) where
  behind : (r : Result A SchemaFault) → m r → IsSome (Then m next)
  behind (Err f) h = record { outcome = Err f; comes = record { either = inl (f, h, refl) } }
  behind (Ok a) h = record { outcome = (ones a).outcome; comes = record { either = inr (a, h, (ones a).comes) } }

  pub then-some : IsSome (Then m next)
  then-some = behind one.outcome one.comes

pub unless-some : {A : Type 0} (b : Bool) (f : SchemaFault) (m : Stretch A) → IsSome m → IsSome (Unless b f m)
unless-some true f m one = record { outcome = Err f; comes = record { either = inl (refl, refl) } }
unless-some false f m one = record { outcome = one.outcome; comes = record { either = inr (refl, one.comes) } }

module _ {A B : Type 0} (act : A → Stretch B) (ones : (x : A) → IsSome (act x)) where
  pub every-some : (xs : List A) → IsSome (every act xs)
  every-some [] = goes-some []
  every-some (x ∷ xs) =
      then-some (act x) (λ y. Then (every act xs) (λ ys. goes (y ∷ ys))) (ones x)
      (λ y. then-some (every act xs) (λ ys. goes (y ∷ ys)) (every-some xs) (λ ys. goes-some (y ∷ ys)))

module _ {S A B : Type 0} (act : S → A → Stretch (S × B)) (ones : (s : S) (x : A) → IsSome (act s x)) where
  pub each-some : (s : S) (xs : List A) → IsSome (each act s xs)
  each-some s [] = goes-some (s, [])
  each-some s (x ∷ xs) =
      then-some (act s x) (λ one. Then (each act one.0 xs) (λ more. goes (more.0, one.1 ∷ more.1))) (ones s x)
      (λ one. then-some (each act one.0 xs) (λ more. goes (more.0, one.1 ∷ more.1)) (each-some one.0 xs) (λ more. goes-some (more.0, one.1 ∷ more.1)))
