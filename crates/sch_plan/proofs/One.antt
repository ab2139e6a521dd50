-- A stretch has one outcome, where its parts have.
use Rattle.std.proofs.Common.{◌≡◌, Bool, true, false, List, [], ◌∷◌, Result, Ok, Err, sym, ap, ◌∙◌, subst, inl, inr, ◌⊎◌}
use Rattle.sch_model.specs.declared.fault.SchemaFault.{SchemaFault}
use Rattle.sch_phases.specs.Walk.{Stretch, Then, Unless, each, every, goes, stops}

pub record IsOne {A : Type 0} (m : Stretch A) : Type 0 where
  pub same : (r s : Result A SchemaFault) → m r → m s → r ≡ s

pub goes-one : {A : Type 0} (a : A) → IsOne (goes a)
goes-one a = record { same = λ r s h k. h ∙ sym k }

pub stops-one : {A : Type 0} (f : SchemaFault) → IsOne (stops {A = A} f)
stops-one f = record { same = λ r s h k. h ∙ sym k }

module _ {A B : Type 0} (m : Stretch A) (next : A → Stretch B) (one : IsOne m) (ones : (a : A) → IsOne (next a)) where
  abbrev Stops : Result B SchemaFault → Type 0
  Stops r = (f : SchemaFault) × m (Err f) × (r ≡ Err f)

  abbrev Goes : Result B SchemaFault → Type 0
  Goes r = (a : A) × m (Ok a) × next a r

  both-stop : (r s : Result B SchemaFault) → Stops r → Stops s → r ≡ s
  both-stop r s h k =
      let e : Err h.0 ≡ Err k.0 = one.same (Err h.0) (Err k.0) h.1 k.1 in
      let same : h.0 ≡ k.0 = cc in
      h.2 ∙ ap Err same ∙ sym k.2

  both-go : (r s : Result B SchemaFault) → Goes r → Goes s → r ≡ s
  both-go r s h k =
      let e : Ok h.0 ≡ Ok k.0 = one.same (Ok h.0) (Ok k.0) h.1 k.1 in
      let same : k.0 ≡ h.0 = cc in
      (ones h.0).same r s h.2 (subst (λ a. next a s) same k.2)

  never-both : (r s : Result B SchemaFault) → Stops r → Goes s → ⊥
  never-both r s h k = let e : Err h.0 ≡ Ok k.0 = one.same (Err h.0) (Ok k.0) h.1 k.1 in absurd (cc)

  cases : (r s : Result B SchemaFault) → Stops r ⊎ Goes r → Stops s ⊎ Goes s → r ≡ s
  cases r s (inl h) (inl k) = both-stop r s h k
  cases r s (inl h) (inr k) = absurd (never-both r s h k)
  cases r s (inr h) (inl k) = absurd (never-both s r k h)
  cases r s (inr h) (inr k) = both-go r s h k

  pub then-one : IsOne (Then m next)
  then-one = record { same = λ r s h k. cases r s h.either k.either }

module _ {A : Type 0} (b : Bool) (f : SchemaFault) (m : Stretch A) (one : IsOne m) where
  abbrev Refused : Result A SchemaFault → Type 0
  Refused r = (b ≡ true) × (r ≡ Err f)

  abbrev Passed : Result A SchemaFault → Type 0
  Passed r = (b ≡ false) × m r

  unless-cases : (r s : Result A SchemaFault) → Refused r ⊎ Passed r → Refused s ⊎ Passed s → r ≡ s
  unless-cases r s (inl h) (inl k) = h.1 ∙ sym k.1
  unless-cases r s (inl h) (inr k) = let e : b ≡ true = h.0 in let d : b ≡ false = k.0 in absurd (cc)
  unless-cases r s (inr h) (inl k) = let e : b ≡ true = k.0 in let d : b ≡ false = h.0 in absurd (cc)
  unless-cases r s (inr h) (inr k) = one.same r s h.1 k.1

  pub unless-one : IsOne (Unless b f m)
  unless-one = record { same = λ r s h k. unless-cases r s h.either k.either }

module _ {A B : Type 0} (act : A → Stretch B) (ones : (x : A) → IsOne (act x)) where
  pub every-one : (xs : List A) → IsOne (every act xs)
  every-one [] = goes-one []
  every-one (x ∷ xs) =
      then-one (act x) (λ y. Then (every act xs) (λ ys. goes (y ∷ ys))) (ones x)
      (λ y. then-one (every act xs) (λ ys. goes (y ∷ ys)) (every-one xs) (λ ys. goes-one (y ∷ ys)))

module _ {S A B : Type 0} (act : S → A → Stretch (S × B)) (ones : (s : S) (x : A) → IsOne (act s x)) where
  pub each-one : (s : S) (xs : List A) → IsOne (each act s xs)
  each-one s [] = goes-one (s, [])
  each-one s (x ∷ xs) =
      then-one (act s x) (λ one. Then (each act one.0 xs) (λ more. goes (more.0, one.1 ∷ more.1))) (ones s x)
      (λ one. then-one (each act one.0 xs) (λ more. goes (more.0, one.1 ∷ more.1)) (each-one one.0 xs) (λ more. goes-one (more.0, one.1 ∷ more.1)))
