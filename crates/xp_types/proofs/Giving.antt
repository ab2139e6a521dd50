-- Checks one after another: where one gives a value the next goes on, and where one gives a fault that is the answer.
use Rattle.std.proofs.Common.{◌≡◌, Result, Ok, Err, sym, ap, ◌∙◌, subst}
use Rattle.xp_types.specs.declared.faults.TypeFault.{TypeFault}
use Rattle.xp_types.specs.declared.faults.CheckError.{CheckError}
use Rattle.xp_types.specs.declared.faults.CheckError.TheVariants as errors
use Rattle.xp_types.specs.inner.Checked.{Checked, after, ChecksAs}

module _ {A B : Type 0} (m : Checked A) (f : A → Checked B) where
  pub after-value : (a : A) → m ≡ Ok a → after m f ≡ f a
  unfolding after
  after-value a e = ap (λ r. after r f) e

  pub after-fault : (t : TypeFault) → m ≡ Err t → after m f ≡ Err t
  unfolding after
  after-fault t e = ap (λ r. after r f) e

module _ {A B C D : Type 0} (m : Checked A) (f : A → Checked B) (s : C → A) (t : D → B) where
  -- the first check gave a value
  pub goes : (c : C) (r : Result D CheckError) → ChecksAs m s (Ok c) → ChecksAs (f (s c)) t r → ChecksAs (after m f) t r
  goes c (Ok d) g h = record { given = after-value m f (s c) g.given ∙ h.given }
  goes c (Err (errors.Fault x)) g h = record { given = after-value m f (s c) g.given ∙ h.given }
  goes c (Err errors.Memory) g h = record { given = tt }

  -- the first check gave an error
  pub stops : (e : CheckError) → ChecksAs m s (Err e) → ChecksAs (after m f) t (Err e)
  stops (errors.Fault x) g = record { given = after-fault m f x g.given }
  stops errors.Memory g = record { given = tt }

-- an error says the same of whatever would have been given
pub still : {A B C : Type 0} (m : Checked A) (s : B → A) (t : C → A) (e : CheckError) → ChecksAs m s (Err e) → ChecksAs m t (Err e)
still m s t (errors.Fault x) g = record { given = g.given }
still m s t errors.Memory g = record { given = tt }

module _ {A B : Type 0} {m n : Checked A} {s : B → A} where
  pub gives-same : {r : Result B CheckError} → n ≡ m → ChecksAs m s r → ChecksAs n s r
  gives-same {r} e g = subst (λ k. ChecksAs k s r) (sym e) g

pub memory : {A B : Type 0} (m : Checked A) (s : B → A) (e : CheckError) → e ≡ errors.Memory → ChecksAs m s (Err e)
memory m s e is = subst (λ x. ChecksAs m s (Err x)) (sym is) (record { given = tt })
