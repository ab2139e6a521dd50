-- Stretches of the walk one after another, as the program answers them.
use Rattle.std.proofs.Common.{◌≡◌, ◌⊎◌, Bool, true, false, Result, Ok, Err, refl, sym, subst, inl, inr}
use Rattle.sch_model.specs.declared.fault.SchemaError.{SchemaError}
use Rattle.sch_model.specs.declared.fault.SchemaError.TheVariants.{Fault, Memory}
use Rattle.sch_model.specs.declared.fault.SchemaFault.{SchemaFault}
use Rattle.sch_phases.specs.Walk.{Answers, Stretch, Then, Unless, goes}

-- want of memory may be answered always
pub answers_memory : {A : Type 0} (m : Stretch A) → Answers m (Err Memory)
answers_memory m = record { given = tt }

pub answers_late : {A : Type 0} (m : Stretch A) (e : SchemaError) → e ≡ Memory → Answers m (Err e)
answers_late m e is = subst (λ x. Answers m (Err x)) (sym is) (answers_memory m)

pub answers_goes : {A : Type 0} (a : A) → Answers (goes a) (Ok a)
answers_goes a = record { given = refl }

module _ {A B : Type 0} (m : Stretch A) (next : A → Stretch B) where
  -- the first stretch went on
  pub answers_then : (a : A) (r : Result B SchemaError) → Answers m (Ok a) → Answers (next a) r → Answers (Then m next) r
  answers_then a (Ok b) g h = record { given = record { either = inr (a, g.given, h.given) } }
  answers_then a (Err (Fault f)) g h = record { given = record { either = inr (a, g.given, h.given) } }
  answers_then a (Err Memory) g h = record { given = tt }

  -- it stopped
  pub answers_stop : (e : SchemaError) → Answers m (Err e) → Answers (Then m next) (Err e)
  answers_stop (Fault f) g = record { given = record { either = inl (f, g.given, refl) } }
  answers_stop Memory g = record { given = tt }

module _ {A : Type 0} (b : Bool) (f : SchemaFault) (m : Stretch A) where
  -- the rule is broken
  pub answers_refused : (g : SchemaFault) → b ≡ true → g ≡ f → Answers (Unless b f m) (Err (Fault g))
  answers_refused g is same = subst (λ x. Answers (Unless b f m) (Err (Fault x))) (sym same) (record { given = record { either = inl (is, refl) } })

  -- it is, or memory is wanted
  pub answers_refusal : (e : SchemaError) → b ≡ true → (e ≡ Fault f) ⊎ (e ≡ Memory) → Answers (Unless b f m) (Err e)
  answers_refusal e is (inl refused) = subst (λ x. Answers (Unless b f m) (Err x)) (sym refused) (answers_refused f is refl)
  answers_refusal e is (inr late) = answers_late (Unless b f m) e late

  -- it isn't
  pub answers_unless : (r : Result A SchemaError) → b ≡ false → Answers m r → Answers (Unless b f m) r
  answers_unless (Ok a) is h = record { given = record { either = inr (is, h.given) } }
  answers_unless (Err (Fault g)) is h = record { given = record { either = inr (is, h.given) } }
  answers_unless (Err Memory) is h = record { given = tt }
